-- Free pages are read back in one way only.
use Rattle.std.proofs.Common.{◌≡◌, ℕ, ◌/◌, ◌%◌, List, [], length, take, drop, get_or, sym, ap, ◌∙◌, inl, inr, arith, Ok, Err, Result, MatchResult}
use Rattle.layout.specs.declared.fault.PageFault.{PageFault}
use Rattle.layout.specs.declared.fault.PageFault.TheVariants.{Damaged, Full, KeyLength}
use Rattle.layout.specs.Free.{free_bytes, StopsFree, NoFree}
use Rattle.layout.proofs.Wrongs.{zero_at}

not_stopped : (page : List ℕ) (next at : ℕ) → page ≡ free_bytes (length page) next → StopsFree page at → ⊥
not_stopped page next at e (inl s) = s.1 (next, ap (take 4) e)
not_stopped page next at e (inr s) =
    let first = s.1.2 in
    let d = ap (drop 4) e in
    first.2 (ap (λ (l : List ℕ). get_or l s.1.0 0) d ∙ zero_at (length page) s.1.0 [] (omega (arith, first.0, ap length d)))

pub free_accepts : (page : List ℕ) (r : Result ℕ PageFault) → MatchResult r (λ n. page ≡ free_bytes (length page) n) (λ fault. NoFree page fault) →
    (next : ℕ) → page ≡ free_bytes (length page) next → r ≡ Ok next
free_accepts page (Ok n) h next e =
    let a : n / 256 ≡ next / 256 = ap (λ (l : List ℕ). get_or l 2 0) (sym h ∙ e) in
    let b : n % 256 ≡ next % 256 = ap (λ (l : List ℕ). get_or l 3 0) (sym h ∙ e) in
    let q : n ≡ next = omega arith in
    ap Ok q
free_accepts page (Err (Damaged at)) h next e = absurd (not_stopped page next at e h)
free_accepts page (Err Full) h next e = absurd h
free_accepts page (Err KeyLength) h next e = absurd h
