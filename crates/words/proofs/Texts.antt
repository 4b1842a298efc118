-- Texts as words, read and printed.
use Rattle.std.proofs.Common.{◌≡◌, ℕ, ◌-◌, ◌/◌, ◌<◌, ◌≤◌, ◌⊎◌, Bool, true, false, cond, not, eqb, ltb, Option, None, Some, List, ◌∷◌, ◌++◌, length, get_or, take, drop, sym, refl, ap, ◌∙◌, subst, inr, arith}
use Rattle.std.proofs.lemmas.List.{take_all, drop_at, drop_more, length-take-le, get_or-take, take_rest}
use Rattle.std.proofs.ByRecursion.{All-from_get_or}
use Rattle.std.proofs.lemmas.Bool.Decides.{nat_tests}
use Rattle.std.proofs.lemmas.List.Sums.{prefix_len-le-length, fails_before_first}
use Rattle.std.specs.List.{before_first, position, position_or_len}
use Rattle.std.specs.Option.{MatchOption}
use Rattle.codes.specs.Values.{text}
use Rattle.words.specs.Hex.{Added}
use Rattle.words.specs.Lines.{Free}
use Rattle.words.proofs.Pairs.{length_hex}
use Rattle.words.specs.Values.{Writes, quoted, tilded}

-- bytes that were added behind others, by their place
pub placed : (before t after : List ℕ) (start n : ℕ) → length before ≡ start → after ≡ before ++ t → n ≡ length t → take n (drop start after) ≡ t
placed before t after start n s e h =
    ap (λ l. take n (drop start l)) e ∙ ap (take n) (drop_at before t start s) ∙ take_all n t (omega arith)

-- up to the first byte b there is none
pub free_front : (b : ℕ) (bs : List ℕ) (i : ℕ) → i ≤ length bs → ((k : ℕ) → k < i → get_or bs k 0 ≡ b → ⊥) → Free b (take i bs)
free_front b bs i h none =
    All-from_get_or (λ x. x ≡ b → ⊥) (take i bs) 0
    (λ k lt e. let small : k < i = omega (arith, length-take-le i bs h) in none k small (sym (get_or-take i bs k 0 small) ∙ e))

-- what stands before the first byte b
pub free_before : (b : ℕ) (bs : List ℕ) → Free b (before_first (λ x. eqb x b) bs)
free_before b bs =
    free_front b bs (position_or_len (λ x. eqb x b) bs) (prefix_len-le-length (λ x. not (eqb x b)) bs)
    (λ k lt e. let no : eqb (get_or bs k 0) b ≡ false = fails_before_first (λ x. eqb x b) bs k 0 lt in grind (arith, nat_tests))

none_is : (t : Bool) (n : ℕ) → None ≡ cond t (Some n) None → t ≡ false
none_is true n e = cc
none_is false n e = refl

some_is : (t : Bool) (n i : ℕ) → Some i ≡ cond t (Some n) None → n ≡ i
some_is true n i e = cc
some_is false n i e = cc

-- what stands before a byte b, by its place
pub free_cut : (b : ℕ) (bs : List ℕ) (o : Option ℕ) → o ≡ position (λ x. eqb x b) bs → MatchOption o (Free b bs) (λ i. Free b (take i bs))
free_cut b bs None e =
    let n = position_or_len (λ x. eqb x b) bs in
    let past : ltb n (length bs) ≡ false = none_is _ n e in
    subst (Free b) (take_all n bs (grind (arith, nat_tests))) (free_before b bs)
free_cut b bs (Some i) e = subst (λ (k : ℕ). Free b (take k bs)) (some_is _ _ i e) (free_before b bs)

pub tilded_writes : (w before after : List ℕ) (start n : ℕ) → length before ≡ start → n ≡ length w / 2 → Added w before after → Writes (126 ∷ w) (text (take n (drop start after)))
tilded_writes w before after start n s h a =
    let long : n ≡ length a.bytes = omega (arith, length_hex a.bytes, ap length a.writes) in
    let same = placed before a.bytes after start n s a.joins long in
    subst (λ (x : List ℕ). (Free 34 x × (126 ∷ w ≡ quoted x)) ⊎ (126 ∷ w ≡ tilded x)) (sym same) (inr (ap (λ l. 126 ∷ l) (sym a.writes)))

-- a first byte and the rest
pub headed : (w : List ℕ) (b : ℕ) → 0 < length w → get_or w 0 0 ≡ b → b ∷ take (length w - 1) (drop 1 w) ≡ w
headed w b h e = (λ t. sym e t ∷ take_rest w 1 t) ∙ sym (drop_more w 0 0 h)
