use Rattle.std.proofs.Common.{◌≡◌, ◌<◌, length, List, ℕ, [], ◌∷◌, ◌++◌, vec_items, Option, None, sym, ap, ◌∙◌, subst, arith}
use Rattle.std.specs.Borrow.{Bor}
use Rattle.std.specs.Option.{MatchOption}
use Rattle.std.proofs.lemmas.List.{map_push}
use Rattle.words.specs.Lines.{Falls, lent}
use Rattle.std.proofs.lemmas.Result.{err_from_is_err_and}
use Rattle.words.proofs.Fronts.{no_words}
use Rattle.words.proofs.Splits.{Sofar, pushed}
use Rattle.words.proofs.line.split.Goals as goal

pub loop-rest-preserved : goal.loop-rest-preserved
loop-rest-preserved c =
    let line = c.args.line.now in
    let words = vec_items c.loop-rest.words in
    let w = c.in_ok-word.word in
    let behind = c.in_ok-word.behind in
    let P : List (List ℕ) → Option (Bor (List ℕ)) → Type 0 = λ ws o. MatchOption o (Falls line ws × (0 < length ws)) (λ b. Sofar line ws b.now) in
    let more : lent (vec_items c.push.new.self) ≡ lent words ++ (w.now ∷ []) = ap lent c.in_ok-push.ensures.items ∙ map_push (λ r. r.now) words w in
    subst (λ (ws : List (List ℕ)). P ws behind) (sym more)
    (pushed line (lent words) c.in-Some.bytes.now w.now behind (subst (λ (o : Option (Bor (List ℕ))). P (lent words) o) c.in-Some.is c.loop-rest.invariant) (rw c.in_ok-word.ensures.ok_part at c.first_word.ensures))

pub returns-in_err-word : goal.returns-in_err-word
returns-in_err-word c =
    let line = c.args.line.now in
    let bytes = c.in-Some.bytes.now in
    let missing : c.first_word.result ≡ None = grind (arith, c.in_err-word.ensures.value) in
    let P : Option (Bor (List ℕ)) → Type 0 = λ o. MatchOption o (Falls line (lent (vec_items c.loop-rest.words)) × (0 < length (lent (vec_items c.loop-rest.words)))) (λ b. Sofar line (lent (vec_items c.loop-rest.words)) b.now) in
    let sofar = subst P c.in-Some.is c.loop-rest.invariant in
    let p = err_from_is_err_and c.from_residual.result c.from_residual.ensures.1 in rw p.1 (λ _. sofar.2 (no_words bytes (rw missing at c.first_word.ensures)))
