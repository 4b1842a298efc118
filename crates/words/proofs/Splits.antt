-- A line that falls into words.
use Rattle.std.proofs.Common.{◌<◌, ◌≡◌, ℕ, ◌+◌, List, [], ◌∷◌, ◌++◌, length, take, Option, None, Some, sym, refl, ap, ◌∙◌, inr, append_assoc, append-nil, arith}
use Rattle.std.specs.List.{AllByRecursion}
use Rattle.std.proofs.ByRecursion.{All-push}
use Rattle.std.proofs.lemmas.List.{take_at, length-append}
use Rattle.std.specs.Borrow.{Bor}
use Rattle.std.specs.Option.{MatchOption}
use Rattle.words.specs.Lines.{Free, FirstWord, IsWord, NoWords, spaced, Falls}
use Rattle.words.proofs.Fronts.{next_words}

-- each word with a space behind it
abbrev lead : List (List ℕ) → List ℕ
lead [] = []
lead (w ∷ ws) = w ++ (32 ∷ lead ws)

-- the words so far, each with its space, and the rest, which tells whether the line falls into words
abbrev pub Sofar : List ℕ → List (List ℕ) → List ℕ → Type 0
Sofar line ws rest = (lead ws ++ rest ≡ line) × AllByRecursion IsWord ws × (NoWords rest → NoWords line)

lead_push : (ws : List (List ℕ)) (w : List ℕ) → lead (ws ++ (w ∷ [])) ≡ lead ws ++ (w ++ (32 ∷ []))
lead_push [] w = refl
lead_push (v ∷ ws) w = ap (λ l. v ++ (32 ∷ l)) (lead_push ws w) ∙ sym (append_assoc v (32 ∷ lead ws) (w ++ (32 ∷ [])))

spaced_push : (ws : List (List ℕ)) (w : List ℕ) → spaced (ws ++ (w ∷ [])) ≡ lead ws ++ w
spaced_push [] w = refl
spaced_push (v ∷ []) w = sym (append_assoc v (32 ∷ []) w)
spaced_push (v ∷ u ∷ ws) w = ap (λ l. v ++ (32 ∷ l)) (spaced_push (u ∷ ws) w) ∙ sym (append_assoc v (32 ∷ lead (u ∷ ws)) w)

-- one word more, behind which stands a space
pub more : (line : List ℕ) (ws : List (List ℕ)) (rest w next : List ℕ) → Sofar line ws rest → IsWord w → rest ≡ w ++ (32 ∷ next) → Sofar line (ws ++ (w ∷ [])) next
more line ws rest w next (joined, all, none) word cut = (
  ap (λ l. l ++ next) (lead_push ws w) ∙ append_assoc (lead ws) (w ++ (32 ∷ [])) next ∙ ap (λ l. lead ws ++ l) (append_assoc w (32 ∷ []) next ∙ sym cut) ∙ joined,
  All-push IsWord ws w all word,
  λ h. none (next_words rest w next word cut h),
)

-- the last word
pub last : (line : List ℕ) (ws : List (List ℕ)) (rest w : List ℕ) → Sofar line ws rest → IsWord w → rest ≡ w → Falls line (ws ++ (w ∷ []))
last line ws rest w (joined, all, none) word cut = (
  spaced_push ws w ∙ ap (λ l. lead ws ++ l) (sym cut) ∙ joined,
  All-push IsWord ws w all word,
)

ends : (bytes w close : List ℕ) (behind : Option (Bor (List ℕ))) → bytes ≡ w ++ close → MatchOption behind (close ≡ []) (λ next. close ≡ 32 ∷ next.now) →
    MatchOption behind (bytes ≡ w) (λ next. bytes ≡ w ++ (32 ∷ next.now))
ends bytes w close None whole e = whole ∙ ap (λ l. w ++ l) e ∙ append-nil w
ends bytes w close (Some next) whole e = whole ∙ ap (λ l. w ++ l) e

-- one word more, and what stands behind it
pub pushed : (line : List ℕ) (ws : List (List ℕ)) (bytes w : List ℕ) (behind : Option (Bor (List ℕ))) → Sofar line ws bytes → FirstWord bytes w behind →
    MatchOption behind (Falls line (ws ++ (w ∷ [])) × (0 < length (ws ++ (w ∷ [])))) (λ next. Sofar line (ws ++ (w ∷ [])) next.now)
pushed line ws bytes w None sofar (word, cut) = (last line ws bytes w sofar word cut, omega (arith, length-append ws (w ∷ [])))
pushed line ws bytes w (Some next) sofar (word, cut) = more line ws bytes w next.now sofar word cut

-- a word between marks, from what stands behind the first
pub quoted_front : (bytes inner t close w : List ℕ) (behind : Option (Bor (List ℕ))) → bytes ≡ 34 ∷ inner → Free 34 t → inner ≡ t ++ (34 ∷ close) →
    w ≡ take (length t + 2) bytes → MatchOption behind (close ≡ []) (λ next. close ≡ 32 ∷ next.now) → FirstWord bytes w behind
quoted_front bytes inner t close w behind mark free cut front rest =
    let q = 34 ∷ (t ++ (34 ∷ [])) in
    let whole : bytes ≡ q ++ close = mark ∙ ap (λ l. 34 ∷ l) (cut ∙ sym (append_assoc t (34 ∷ []) close)) in
    let same : w ≡ q = front ∙ ap (take (length t + 2)) whole ∙ take_at q close (length t + 2) (omega (arith, length-append t (34 ∷ []))) in
    (inr (t, free, same), ends bytes w close behind (whole ∙ ap (λ l. l ++ close) (sym same)) rest)
