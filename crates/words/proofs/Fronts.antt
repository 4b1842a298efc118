-- Bytes that begin with one word only, or with none.
use Rattle.std.proofs.Common.{◌≡◌, ℕ, ◌<◌, true, false, ◌||◌, eqb, subst, Option, None, Some, List, [], ◌∷◌, ◌++◌, length, get_or, drop, sym, refl, ap, ◌∙◌, inl, inr, append_assoc, append-nil, arith}
use borrow.Author.Tests.{eqb-true}
use Rattle.std.specs.Borrow.{Bor}
use Rattle.std.specs.List.{list_any}
use Rattle.std.specs.Option.{MatchOption}
use Rattle.words.specs.Values.{NoText}
use Rattle.words.specs.Lines.{Free, Plain, IsWord, Stops, NoFirstWord, NoWords, spaced}

-- two ways to cut the same bytes where b first stands are one
pub cut_once : (b : ℕ) (p q s t : List ℕ) → Free b p → Free b q → Stops b s → Stops b t → p ++ s ≡ q ++ t → (p ≡ q) × (s ≡ t)
cut_once b [] [] s t fp fq es et e = (refl, e)
cut_once b [] (y ∷ q) s t fp fq (inl none) et e = cc
cut_once b [] (y ∷ q) s t fp fq (inr next) et e = absurd (fq.0 (ap (λ l. get_or l 0 0) (sym e ∙ next.1)))
cut_once b (x ∷ p) [] s t fp fq es (inl none) e = cc
cut_once b (x ∷ p) [] s t fp fq es (inr next) e = absurd (fp.0 (ap (λ l. get_or l 0 0) (e ∙ next.1)))
cut_once b (x ∷ p) (y ∷ q) s t fp fq es et e =
    let same = cut_once b p q s t fp.1 fq.1 es et (ap (drop 1) e) in
    ((λ k. ap (λ l. get_or l 0 0) e k ∷ same.0 k), same.1)

-- no plain word begins with a mark
pub marked : (bytes w tail : List ℕ) → get_or bytes 0 0 ≡ 34 → Plain w → bytes ≡ w ++ tail → ⊥
marked bytes [] tail h plain e = omega (arith, plain.0)
marked bytes (x ∷ w) tail h plain e = plain.2.0 (ap (λ l. get_or l 0 0) (sym e) ∙ h)

-- a word between marks, from what stands behind the first
inside : (inner i w tail : List ℕ) → w ≡ 34 ∷ (i ++ (34 ∷ [])) → 34 ∷ inner ≡ w ++ tail → inner ≡ i ++ (34 ∷ tail)
inside inner i w tail is e = ap (drop 1) (e ∙ ap (λ l. l ++ tail) is) ∙ append_assoc i (34 ∷ []) tail

-- no second mark
pub unclosed : (bytes inner : List ℕ) → bytes ≡ 34 ∷ inner → Free 34 inner → NoFirstWord bytes
unclosed bytes inner mark free w tail (inl plain) ends e = marked bytes w tail (ap (λ l. get_or l 0 0) mark) plain e
unclosed bytes inner mark free w tail (inr (i, fi, is)) ends e =
    let same = cut_once 34 inner i [] (34 ∷ tail) free fi (inl refl) (inr (tail, refl)) (append-nil inner ∙ inside inner i w tail is (sym mark ∙ e)) in
    let no : [] ≡ 34 ∷ tail = same.1 in cc

-- something else than a space behind the second mark
pub unspaced : (bytes inner t close : List ℕ) → bytes ≡ 34 ∷ inner → Free 34 t → inner ≡ t ++ (34 ∷ close) → 0 < length close → (get_or close 0 0 ≡ 32 → ⊥) → NoFirstWord bytes
unspaced bytes inner t close mark free cut some other w tail (inl plain) ends e = marked bytes w tail (ap (λ l. get_or l 0 0) mark) plain e
unspaced bytes inner t close mark free cut some other w tail (inr (i, fi, is)) ends e =
    let same = cut_once 34 t i (34 ∷ close) (34 ∷ tail) free fi (inr (close, refl)) (inr (tail, refl)) (sym cut ∙ inside inner i w tail is (sym mark ∙ e)) in
    let end : close ≡ tail = ap (drop 1) same.1 in
    elim ends [ inl none ↦ omega (arith, ap length (end ∙ none)) | inr next ↦ other (ap (λ l. get_or l 0 0) (end ∙ next.1)) ]

-- what stands behind a plain front
pub stopped : (bytes p : List ℕ) (behind : Option (Bor (List ℕ))) → MatchOption behind (bytes ≡ p) (λ next. bytes ≡ p ++ (32 ∷ next.now)) → (s : List ℕ) × Stops 32 s × (bytes ≡ p ++ s)
stopped bytes p None cut = ([], inl refl, cut ∙ sym (append-nil p))
stopped bytes p (Some next) cut = (32 ∷ next.now, inr (next.now, refl), cut)

-- a plain front that is no word
pub unplain : (bytes p s : List ℕ) → (get_or bytes 0 0 ≡ 34 → ⊥) → Free 32 p → Stops 32 s → bytes ≡ p ++ s → (Plain p → ⊥) → NoFirstWord bytes
unplain bytes p s other free stops cut none w tail (inl plain) ends e =
    let same : p ≡ w = (cut_once 32 p w s tail free plain.1 stops ends (sym cut ∙ e)).0 in none (subst Plain (sym same) plain)
unplain bytes p s other free stops cut none w tail (inr (i, fi, is)) ends e = other (ap (λ l. get_or l 0 0) (e ∙ ap (λ l. l ++ tail) is))

-- bytes that hold one are not free of it
pub held : (b : ℕ) (bs : List ℕ) → list_any (λ x. eqb x b) bs ≡ true → Free b bs → ⊥
held b [] h free = cc
held b (x ∷ bs) h free =
    elim (eqb x b) as (λ t. eqb x b ≡ t → (t || list_any (λ x. eqb x b) bs) ≡ true → ⊥) [ true ↦ λ e _. free.0 (eqb-true x b e) | false ↦ λ _ k. held b bs k free.1 ] refl h

-- with no word at the front there are none
pub no_words : (bytes : List ℕ) → NoFirstWord bytes → NoWords bytes
no_words bytes none w [] falls = none w [] falls.1.0 (inl refl) (sym falls.0 ∙ sym (append-nil w))
no_words bytes none w (v ∷ vs) falls = none w (32 ∷ spaced (v ∷ vs)) falls.1.0 (inr (spaced (v ∷ vs), refl)) (sym falls.0)

unique : (w v s t : List ℕ) → IsWord w → IsWord v → Stops 32 s → Stops 32 t → w ++ s ≡ v ++ t → s ≡ t
unique w v s t (inl p) (inl q) es et e = (cut_once 32 w v s t p.1 q.1 es et e).1
unique w v s t (inl p) (inr (j, fj, js)) es et e = absurd (marked (w ++ s) w s (ap (λ l. get_or l 0 0) (e ∙ ap (λ l. l ++ t) js)) p refl)
unique w v s t (inr (i, fi, is)) (inl q) es et e = absurd (marked (v ++ t) v t (ap (λ l. get_or l 0 0) (sym e ∙ ap (λ l. l ++ s) is)) q refl)
unique w v s t (inr (i, fi, is)) (inr (j, fj, js)) es et e =
    let both : i ++ (34 ∷ []) ++ s ≡ j ++ (34 ∷ []) ++ t = ap (drop 1) (ap (λ l. l ++ s) (sym is) ∙ e ∙ ap (λ l. l ++ t) js) in
    ap (drop 1) (cut_once 34 i j (34 ∷ s) (34 ∷ t) fi fj (inr (s, refl)) (inr (t, refl)) (sym (append_assoc i (34 ∷ []) s) ∙ both ∙ append_assoc j (34 ∷ []) t)).1

-- behind a word and a space there are none either
pub next_words : (bytes w next : List ℕ) → IsWord w → bytes ≡ w ++ (32 ∷ next) → NoWords next → NoWords bytes
next_words bytes w next word cut none v [] falls =
    let no : 32 ∷ next ≡ [] = unique w v (32 ∷ next) [] word falls.1.0 (inr (next, refl)) (inl refl) (sym cut ∙ sym falls.0 ∙ sym (append-nil v)) in cc
next_words bytes w next word cut none v (u ∷ us) falls =
    none u us
    (sym (ap (drop 1) (unique w v (32 ∷ next) (32 ∷ spaced (u ∷ us)) word falls.1.0 (inr (next, refl)) (inr (spaced (u ∷ us), refl)) (sym cut ∙ sym falls.0))), falls.1.1)

-- behind a mark there is no text that the next mark ends
no_text : (bs : List ℕ) → ((t : List ℕ) → Free 34 t → bs ≡ t ++ (34 ∷ []) → ⊥) → NoText (34 ∷ bs)
no_text bs none = (
  λ e. let h : 34 ≡ 110 = ap (λ l. get_or l 0 0) e in omega arith,
  λ t _ w. elim w [ inl q ↦ none t q.0 (ap (drop 1) q.1) | inr e ↦ let h : 34 ≡ 126 = ap (λ l. get_or l 0 0) e in omega arith ],
)

pub not_last : (bs p close : List ℕ) → Free 34 p → bs ≡ p ++ (34 ∷ close) → 0 < length close → NoText (34 ∷ bs)
not_last bs p close free cut some =
    no_text bs (λ t f e. omega (arith, ap length (cut_once 34 p t (34 ∷ close) (34 ∷ []) free f (inr (close, refl)) (inr ([], refl)) (sym cut ∙ e)).1))
