-- Reading a text, and reading a value of the kind that its first byte tells.
use Rattle.std.proofs.Common.{◌≡◌, ℕ, suc, ◌+◌, ◌<◌, ◌≤◌, List, [], ◌∷◌, ◌++◌, length, get_or, take, drop, Err, sym, refl, ap, ◌∙◌, subst, inl, inr, append_assoc, arith, length-append, length-take, drop-cons}
use Rattle.std.proofs.lemmas.List.{take_all, take-append-drop}
use Rattle.codes.specs.declared.sign.Sign.TheVariants.{Negative, Positive}
use Rattle.codes.specs.declared.class.Class.{Class}
use Rattle.codes.specs.declared.class.Class.TheVariants.{Foreign, Null, Zero, Near, Far, Small, Text}
use Rattle.codes.specs.declared.unread.Unread.{Unread}
use Rattle.codes.specs.declared.unread.Unread.TheVariants.{NoCode, NoRoom}
use Rattle.codes.specs.Strings.{Begins}
use Rattle.codes.specs.Decimals.{Number, naught, amount, Shaped}
use Rattle.codes.specs.Values.{Datum, null, decimal, text, TextBytes, Valid, spelled_in}
use Rattle.codes.specs.Codes.{body_of, datum_code, number_code, text_code}
use Rattle.codes.specs.Classes.{Rule}
use Rattle.codes.specs.Means.{datum_of, text_of}
use Rattle.codes.specs.Reading.{Starts, Begun, Stops, Read}
use Rattle.codes.proofs.Amounts.{number_full}
use Rattle.codes.proofs.Heads.{head_first, head_full}
use Rattle.codes.proofs.Readings.{begins_cons, head_stops}

-- a text's closing 00 does not stand in bytes without 00
no_end : (m r : List ℕ) → TextBytes r → Begins (m ++ (0 ∷ [])) r → ⊥
no_end [] [] c h = let e = ap length h.1 in omega arith
no_end [] (y ∷ r) c h = let e = (begins_cons 0 y [] r h).0 in omega (arith, c.0.0)
no_end (x ∷ m) [] c h = let e = ap length h.1 in omega arith
no_end (x ∷ m) (y ∷ r) c h = no_end m r c.1 (begins_cons x y (m ++ (0 ∷ [])) r h).1

-- a text that is cut off
pub text_cut : (r : List ℕ) → TextBytes r → Stops TextBytes text_code (0x24 ∷ r) (length r + 1)
text_cut r c = (
  λ m d h. no_end m r c (begins_cons 0x24 0x24 (m ++ (0 ∷ [])) r h).1,
  omega arith,
  (r, (c, (0 ∷ [], ap (λ z. z ++ (0 ∷ [])) (take_all (length r + 1) (0x24 ∷ r) (omega arith))))),
  λ l. absurd (omega arith),
)

pub text_found : (r : List ℕ) (i : ℕ) → i < length r → TextBytes (take i r) → get_or r i 0 ≡ 0 → Starts TextBytes text_code (0x24 ∷ r) (take i r) (i + 2)
text_found r i h c z = (
  c,
  let l : length (take i r) ≡ i = simp length-take (omega arith) in omega (arith, length-append (take i r) (0 ∷ [])),
  (
    drop (suc i) r,
    ap (λ w. 0x24 ∷ w)
        (append_assoc (take i r) (0 ∷ []) (drop (suc i) r)
        ∙ ap (λ w. take i r ++ (w ∷ drop (suc i) r)) (sym z)
        ∙ ap (λ w. take i r ++ w) (sym (drop-cons r i 0 h))
        ∙ take-append-drop i r),
  ),
)

-- bytes that do not begin as a text does
begun : Begun TextBytes text_code []
begun = ([], (tt, (0x24 ∷ 0 ∷ [], refl)))

-- the first bytes of the kinds
number_first : (n : Number) (x : ℕ) (ys : List ℕ) → number_code n ≡ x ∷ ys → (8 ≤ x) × (x ≤ 0x22)
number_first naught x ys h = let e : 0x15 ≡ x = cc in (omega arith, omega arith)
number_first (amount s e ds) x ys h =
    let f = head_full (s, e) in
    let q : f.0 ≡ x = let g = f.2 in let k = ap (λ z. z ++ body_of s ds) f.2 in cc in
    let l = head_first (s, e) f.0 f.1 f.2 in (omega (arith, l.0), omega (arith, l.1))

pub datum_full : (t : Datum) → Valid t → (y : ℕ) × (ys : List ℕ) × (datum_code t ≡ y ∷ ys)
datum_full null c = (0x05, [], refl)
datum_full (decimal n) c = number_full n
datum_full (text t) c = (0x24, t ++ (0 ∷ []), refl)

from_text : (t : Datum) → Valid t → (ys : List ℕ) → datum_code t ≡ 0x24 ∷ ys → (m : List ℕ) × (TextBytes m × (text_code m ≡ datum_code t))
from_text null c ys h = let e : ◌≡◌ {A = ℕ} 0x05 0x24 = cc in absurd (omega arith)
from_text (decimal n) c ys h = let l = number_first n 0x24 ys h in absurd (omega (arith, l.1))
from_text (text t) c ys h = (t, (c, refl))

from_number : (x : ℕ) → (x ≡ 0x05 → ⊥) → (x ≡ 0x24 → ⊥) → (t : Datum) → Valid t → (ys : List ℕ) → datum_code t ≡ x ∷ ys → (n : Number) × (Shaped n × (number_code n ≡ datum_code t))
from_number x no5 no24 null c ys h = absurd (no5 (let e : 0x05 ≡ x = cc in sym e))
from_number x no5 no24 (decimal n) c ys h = (n, (c, refl))
from_number x no5 no24 (text t) c ys h = absurd (no24 (let e : 0x24 ≡ x = cc in sym e))

pub text_stops : (xs : List ℕ) (p : ℕ) → Stops TextBytes text_code (0x24 ∷ xs) p → Stops Valid datum_code (0x24 ∷ xs) p
text_stops xs p s = head_stops TextBytes text_code Valid datum_code text (λ m c. (c, refl)) 0x24 xs p datum_full from_text s

pub number_stops : (x : ℕ) (xs : List ℕ) (p : ℕ) → (x ≡ 0x05 → ⊥) → (x ≡ 0x24 → ⊥) → Stops Shaped number_code (x ∷ xs) p → Stops Valid datum_code (x ∷ xs) p
number_stops x xs p no5 no24 s = head_stops Shaped number_code Valid datum_code decimal (λ m c. (c, refl)) x xs p datum_full (from_number x no5 no24) s

-- a text as a value
pub text_err : (b before after : List ℕ) (why : Unread) (xs : List ℕ) → b ≡ 0x24 ∷ xs → Read TextBytes text_code text_of (λ t. t) b before after (Err why) →
    Read Valid datum_code datum_of spelled_in b before after (Err why)
text_err b before after (NoCode p) xs e r =
    (subst (λ (z : List ℕ). Stops Valid datum_code z p.at) (sym e) (text_stops xs p.at (subst (λ (z : List ℕ). Stops TextBytes text_code z p.at) e r.0)), r.1)
text_err b before after NoRoom xs e r = ((text r.0.0, r.0.1, r.0.2), r.1)

nothing : Begun Valid datum_code []
nothing = (null, (tt, (0x05 ∷ [], refl)))

pub datum_none : Stops Valid datum_code [] 0
datum_none = (none, omega arith, nothing, λ l. absurd (omega arith))
  where
    none : (t : Datum) → Valid t → Begins (datum_code t) [] → ⊥
    none t c b = let f = datum_full t c in
        let z = subst (λ (u : List ℕ). u ++ b.0 ≡ []) f.2 b.1 in let w = ap length z in omega arith

-- only the class of null has its byte, and only that of texts theirs
pub own_byte : (k : Class) (b : ℕ) → Rule b k → ((k ≡ Null → ⊥) → b ≡ 0x05 → ⊥) × ((k ≡ Text → ⊥) → b ≡ 0x24 → ⊥)
own_byte Null b r = (λ n q. n refl, λ n q. omega arith)
own_byte Text b r = (λ n q. omega arith, λ n q. n refl)
own_byte Zero b r = (λ n q. omega arith, λ n q. omega arith)
own_byte (Far Negative) b r = (λ n q. omega arith, λ n q. omega arith)
own_byte (Far Positive) b r = (λ n q. omega arith, λ n q. omega arith)
own_byte (Small Negative) b r = (λ n q. omega arith, λ n q. omega arith)
own_byte (Small Positive) b r = (λ n q. omega arith, λ n q. omega arith)
own_byte (Near Negative e) b r = (λ n q. omega (arith, r.0, r.1), λ n q. omega (arith, r.0, r.1))
own_byte (Near Positive e) b r = (λ n q. omega (arith, r.0, r.1), λ n q. omega (arith, r.0, r.1))
own_byte Foreign b (inl r) = (λ n q. r.1 q, λ n q. omega (arith, r.0))
own_byte Foreign b (inr (inl r)) = (λ n q. omega arith, λ n q. omega arith)
own_byte Foreign b (inr (inr r)) = (λ n q. omega arith, λ n q. omega arith)
