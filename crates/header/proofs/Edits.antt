-- The edit bit in a header's page.
use Rattle.std.proofs.Common.{◌≡◌, refl, sym, ap, ◌∙◌, ℕ, ◌+◌, ◌-◌, ◌*◌, ◌/◌, ◌^◌, ◌<◌, ◌≤◌, Bool, true, false, cond, List, [], ◌∷◌, ◌++◌, length, drop, subst, arith}
use Rattle.std.proofs.Math.ListN.{replicate}
use Rattle.std.specs.Int.{bytes_high_first}
use Rattle.header.specs.declared.head.Header.{Header}
use Rattle.header.specs.Packing.{pack}
use Rattle.header.specs.Headers.{widths, numbers, packed_page, InFields}
use Rattle.header.specs.Editing.{with_edit, EditSet}
use Rattle.header.proofs.Bytes.{behind}
use Rattle.header.proofs.Packs.{above}

-- the packed fields behind the edit bit
rest : Header → ℕ
rest h = pack 0 (drop 3 widths) (drop 3 (numbers h))

rest_small : (h : Header) → InFields h → rest h < 256 ^ 16
unfolding rest
rest_small h w = let a : rest h / 2 ^ 128 ≡ 0 = above (drop 3 widths) (drop 3 (numbers h)) 0 w.1.1.1 in omega arith

all : (h : Header) → (42434 + cond h.edit_open 1 0) * 256 ^ 16 + rest h ≡ pack 0 widths (numbers h)
unfolding rest
all h = omega arith

front : (b : Bool) → bytes_high_first 2 (42434 + cond b 1 0) ≡ 165 ∷ (194 + cond b 1 0) ∷ []
front true = refl
front false = refl

shape : (len : ℕ) (h : Header) → InFields h → packed_page len (numbers h) ≡ 165 ∷ (194 + cond h.edit_open 1 0) ∷ (bytes_high_first 16 (rest h) ++ replicate (len - 18) 0)
unfolding packed_page
shape len h w =
    ap (λ z. bytes_high_first 18 z ++ replicate (len - 18) 0) (sym (all h))
    ∙ ap (λ z. z ++ replicate (len - 18) 0) (behind 2 16 (42434 + cond h.edit_open 1 0) (rest h) (rest_small h w) ∙ ap (λ z. z ++ bytes_high_first 16 (rest h)) (front h.edit_open))

turned : (b o : Bool) → (194 + cond b 1 0) / 2 * 2 + cond o 1 0 ≡ 194 + cond o 1 0
turned true true = refl
turned true false = refl
turned false true = refl
turned false false = refl

-- a flag fits one bit
pub bit : (o : Bool) → cond o 1 0 < 2
bit true = omega arith
bit false = omega arith

edit_set : (o : Bool) (page : List ℕ) → EditSet o page (with_edit o page)
unfolding EditSet rest
edit_set o page h w e =
    let len = length page in
    let g : Header = record h { edit_open = o } in
    let tail = bytes_high_first 16 (rest h) ++ replicate (len - 18) 0 in
    let v : InFields g = (w.0, (w.1.0, (bit o, w.1.1.1))) in
    let s = shape len h w in
    ap (with_edit o) (e ∙ s) ∙ ap (λ z. 165 ∷ z ∷ tail) (turned h.edit_open o) ∙ sym (shape len g v)

-- the same of bytes that are found to be these
pub edit_sets : (o : Bool) (before after : List ℕ) → after ≡ with_edit o before → EditSet o before after
edit_sets o before after e = subst (λ z. EditSet o before z) (sym e) (edit_set o before)

-- a page without a byte 1 stays
pub edit_none : (o : Bool) (page : List ℕ) → length page ≤ 1 → page ≡ with_edit o page
edit_none o [] h = refl
edit_none o (x ∷ []) h = refl
edit_none o (x ∷ (y ∷ ys)) h = absurd (omega arith)
