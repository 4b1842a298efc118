-- What headers' pages tell.
use Rattle.std.proofs.Common.{◌≡◌, sym, ap, ◌∙◌, ℕ, ◌-◌, ◌%◌, ◌^◌, ◌≤◌, Bool, true, false, ◌&&◌, cond, List, length, drop, Some, None, subst, arith, ltb, leb}
use Rattle.std.specs.Prelude.{Option}
use Rattle.std.proofs.lemmas.Bool.{eq-eqb, le-leb, lt-ltb, le-ltb}
use Rattle.std.proofs.Math.ListN.{get_or}
use Rattle.keys.specs.declared.plan.Plan.{Plan}
use Rattle.keys.specs.Means.{directions_of}
use Rattle.header.specs.declared.head.Header.{Header}
use Rattle.header.specs.declared.fault.HeaderFault.TheVariants.{Field}
use Rattle.header.specs.Directions.{direction_bits}
use Rattle.header.specs.Headers.{numbers}
use Rattle.header.specs.Fields.{numbers_in}
use Rattle.header.specs.Reading.{Fits, blank, field_or_edit, numbers_fault}
use Rattle.header.specs.ReadsBack.{NoFault, OneHeader, Same}
use Rattle.header.proofs.Numbers.{length-take_at_most}
use Rattle.header.proofs.Columns.{spare, same_directions}
use Rattle.header.proofs.ReadPages.{page_long, page_numbers, page_back, zeros_blank}

-- a right field, and no fault behind it
right_field : (t : Bool) (o : Option ℕ) (bit e : ℕ) → t ≡ true → field_or_edit o e ≡ None → field_or_edit (cond t o (Some bit)) e ≡ None
right_field t o bit e h k = ap (λ z. field_or_edit (cond z o (Some bit)) e) h ∙ k

both : (s t : Bool) → s ≡ true → t ≡ true → (s && t) ≡ true
both s t h k = ap (λ z. z && t) h ∙ k

few_columns : (p : Plan) → length (directions_of p) ≤ 8
few_columns p = let w = p.columns.within in omega (arith, length-take_at_most p.columns.count p.columns.items)

numbers_right : (n l : ℕ) (h : Header) → Fits n l h → numbers_fault n l (numbers h) true ≡ None
unfolding numbers_fault
numbers_right n l h f =
    let ds = directions_of h.plan in
    let few = few_columns h.plan in
    let e : ℕ = cond h.edit_open 1 0 in
    let rest : field_or_edit None e ≡ None = ap (λ b. field_or_edit None (cond b 1 0)) f.at_rest in
    right_field _ _ _ _ (eq-eqb h.pages n f.pages)
    (right_field _ _ _ _ (eq-eqb h.page_len l f.page_len)
    (right_field _ _ _ _ (le-leb 1 h.levels f.levels)
    (right_field _ _ _ _ (both (leb 1 (length ds)) (leb (length ds) 8) (le-leb 1 (length ds) h.plan.some) (le-leb (length ds) 8 few))
    (right_field _ _ _ _ (eq-eqb (direction_bits 8 ds % 2 ^ (8 - length ds)) 0 (spare 8 ds few))
    (right_field _ _ _ _ (both (leb 1 h.root) (ltb h.root n) (le-leb 1 h.root f.root) (lt-ltb h.root n f.root_within))
    (right_field _ _ _ _ (lt-ltb h.first_free n f.first_free) rest))))))

pub no_fault : (n l : ℕ) (page : List ℕ) → NoFault n l page
unfolding NoFault
no_fault n l page h within e f =
    let len = length page in
    let vs = numbers h in
    let long : 18 ≤ len = subst (λ z. 18 ≤ length z) (sym e) (page_long len vs) in
    let t : ltb len 18 ≡ false = le-ltb len 18 long in
    let held : numbers_in page ≡ vs = ap numbers_in e ∙ page_numbers len vs within in
    let zeros : blank (drop 18 page) ≡ true = ap (λ z. blank (drop 18 z)) e ∙ ap blank (page_back len vs) ∙ zeros_blank (len - 18) in
    ap (λ z. cond z (Some (Field 0)) (numbers_fault n l (numbers_in page) (blank (drop 18 page)))) t
    ∙ ap (λ z. numbers_fault n l z (blank (drop 18 page))) held ∙ ap (numbers_fault n l vs) zeros ∙ numbers_right n l h f

same_numbers : (h g : Header) → numbers h ≡ numbers g → Same h g
same_numbers h g e =
    let n : length (directions_of h.plan) ≡ length (directions_of g.plan) = ap (λ vs. get_or vs 6 0) e in
    let b : direction_bits 8 (directions_of h.plan) ≡ direction_bits 8 (directions_of g.plan) = ap (λ vs. get_or vs 7 0) e in
    (e, same_directions 8 (directions_of h.plan) (directions_of g.plan) n (few_columns h.plan) b)

pub one_header : OneHeader
unfolding OneHeader
one_header len h g a b e = same_numbers h g (sym (page_numbers len (numbers h) a) ∙ ap numbers_in e ∙ page_numbers len (numbers g) b)
