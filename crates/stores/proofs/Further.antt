-- What stands of cuts, seals and answers beyond what the proofs of this crate need, for the layers above.
use Rattle.std.specs.Prelude.{◌≡◌, ℕ, ◌+◌, ◌-◌, ◌*◌, ◌<◌, ◌≤◌, true, false, List, [], ◌∷◌, ◌++◌, length, get_or, take, drop, set, Ok, Err, Result, slice_index_or, slice_set, refl}
use Rattle.std.proofs.Common.{sym, ap, ◌∙◌, inl, inr, arith, rules}
use Rattle.std.proofs.lemmas.Bool.{cases_order}
use Rattle.std.proofs.lemmas.Bool.Decides.{nat_tests}
use Rattle.std.proofs.lemmas.Nat.{mod_below}
use Rattle.std.proofs.lemmas.Slice.{overwrites}
use Rattle.std.proofs.lemmas.List.{length-append, length-set, get_or-set_same, get_or-set_other, same_lists, take-take, places}
use borrow.Rule.Slice.PartMut.{put_mid}
use Rattle.refusals.specs.Answer.{gives, refuses, answer}
use Rattle.stores.specs.declared.fault.StoreFault.{StoreFault}
use Rattle.stores.specs.declared.fault.StoreFault.TheVariants.{NoSuchPage, WrongLength, Damaged, PageLength}
use Rattle.stores.specs.Pages.{Page, sound, damaged}
use Rattle.stores.specs.Faults.{store_told}
use Rattle.stores.specs.Areas.{cut, page_at}
use Rattle.stores.specs.Calls.{read_answer, read_buffer, write_answer, write_pages}
use Rattle.stores.specs.Sums.{check_a, check_b, seal_of, agrees_at, quad}
use Rattle.stores.specs.Opened.{opened, each, open_pages}
use Rattle.stores.specs.Steps.{Read, no_page, no_room, torn, read_err, write_sure}
use Rattle.stores.specs.Cuts.{length_cut, get_or_cut, ends, sized}
use Rattle.stores.specs.Eaches.{each_set}
use Rattle.stores.specs.Opens.{within, page_of}
use Rattle.stores.specs.Sealed.{opened_sound, opened_torn, opened_damaged, opened_fresh}

-- bytes written over an area from a place on
abbrev pub laid : List ℕ → ℕ → List ℕ → List ℕ
laid area at bytes = take at area ++ (bytes ++ drop (at + length bytes) area)

-- the part of the area that page p is
pub part_is : (len count p at n : ℕ) (area part : List ℕ) → p < count → count * len ≤ length area → at ≡ p * len → n ≡ len →
    part ≡ take n (drop at area) → (slice_index_or (cut len count area) p damaged ≡ sound part) × (length part ≡ len)
part_is len count p at n area part h w a m e =
    let g : get_or (cut len count area) p damaged ≡ sound part = get_or_cut len count area p damaged h ∙ ap sound (sym (e ∙ rw (a, m) refl)) in
    (g, sized len count area p part w g)

-- a part that ends where the written one begins, or before
before : (len at k : ℕ) (area bytes : List ℕ) → k + len ≤ at → at ≤ length area →
    take len (drop k (laid area at bytes)) ≡ take len (drop k area)
before len at k area bytes h w = same_lists _ _ (search (rules, places)) (λ j d l. grind (arith, places))

-- what lies behind the written part
pub after : (at k : ℕ) (area bytes : List ℕ) → at + length bytes ≤ k → at ≤ length area →
    drop k (laid area at bytes) ≡ drop k area
after at k area bytes h w = same_lists _ _ (search (rules, places)) (λ j d l. grind (arith, places))

-- the written part
here : (n at : ℕ) (area bytes : List ℕ) → length bytes ≡ n → at ≤ length area →
    take n (drop at (laid area at bytes)) ≡ bytes
here n at area bytes e w = same_lists _ _ (search (rules, places)) (λ j d l. grind (arith, places))

-- bytes laid where page p stands are page p, and the others stay
pub cut_laid : (len count p : ℕ) (area bytes : List ℕ) → p < count → count * len ≤ length area → length bytes ≡ len →
    cut len count (laid area (p * len) bytes) ≡ slice_set (cut len count area) p (sound bytes)
cut_laid len count p area bytes h w e =
    same_lists _ _ (length_cut len count _ ∙ sym (length-set (cut len count area) p (sound bytes) ∙ length_cut len count area)) each
  where
    each : (k : ℕ) (d : Page) → k < length (cut len count (laid area (p * len) bytes)) →
        slice_index_or (cut len count (laid area (p * len) bytes)) k d ≡ slice_index_or (slice_set (cut len count area) p (sound bytes)) k d
    each k d l =
        let lk : k < count = omega (arith, length_cut len count (laid area (p * len) bytes)) in
        let at-k = get_or_cut len count (laid area (p * len) bytes) k d lk in
        let was-k = get_or_cut len count area k d lk in
        let top = ends count len p h in
        elim (cases_order k p) [
          | inl same ↦
              let same-page : page_at len (laid area (p * len) bytes) k ≡ sound bytes =
              rw same (ap sound (here len (p * len) area bytes e (omega arith))) in
              let s = get_or-set_same (cut len count area) p (sound bytes) d (rw length_cut h) in
              at-k ∙ same-page ∙ rw same (sym s)
          | inr (inl less) ↦
              let o = get_or-set_other (cut len count area) p k (sound bytes) d (λ q. omega arith) in
              at-k ∙ ap sound (before len (p * len) (k * len) area bytes (ends p len k less) (omega arith)) ∙ sym (o ∙ was-k)
          | inr (inr more) ↦
              let o = get_or-set_other (cut len count area) p k (sound bytes) d (λ q. omega arith) in
              let far = ends k len p more in
              at-k ∙ ap (λ (x : List ℕ). sound (take len x)) (after (p * len) (k * len) area bytes (omega arith) (omega arith)) ∙ sym (o ∙ was-k)
        ]

-- a sum that seals a page is below 65,535
pub check_a_below : (p : ℕ) (bytes : List ℕ) → check_a p bytes < 65535
check_a_below p bytes = mod_below _ 65535 (omega arith)

pub check_b_below : (bytes : List ℕ) → check_b bytes < 65535
check_b_below bytes = mod_below _ 65535 (omega arith)

-- the two parts of a page, written one after the other
pub two_parts : (bytes page front back : List ℕ) (a b n m : ℕ) → length page ≡ length bytes + 4 → front ≡ bytes →
    back ≡ quad a b → n ≡ 4 → m ≡ length bytes → put_mid (length bytes) n (put_mid 0 m page front) back ≡ bytes ++ quad a b
two_parts bytes page front back a b n m l f e h k = search (rules, overwrites)

-- a number with its values belongs to one fault
told_page : (e : StoreFault) (p : ℕ) → answer {A = Unit {0}} store_told (Err e) ≡ refuses 9 (p ∷ []) → e ≡ NoSuchPage p
told_page (NoSuchPage q) p h = cc
told_page WrongLength p h = absurd (let z : ◌≡◌ {A = ℕ} 8 9 = cc in omega arith)
told_page (Damaged q) p h = absurd (let z : ◌≡◌ {A = ℕ} 10 9 = cc in omega arith)
told_page PageLength p h = absurd (let z : ◌≡◌ {A = ℕ} 11 9 = cc in omega arith)

told_length : (e : StoreFault) → answer {A = Unit {0}} store_told (Err e) ≡ refuses 8 [] → e ≡ WrongLength
told_length (NoSuchPage q) h = absurd (let z : ◌≡◌ {A = ℕ} 9 8 = cc in omega arith)
told_length WrongLength h = refl
told_length (Damaged q) h = absurd (let z : ◌≡◌ {A = ℕ} 10 8 = cc in omega arith)
told_length PageLength h = absurd (let z : ◌≡◌ {A = ℕ} 11 8 = cc in omega arith)

told_damaged : (e : StoreFault) (p : ℕ) → answer {A = Unit {0}} store_told (Err e) ≡ refuses 10 (p ∷ []) → e ≡ Damaged p
told_damaged (NoSuchPage q) p h = absurd (let z : ◌≡◌ {A = ℕ} 9 10 = cc in omega arith)
told_damaged WrongLength p h = absurd (let z : ◌≡◌ {A = ℕ} 8 10 = cc in omega arith)
told_damaged (Damaged q) p h = cc
told_damaged PageLength p h = absurd (let z : ◌≡◌ {A = ℕ} 11 10 = cc in omega arith)

-- an answer that gives is no refusal
told_none : (r : Result (Unit {0}) StoreFault) → answer store_told r ≡ gives tt → r ≡ Ok tt
told_none (Ok u) h = refl
told_none (Err e) h = absurd (let z : ◌≡◌ {A = ℕ} 0 1 = cc in omega arith)

module _ (low : ℕ) (pages : List Page) (p : ℕ) (h : p < length (open_pages low pages)) where
  at_page : get_or (open_pages low pages) p damaged ≡ opened p (slice_index_or pages p damaged)
  at_page = page_of low pages p h

  -- the store below refused, so its page is damaged
  pub opens_break : (buf out : List ℕ) (e : StoreFault) → low ≤ length buf →
      answer {A = Unit {0}} store_told (Err e) ≡ read_answer low pages p (length buf) → out ≡ read_buffer low pages p buf →
      (slice_index_or (open_pages low pages) p damaged ≡ damaged) × (e ≡ Damaged p)
  opens_break buf out e l a o =
      let w = within low pages p h in let lo = w.lower in
      elim (read_err low pages p buf out e a o).1 [
        | no_page e q ↦ absurd (omega arith)
        | no_room e q m ↦ absurd (omega arith)
        | torn e q m x ↦ (at_page ∙ ap (opened p) x ∙ opened_damaged p, e)
      ]

  -- the store below gave its page: the first n bytes of the buffer, as they are read for the check
  module _ (buf out : List ℕ) (n : ℕ) (k : Read low pages p buf out) (m : n ≡ low) where
    whole_page : take (n - 0) out ≡ k.bytes
    whole_page = let e : n - 0 ≡ low = omega arith in rw e k.front

    data_count : length k.bytes - 4 ≡ n - 4
    data_count = ap (λ j. j - 4) (k.sized ∙ sym m)

    -- the seal does not agree
    pub opens_torn : false ≡ agrees_at (n - 4) p (take (n - 0) out) → slice_index_or (open_pages low pages) p damaged ≡ damaged
    opens_torn t = at_page ∙ ap (opened p) k.page ∙ opened_torn p (n - 4) k.bytes data_count (sym (rw whole_page at t))

    -- the seal agrees
    pub opens_whole : true ≡ agrees_at (n - 4) p (take (n - 0) out) → slice_index_or (open_pages low pages) p damaged ≡ sound (take (low - 4) out)
    opens_whole t =
        let same : take (n - 4) k.bytes ≡ take (low - 4) out =
        rw m (ap (take (low - 4)) (sym k.front) ∙ take-take (low - 4) low out (omega arith)) in
        at_page ∙ ap (opened p) k.page ∙ opened_sound p (n - 4) k.bytes data_count (sym (rw whole_page at t)) ∙ ap sound same

  -- a page written below with its seal is the page of the sealed store
  pub put_sealed : (bytes part : List ℕ) (r : Result (Unit {0}) StoreFault) (low' : ℕ) (after : List Page) →
      length bytes ≡ low - 4 → part ≡ bytes ++ seal_of p bytes → answer store_told r ≡ write_answer low pages p (length part) →
      low' ≡ low → after ≡ write_pages low pages p part →
      (r ≡ Ok tt) × (open_pages low' after ≡ slice_set (open_pages low pages) p (sound bytes))
  put_sealed bytes part r low' after l e a s w =
      let i = within low pages p h in let lo = i.long in let lp = i.lower in
      let n = ap length e ∙ length-append bytes (seal_of p bytes) in
      let sure = write_sure low pages p part after r lp (omega arith) a w in
      let all : open_pages low' after ≡ each opened after = grind (arith, nat_tests) in (
        sure.0,
        all ∙ ap (each opened) sure.1.put ∙ each_set opened pages p (sound part) lp
            ∙ rw (e, opened_fresh p bytes) (ap (λ (x : List Page). set x p (sound bytes)) (sym i.are)),
      )
