-- A page as the fields that it holds.
use Rattle.std.proofs.Common.{◌≡◌, refl, sym, ap, ◌∙◌, ℕ, zero, suc, ◌-◌, ◌/◌, ◌%◌, ◌^◌, ◌<◌, ◌≤◌, Bool, true, false, cond, List, [], ◌∷◌, ◌++◌, length, take, drop, Some, None, subst, arith, eqb, ltb, leb}
use Rattle.std.specs.Prelude.{Option, Result, Ok, Err, MatchResult}
use Rattle.header.specs.declared.head.Header.{Header}
use Rattle.header.specs.declared.fault.HeaderFault.TheVariants.{Field, EditOpen}
use Rattle.std.proofs.Math.ListN.{get_or, replicate}
use Rattle.std.proofs.lemmas.List.{length-take-le, length-drop, take-append-drop, length-append}
use Rattle.std.proofs.lemmas.Bool.{and_parts, eqb-true, leb-true, ltb-true, le-ltb}
use Rattle.std.specs.Int.{bytes_high_first}
use Rattle.std.specs.Int.Digits.{number_from_digits}
use Rattle.std.proofs.Math.Seq.{take-append_seam, drop-append_seam}
use Rattle.header.specs.declared.fields.Fields.{Fields}
use Rattle.header.specs.declared.fault.HeaderFault.{HeaderFault}
use Rattle.header.specs.Packing.{pack, unpack, Within}
use Rattle.header.specs.Headers.{widths, numbers, packed_page}
use Rattle.header.specs.Fields.{numbers_in, numbers_of}
use Rattle.header.specs.Reading.{blank, field_or_edit, numbers_fault, header_fault, HeaderRead}
use Rattle.header.proofs.Numbers.{bytes_below, front_below}
use Rattle.header.proofs.Bytes.{bytes_of_number, number_of_bytes, length_bytes}
use Rattle.header.proofs.Packs.{repack, above, unpacked, within}

-- bytes that are all 00
pub zeros : (xs : List ℕ) → blank xs ≡ true → xs ≡ replicate (length xs) 0
zeros [] h = refl
zeros (x ∷ xs) h = let p = and_parts (eqb x 0) (blank xs) h in ap (λ z. z ∷ xs) (eqb-true x 0 p.0) ∙ ap (λ z. 0 ∷ z) (zeros xs p.1)

pub zeros_blank : (n : ℕ) → blank (replicate n 0) ≡ true
zeros_blank zero = refl
zeros_blank (suc n) = zeros_blank n

-- a page that is blank behind its fields is the page of what they hold
pub page_read : (page vs : List ℕ) → ((j : ℕ) → get_or page j 0 < 256) → 18 ≤ length page → blank (drop 18 page) ≡ true → vs ≡ numbers_in page → page ≡ packed_page (length page) vs
unfolding packed_page
page_read page vs u l b e =
    let xs = take 18 page in
    let n = number_from_digits 256 xs in
    let lx : length xs ≡ 18 = length-take-le 18 page l in
    let small : n < 256 ^ 18 = front_below page 18 18 u (omega arith) in
    let none : n / 2 ^ 144 ≡ 0 = omega arith in
    let packs : pack 0 widths (unpack widths n) ≡ n = ap (λ z. pack z widths (unpack widths n)) (sym none) ∙ repack widths n in
    let front : bytes_high_first 18 (pack 0 widths vs) ≡ xs =
    ap (λ z. bytes_high_first 18 (pack 0 widths z)) e ∙ ap (bytes_high_first 18) packs ∙ ap (λ z. bytes_high_first z n) (sym lx) ∙ bytes_of_number xs (bytes_below 18 page u) in
    let back : drop 18 page ≡ replicate (length page - 18) 0 = zeros (drop 18 page) b ∙ ap (λ z. replicate z 0) (length-drop 18 page) in
    sym (take-append-drop 18 page) ∙ ap (λ z. z ++ drop 18 page) (sym front) ∙ ap (λ z. bytes_high_first 18 (pack 0 widths vs) ++ z) back

-- what the page of some numbers holds
pub page_front : (len : ℕ) (vs : List ℕ) → take 18 (packed_page len vs) ≡ bytes_high_first 18 (pack 0 widths vs)
unfolding packed_page
page_front len vs = (let z : 18 ≡ length (bytes_high_first 18 (pack 0 widths vs)) = sym (length_bytes 18 (pack 0 widths vs)) in ap (λ z. take z (bytes_high_first 18 (pack 0 widths vs) ++ replicate (len - 18) 0)) z) ∙ take-append_seam (bytes_high_first 18 (pack 0 widths vs)) (replicate (len - 18) 0)

pub page_back : (len : ℕ) (vs : List ℕ) → drop 18 (packed_page len vs) ≡ replicate (len - 18) 0
unfolding packed_page
page_back len vs = (let z : 18 ≡ length (bytes_high_first 18 (pack 0 widths vs)) = sym (length_bytes 18 (pack 0 widths vs)) in ap (λ z. drop z (bytes_high_first 18 (pack 0 widths vs) ++ replicate (len - 18) 0)) z) ∙ drop-append_seam (bytes_high_first 18 (pack 0 widths vs)) (replicate (len - 18) 0)

pub page_long : (len : ℕ) (vs : List ℕ) → 18 ≤ length (packed_page len vs)
unfolding packed_page
page_long len vs = omega (arith, length-append (bytes_high_first 18 (pack 0 widths vs)) (replicate (len - 18) 0), length_bytes 18 (pack 0 widths vs))

pub page_numbers : (len : ℕ) (vs : List ℕ) → Within widths vs → numbers_in (packed_page len vs) ≡ vs
page_numbers len vs w =
    let p = pack 0 widths vs in
    let top : p / 2 ^ 144 ≡ 0 = above widths vs 0 w in
    let n : number_from_digits 256 (take 18 (packed_page len vs)) ≡ p = ap (number_from_digits 256) (page_front len vs) ∙ number_of_bytes 18 p ∙ (let z : p % 256 ^ 18 ≡ p = omega arith in z) in
    ap (unpack widths) n ∙ unpacked widths vs 0 w

-- a field that has no fault, and those behind it
next : (t : Bool) (o : Option ℕ) (bit e : ℕ) → field_or_edit (cond t o (Some bit)) e ≡ None → (t ≡ true) × (field_or_edit o e ≡ None)
next true o bit e h = (refl, h)
next false o bit e h = absurd (cc)

none_or : (t : Bool) → cond t None (Some EditOpen) ≡ None → t ≡ true
none_or true h = refl
none_or false h = absurd (cc)

at_rest : (e : ℕ) → field_or_edit None e ≡ None → eqb e 0 ≡ true
at_rest e h = none_or (eqb e 0) h

-- what fields without a fault hold
pub record Right (n l : ℕ) (f : Fields) (b : Bool) : Type 0 where
  pub mark : f.mark ≡ 2652
  pub version : f.version ≡ 1
  pub edit : f.edit ≡ 0
  pub pages : f.pages ≡ n
  pub page_len : f.page_len ≡ l
  pub levels : 1 ≤ f.levels
  pub some : 1 ≤ f.columns
  pub few : f.columns ≤ 8
  pub spare : f.directions % 2 ^ (8 - f.columns) ≡ 0
  pub root : 1 ≤ f.root
  pub root_within : f.root < n
  pub first_free : f.first_free < n
  pub zero : f.zero ≡ 0
  pub blank : b ≡ true

pub right : (n l : ℕ) (f : Fields) (b : Bool) → numbers_fault n l (numbers_of f) b ≡ None → Right n l f b
unfolding numbers_fault
right n l f b h =
    let mark = next _ _ _ _ h in
    let version = next _ _ _ _ mark.1 in
    let pages = next _ _ _ _ version.1 in
    let page_len = next _ _ _ _ pages.1 in
    let levels = next _ _ _ _ page_len.1 in
    let columns = next _ _ _ _ levels.1 in
    let directions = next _ _ _ _ columns.1 in
    let root = next _ _ _ _ directions.1 in
    let free = next _ _ _ _ root.1 in
    let zero = next _ _ _ _ free.1 in
    let cs = and_parts (leb 1 f.columns) (leb f.columns 8) columns.0 in
    let rs = and_parts (leb 1 f.root) (ltb f.root n) root.0 in
    let zs = and_parts (eqb f.zero 0) b zero.0 in
    record {
      mark = eqb-true f.mark 2652 mark.0;
      version = eqb-true f.version 1 version.0;
      edit = eqb-true f.edit 0 (at_rest f.edit zero.1);
      pages = eqb-true f.pages n pages.0;
      page_len = eqb-true f.page_len l page_len.0;
      levels = leb-true 1 f.levels levels.0;
      some = leb-true 1 f.columns cs.0;
      few = leb-true f.columns 8 cs.1;
      spare = eqb-true (f.directions % 2 ^ (8 - f.columns)) 0 directions.0;
      root = leb-true 1 f.root rs.0;
      root_within = ltb-true f.root n rs.1;
      first_free = ltb-true f.first_free n free.0;
      zero = eqb-true f.zero 0 zs.0;
      blank = zs.1;
    }

bit_clear : (b : Bool) → ◌≡◌ {A = ℕ} (cond b 1 0) 0 → b ≡ false
bit_clear true h = absurd (omega arith)
bit_clear false h = refl

-- a page whose fields have no fault, read as a header
pub header_read : (n l : ℕ) (page : List ℕ) (f : Fields) (r : Result Header HeaderFault) → ((j : ℕ) → get_or page j 0 < 256) → 18 ≤ length page → Right n l f (blank (drop 18 page)) → numbers_of f ≡ numbers_in page
    → MatchResult r (λ h. numbers h ≡ numbers_of f) (λ _. ⊥) → HeaderRead n l page r
header_read n l page f (Ok h) u long right e m =
    let at : (i : ℕ) → get_or (numbers h) i 0 ≡ get_or (numbers_of f) i 0 = λ i. ap (λ vs. get_or vs i 0) m in
    let pages : h.pages ≡ f.pages = at 3 in
    let page_len : h.page_len ≡ f.page_len = at 4 in
    let levels : h.levels ≡ f.levels = at 5 in
    let root : h.root ≡ f.root = at 8 in
    let free : h.first_free ≡ f.first_free = at 9 in
    let edit : cond h.edit_open 1 0 ≡ f.edit = at 2 in
    let p = right.pages in let q = right.page_len in let s = right.levels in let t = right.root in let v = right.root_within in let w = right.first_free in (
      page_read page (numbers h) u long right.blank (m ∙ e),
      subst (λ vs. Within widths vs) (sym (m ∙ e)) (within widths (number_from_digits 256 (take 18 page))),
      record {
        pages = pages ∙ p;
        page_len = page_len ∙ q;
        levels = omega (arith, levels, s);
        root = omega (arith, root, t);
        root_within = omega (arith, root, v);
        first_free = omega (arith, free, w);
        at_rest = bit_clear h.edit_open (edit ∙ right.edit);
      },
    )
header_read n l page f (Err e) u long right q m = absurd m

-- a page whose fields have a fault
pub fault_read : (n l : ℕ) (page : List ℕ) (f : Fields) (d : HeaderFault) → 18 ≤ length page → numbers_of f ≡ numbers_in page → Some d ≡ numbers_fault n l (numbers_of f) (blank (drop 18 page)) → header_fault n l page ≡ Some d
fault_read n l page f d long e q =
    let t : ltb (length page) 18 ≡ false = le-ltb (length page) 18 long in
    ap (λ z. cond z (Some (Field 0)) (numbers_fault n l (numbers_in page) (blank (drop 18 page)))) t ∙ ap (λ vs. numbers_fault n l vs (blank (drop 18 page))) (sym e) ∙ sym q
