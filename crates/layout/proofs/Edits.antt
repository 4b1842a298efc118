-- A cell put into a page, or taken out: the bytes are those of the list with it, or without.
use Rattle.std.proofs.Common.{◌≡◌, ℕ, ◌+◌, ◌-◌, ◌*◌, ◌/◌, ◌%◌, ◌<◌, ◌≤◌, List, ◌∷◌, ◌++◌, length, take, drop, replicate, slice_index, slice_set, sym, refl, ap, ◌∙◌, append_assoc, arith, length-append}
use Rattle.std.specs.List.{flat_map}
use Rattle.std.proofs.lemmas.Grind.{flat_map-append}
use Rattle.std.proofs.lemmas.List.{take_at, drop_at, drop-drop, length-replicate, replicate-append-replicate, drop-replicate}
use Rattle.layout.specs.Pages.{head, zeros, page_bytes}

-- the page with another number of cells in its head
abbrev pub renumbered : List ℕ → ℕ → List ℕ
renumbered page n = slice_set (slice_set page 0 (slice_index page 0 / 64 * 64 + n / 256)) 1 (n % 256)

pub length_zeros : (len : ℕ) (cs : List ℕ) → length (zeros len cs) ≡ len - (4 + length cs)
unfolding zeros
length_zeros len cs = length-replicate (len - (4 + length cs)) 0

module _ (len kind n link : ℕ) (cs : List ℕ) where
  pub length_page : 4 + length cs ≤ len → length (page_bytes len (head kind n link) cs) ≡ len
  length_page h = omega (arith, length-append cs (zeros len cs), length_zeros len cs)

pub page_fits : (page : List ℕ) (kind n link : ℕ) (cs : List ℕ) → page ≡ page_bytes (length page) (head kind n link) cs → 4 + length cs ≤ length page
page_fits page kind n link cs e = omega (arith, ap length e, length-append cs (zeros (length page) cs), length_zeros (length page) cs)

-- more cells leave fewer zeros
zeros_less : (len w : ℕ) (c d : List ℕ) → length d ≡ w + length c → drop w (zeros len c) ≡ zeros len d
unfolding zeros
zeros_less len w c d q = drop-replicate w (len - (4 + length c)) 0 ∙ ap (λ n. replicate n 0) (omega arith)

zeros_more : (len w : ℕ) (c d : List ℕ) → length d ≡ w + length c → 4 + length d ≤ len → replicate w 0 ++ zeros len d ≡ zeros len c
unfolding zeros
zeros_more len w c d q h = replicate-append-replicate w (len - (4 + length d)) 0 ∙ ap (λ n. replicate n 0) (omega arith)

pub renumber : (kind n m link : ℕ) (b r : List ℕ) → n < 16384 → renumbered ((head kind n link ++ b) ++ r) m ≡ (head kind m link ++ b) ++ r
renumber kind n m link b r h =
    let q : (kind * 64 + n / 256) / 64 * 64 + m / 256 ≡ kind * 64 + m / 256 = omega arith in
    ap (λ t. t ∷ m % 256 ∷ link / 256 ∷ link % 256 ∷ (b ++ r)) q

module _ {A : Type 0} (f : A → List ℕ) where
  -- a page's cells behind those at its front
  pub split_two : (len : ℕ) (h : List ℕ) (a b : List A) →
      page_bytes len h (flat_map f (a ++ b)) ≡ (h ++ flat_map f a) ++ (flat_map f b ++ zeros len (flat_map f (a ++ b)))
  split_two len h a b =
      ap (λ l. h ++ (l ++ zeros len (flat_map f (a ++ b)))) (flat_map-append f a b)
      ∙ ap (λ l. h ++ l) (append_assoc (flat_map f a) (flat_map f b) (zeros len (flat_map f (a ++ b))))
      ∙ sym (append_assoc h (flat_map f a) (flat_map f b ++ zeros len (flat_map f (a ++ b))))

  pub split_three : (len : ℕ) (h : List ℕ) (a b : List A) (x : A) →
      page_bytes len h (flat_map f (a ++ x ∷ b)) ≡ (h ++ flat_map f a) ++ (f x ++ (flat_map f b ++ zeros len (flat_map f (a ++ x ∷ b))))
  split_three len h a b x = split_two len h a (x ∷ b) ∙ ap (λ l. (h ++ flat_map f a) ++ l) (append_assoc (f x) (flat_map f b) (zeros len (flat_map f (a ++ x ∷ b))))

  -- the length of the cells with one more
  pub one_more : (a b : List A) (x : A) → length (flat_map f (a ++ x ∷ b)) ≡ length (f x) + length (flat_map f (a ++ b))
  one_more a b x =
      omega (
        arith,
        ap length (flat_map-append f a (x ∷ b)),
        ap length (flat_map-append f a b),
        length-append (flat_map f a) (f x ++ flat_map f b),
        length-append (f x) (flat_map f b),
        length-append (flat_map f a) (flat_map f b),
      )

  pub inserted : (page opened new : List ℕ) (kind link : ℕ) (a b : List A) (x : A) (at end w : ℕ) →
      page ≡ page_bytes (length page) (head kind (length (a ++ b)) link) (flat_map f (a ++ b)) → length (a ++ b) < 16384 →
      at ≡ 4 + length (flat_map f a) → end ≡ at + length (flat_map f b) → w ≡ length (f x) →
      opened ≡ take at page ++ (f x ++ (take (end - at) (drop at page) ++ drop (end + w) page)) → new ≡ renumbered opened (length (a ++ b) + 1) →
      new ≡ page_bytes (length page) (head kind (length (a ++ x ∷ b)) link) (flat_map f (a ++ x ∷ b))
  inserted page opened new kind link a b x at end w e few qa qe qw o r =
      let len = length page in
      let n = length (a ++ b) in
      let fa = flat_map f a in
      let fb = flat_map f b in
      let p = head kind n link ++ fa in
      let z = zeros len (flat_map f (a ++ b)) in
      let lp : length p ≡ at = omega (arith, length-append (head kind n link) fa) in
      let e2 : page ≡ p ++ (fb ++ z) = e ∙ split_two len (head kind n link) a b in
      let front : take at page ≡ p = ap (take at) e2 ∙ take_at p (fb ++ z) at lp in
      let behind : drop at page ≡ fb ++ z = ap (drop at) e2 ∙ drop_at p (fb ++ z) at lp in
      let part : take (end - at) (drop at page) ≡ fb = ap (take (end - at)) behind ∙ take_at fb z (end - at) (omega arith) in
      let rest : drop (end + w) page ≡ drop w z =
      ap (λ m. drop m page) (omega arith) ∙ sym (drop-drop w (at + length fb) page)
      ∙ ap (drop w) (sym (drop-drop (length fb) at page) ∙ ap (drop (length fb)) behind ∙ drop_at fb z (length fb) refl) in
      let less : drop w z ≡ zeros len (flat_map f (a ++ x ∷ b)) = zeros_less len w (flat_map f (a ++ b)) (flat_map f (a ++ x ∷ b)) (omega (arith, one_more a b x)) in
      let o2 : opened ≡ p ++ (f x ++ (fb ++ zeros len (flat_map f (a ++ x ∷ b)))) =
      o ∙ ap (λ l. l ++ (f x ++ (take (end - at) (drop at page) ++ drop (end + w) page))) front
      ∙ ap (λ l. p ++ (f x ++ (l ++ drop (end + w) page))) part
      ∙ ap (λ l. p ++ (f x ++ (fb ++ l))) (rest ∙ less) in
      let q : n + 1 ≡ length (a ++ x ∷ b) = omega (arith, length-append a b, length-append a (x ∷ b)) in
      r ∙ ap (λ l. renumbered l (n + 1)) o2 ∙ renumber kind n (n + 1) link fa (f x ++ (fb ++ zeros len (flat_map f (a ++ x ∷ b)))) few
      ∙ ap (λ m. (head kind m link ++ fa) ++ (f x ++ (fb ++ zeros len (flat_map f (a ++ x ∷ b))))) q
      ∙ sym (split_three len (head kind (length (a ++ x ∷ b)) link) a b x)

  -- the cells in the middle, and those behind them
  split_list : (len : ℕ) (h : List ℕ) (a m b : List A) →
      page_bytes len h (flat_map f (a ++ (m ++ b))) ≡ (h ++ flat_map f a) ++ (flat_map f m ++ (flat_map f b ++ zeros len (flat_map f (a ++ (m ++ b)))))
  split_list len h a m b =
      let z = zeros len (flat_map f (a ++ (m ++ b))) in
      split_two len h a (m ++ b) ∙ ap (λ l. (h ++ flat_map f a) ++ (l ++ z)) (flat_map-append f m b) ∙ ap (λ l. (h ++ flat_map f a) ++ l) (append_assoc (flat_map f m) (flat_map f b) z)

  pub more_list : (a m b : List A) → length (flat_map f (a ++ (m ++ b))) ≡ length (flat_map f m) + length (flat_map f (a ++ b))
  more_list a m b =
      omega (
        arith,
        ap length (flat_map-append f a (m ++ b)),
        ap length (flat_map-append f m b),
        ap length (flat_map-append f a b),
        length-append (flat_map f a) (flat_map f (m ++ b)),
        length-append (flat_map f m) (flat_map f b),
        length-append (flat_map f a) (flat_map f b),
      )

  pub removed : (page closed new : List ℕ) (kind link : ℕ) (a m b : List A) (at from end : ℕ) →
      page ≡ page_bytes (length page) (head kind (length (a ++ (m ++ b))) link) (flat_map f (a ++ (m ++ b))) → length (a ++ (m ++ b)) < 16384 →
      at ≡ 4 + length (flat_map f a) → from ≡ at + length (flat_map f m) → end ≡ from + length (flat_map f b) →
      closed ≡ take at page ++ (take (end - from) (drop from page) ++ (replicate (from - at) 0 ++ drop end page)) → new ≡ renumbered closed (length (a ++ b)) →
      new ≡ page_bytes (length page) (head kind (length (a ++ b)) link) (flat_map f (a ++ b))
  removed page closed new kind link a m b at from end e few qa qf qe o r =
      let len = length page in
      let n = length (a ++ (m ++ b)) in
      let fa = flat_map f a in
      let fm = flat_map f m in
      let fb = flat_map f b in
      let p = head kind n link ++ fa in
      let z = zeros len (flat_map f (a ++ (m ++ b))) in
      let lp : length p ≡ at = omega (arith, length-append (head kind n link) fa) in
      let e2 : page ≡ p ++ (fm ++ (fb ++ z)) = e ∙ split_list len (head kind n link) a m b in
      let front : take at page ≡ p = ap (take at) e2 ∙ take_at p (fm ++ (fb ++ z)) at lp in
      let middle : drop at page ≡ fm ++ (fb ++ z) = ap (drop at) e2 ∙ drop_at p (fm ++ (fb ++ z)) at lp in
      let behind : drop from page ≡ fb ++ z = ap (λ k. drop k page) qf ∙ sym (drop-drop (length fm) at page) ∙ ap (drop (length fm)) middle ∙ drop_at fm (fb ++ z) (length fm) refl in
      let part : take (end - from) (drop from page) ≡ fb = ap (take (end - from)) behind ∙ take_at fb z (end - from) (omega arith) in
      let rest : drop end page ≡ z = ap (λ k. drop k page) qe ∙ sym (drop-drop (length fb) from page) ∙ ap (drop (length fb)) behind ∙ drop_at fb z (length fb) refl in
      let w : from - at ≡ length fm = omega arith in
      let fits = page_fits page kind n link (flat_map f (a ++ (m ++ b))) e in
      let more : replicate (from - at) 0 ++ z ≡ zeros len (flat_map f (a ++ b)) = zeros_more len (from - at) (flat_map f (a ++ b)) (flat_map f (a ++ (m ++ b))) (omega (arith, more_list a m b)) fits in
      let o2 : closed ≡ p ++ (fb ++ zeros len (flat_map f (a ++ b))) =
      o ∙ ap (λ l. l ++ (take (end - from) (drop from page) ++ (replicate (from - at) 0 ++ drop end page))) front
      ∙ ap (λ l. p ++ (l ++ (replicate (from - at) 0 ++ drop end page))) part
      ∙ ap (λ l. p ++ (fb ++ (replicate (from - at) 0 ++ l))) rest
      ∙ ap (λ l. p ++ (fb ++ l)) more in
      r ∙ ap (λ l. renumbered l (length (a ++ b))) o2 ∙ renumber kind n (length (a ++ b)) link fa (fb ++ zeros len (flat_map f (a ++ b))) few
      ∙ sym (split_two len (head kind (length (a ++ b)) link) a b)
