-- What a seal detects: the first sum moves by less than 65,535 and not by 0, and the second where the first does not.
use Rattle.std.proofs.Common.{◌≡◌, ℕ, ◌+◌, ◌-◌, ◌*◌, ◌%◌, ◌<◌, ◌≤◌, true, ◌⊎◌, List, length, get_or, take, set, sym, refl, ◌∙◌, inl, inr, add-mul, arith}
use native.Mathlib.Nat.{mul-mod_right, add-mul-mod_self_right}
use lib.Seq.{take-set-lt}
use Rattle.std.proofs.lemmas.Bool.{cases_lt, cases_order}
use Rattle.std.proofs.lemmas.Nat.{div-add-mod', mod-mul-add}
use Rattle.std.proofs.lemmas.List.{length-set, length-take-le, get_or-set_same, get_or-set_other, get_or-take, take-set-le}
use Rattle.std.specs.List.{sum}
use Rattle.stores.specs.Pages.{sound, damaged}
use Rattle.stores.specs.Sums.{weighed, agrees_at}
use Rattle.stores.specs.Opened.{opened}
use Rattle.stores.specs.Detects.{Whole, Missed, exchanged, Detects}
use Rattle.stores.specs.Sealed.{opened_torn, opened_sound}
use Rattle.stores.proofs.Totals.{sum_set, weighed_set}

-- the stored sums are those of the data
pub record Agrees (n p : ℕ) (page : List ℕ) : Type 0 where
  pub plain : get_or page n 0 * 256 + get_or page (n + 1) 0 ≡ (p + sum (take n page)) % 65535
  pub weighs : get_or page (n + 2) 0 * 256 + get_or page (n + 3) 0 ≡ weighed 1 (take n page) % 65535

agrees_from : (n p : ℕ) (page : List ℕ) → agrees_at n p page ≡ true → Agrees n p page
agrees_from n p page t = record { plain = grind arith; weighs = grind arith }

agrees_to : (n p : ℕ) (page : List ℕ) → Agrees n p page → agrees_at n p page ≡ true
agrees_to n p page a = grind arith

-- a page whose sums cannot both agree is damaged
torn_from : (n p : ℕ) (page : List ℕ) → length page ≡ n + 4 → (Agrees n p page → ⊥) → opened p (sound page) ≡ damaged
torn_from n p page l no-sums = grind (arith, agrees_from, opened_torn, no-sums)

-- the sums of a whole page agree
whole_agrees : (n p : ℕ) (page : List ℕ) → length page ≡ n + 4 → Whole p page → Agrees n p page
whole_agrees n p page l w = grind (arith, agrees_from, opened_torn, w)

-- two bytes exchanged across the border of data and sums leave the first sum right only where they differ by 255
border_plain : (x y lo t u : ℕ) → x * 256 + lo ≡ t % 65535 → y * 256 + lo ≡ u % 65535 → t + x ≡ u + y → x < y → y < 256 →
    (x ≡ 0) × (y ≡ 255)
border_plain x y lo t u a b e l s = grind (arith, div-add-mod')

-- and the second only where 257 divides the place
border_weighed : (n t u : ℕ) → t % 65535 ≡ u % 65535 → t ≡ u + n * 255 → n % 257 ≡ 0
border_weighed n t u e f = grind (arith, div-add-mod', mul-mod_right)

-- there they do
border_plain_back : (x y lo t u : ℕ) → y * 256 + lo ≡ u % 65535 → t + x ≡ u + y → lo < 255 →
    ((x ≡ 0) × (y ≡ 255)) ⊎ ((x ≡ 255) × (y ≡ 0)) → x * 256 + lo ≡ t % 65535
border_plain_back x y lo t u a e l v = grind (arith, div-add-mod', mod-mul-add)

border_weighed_back : (n t u : ℕ) → n % 257 ≡ 0 → t ≡ u + n * 255 → t % 65535 ≡ u % 65535
border_weighed_back n t u e f = grind (arith, div-add-mod', add-mul-mod_self_right)

size_of : (p : ℕ) (page : List ℕ) → Whole p page → length page ≡ length page - 4 + 4
size_of p page w = let r = w.room in omega arith

-- one byte changed
module _ (n p k v : ℕ) (page : List ℕ) (l : length page ≡ n + 4) (a : Agrees n p page) (h : k < length page) (s : v < 256)
    (w : get_or page k 0 < 256) (d : v ≡ get_or page k 0 → ⊥) where
  -- a data byte: the first sum moves by less than 256
  change_data : k < n → Agrees n p (set page k v) → ⊥
  change_data less b = grind (arith, take-set-lt, sum_set, length-take-le, get_or-take, get_or-set_other, d)

  -- a byte of the sums: what is stored moves, and the data stays
  change_sums : n ≤ k → Agrees n p (set page k v) → ⊥
  change_sums more b = grind (arith, take-set-le, get_or-set_same, get_or-set_other, d)

  change_torn : opened p (sound (set page k v)) ≡ damaged
  change_torn =
      torn_from n p (set page k v) (length-set page k v ∙ l)
      (elim (cases_lt k n) [ inl less ↦ change_data less | inr more ↦ change_sums more ])

-- two unequal neighbours exchanged
module _ (n p k : ℕ) (page : List ℕ) (l : length page ≡ n + 4) (a : Agrees n p page) (h : k + 1 < length page)
    (wx : get_or page k 0 < 256) (wy : get_or page (k + 1) 0 < 256) (d : get_or page k 0 ≡ get_or page (k + 1) 0 → ⊥) where
  -- byte k has the other's value
  low : (i : ℕ) → i ≡ k → get_or (exchanged page k) i 0 ≡ get_or page (k + 1) 0
  low i e = grind (arith, get_or-set_other, get_or-set_same)

  -- and byte k + 1 that of byte k
  high : (i : ℕ) → i ≡ k + 1 → get_or (exchanged page k) i 0 ≡ get_or page k 0
  high i e = grind (arith, get_or-set_same, length-set)

  apart : (i : ℕ) → (i ≡ k → ⊥) → (i ≡ k + 1 → ⊥) → get_or (exchanged page k) i 0 ≡ get_or page i 0
  apart i e f = grind (arith, get_or-set_other)

  size : length (take n page) ≡ n
  size = length-take-le n page (omega arith)

  -- both of the data: the second sum moves by their difference
  exchange_data : k + 1 < n → Agrees n p (exchanged page k) → ⊥
  exchange_data less b =
      grind (arith, take-set-lt, weighed_set, size, length-set, get_or-take, get_or-set_other, apart, add-mul, d)

  -- both of the sums
  exchange_sums : n ≤ k → Agrees n p (exchanged page k) → ⊥
  exchange_sums more b = grind (arith, take-set-le, low, high, apart, d)

  -- the last data byte with the first of the sums
  record Border : Type 0 where
    pub front : take n (exchanged page k) ≡ set (take n page) k (get_or page (k + 1) 0)
    pub plain : sum (set (take n page) k (get_or page (k + 1) 0)) + get_or page k 0 ≡ sum (take n page) + get_or page (k + 1) 0
    pub weighs : weighed 1 (set (take n page) k (get_or page (k + 1) 0)) + (1 + k) * get_or page k 0 ≡ weighed 1 (take n page) + (1 + k) * get_or page (k + 1) 0
    pub high_byte : get_or (exchanged page k) n 0 ≡ get_or page k 0
    pub was_high : get_or page n 0 ≡ get_or page (k + 1) 0
    pub was_low : get_or page (n + 1) 0 ≡ get_or page (k + 2) 0
    pub behind : (i : ℕ) → n < i → get_or (exchanged page k) i 0 ≡ get_or page i 0

  border_at : k + 1 ≡ n → Border
  border_at q =
      record {
        front = grind (arith, take-set-le, take-set-lt);
        plain = grind (arith, sum_set, get_or-take, size);
        weighs = grind (arith, weighed_set, get_or-take, size);
        high_byte = high n (sym q);
        was_high = rw (sym q) refl;
        was_low = grind arith;
        behind = λ i m. apart i (λ u. omega arith) (λ u. omega arith);
      }

  -- only 0 and 255 can leave both sums right
  exchange_border : k + 1 ≡ n → Agrees n p (exchanged page k) → Missed page k
  exchange_border q b =
      let f = border_at q in
      let o1 = f.behind (n + 1) (omega arith) in
      let o2 = f.behind (n + 2) (omega arith) in
      let o3 = f.behind (n + 3) (omega arith) in
      let plain = rw (f.high_byte, o1, f.front) at b.plain in let weighs = rw (o2, o3, f.front) at b.weighs in
      let plain' = rw f.was_high at a.plain in
      let values : ((get_or page k 0 ≡ 0) × (get_or page (k + 1) 0 ≡ 255)) ⊎ ((get_or page k 0 ≡ 255) × (get_or page (k + 1) 0 ≡ 0)) =
      elim (cases_lt (get_or page k 0) (get_or page (k + 1) 0)) [
        | inl less ↦ inl (border_plain _ _ _ _ _ plain plain' (omega (arith, f.plain)) less wy)
        | inr more ↦ let z = border_plain _ _ _ _ _ plain' plain (omega (arith, f.plain)) (omega arith) wx in inr (z.1, z.0)
      ] in
      record {
        border = omega arith;
        by257 = elim values [
          | inl z ↦ border_weighed (k + 1) _ _ (sym weighs ∙ a.weighs) (grind (arith, f.weighs))
          | inr z ↦ border_weighed (k + 1) _ _ (sym a.weighs ∙ weighs) (grind (arith, f.weighs))
        ];
        values = values;
        low = grind (arith, f.was_low);
      }

  -- and they do
  exchange_missed : Missed page k → Agrees n p (exchanged page k)
  exchange_missed m =
      let q : k + 1 ≡ n = omega (arith, m.border) in
      let f = border_at q in
      let o1 = f.behind (n + 1) (omega arith) in
      let o2 = f.behind (n + 2) (omega arith) in
      let o3 = f.behind (n + 3) (omega arith) in
      record {
        plain = grind (arith, f, a, border_plain_back, m);
        weighs = grind (arith, f, a, border_weighed_back, m);
      }

  exchange_size : length (exchanged page k) ≡ n + 4
  exchange_size = length-set (set page k (get_or page (k + 1) 0)) (k + 1) (get_or page k 0) ∙ length-set page k (get_or page (k + 1) 0) ∙ l

  exchange_whole : ((i : ℕ) → i < length page → get_or page i 0 < 256) → Missed page k → Whole p (exchanged page k)
  exchange_whole bytes m =
      let size = exchange_size in
      record {
        bytes = λ i r. grind (arith, low, high, apart, bytes);
        room = omega arith;
        opens = opened_sound p _ (exchanged page k) refl (grind (arith, agrees_to, exchange_missed));
      }

  exchange_torn : (Missed page k → ⊥) → opened p (sound (exchanged page k)) ≡ damaged
  exchange_torn m =
      torn_from n p (exchanged page k) exchange_size
      (elim (cases_order (k + 1) n) [
        | inl same ↦ λ b. m (exchange_border same b)
        | inr (inl less) ↦ exchange_data less
        | inr (inr more) ↦ exchange_sums (omega arith)
      ])

-- under another number the first sum is another
move_torn : (n p q : ℕ) (page : List ℕ) → length page ≡ n + 4 → Agrees n p page → p < 65535 → q < 65535 → (p ≡ q → ⊥) →
    opened q (sound page) ≡ damaged
move_torn n p q page l a hp hq d = torn_from n q page l (λ b. grind (arith, d))

pub detects : Detects
detects = record {
  change = λ p k v page w h s d. let l = size_of p page w in change_torn _ p k v page l (whole_agrees _ p page l w) h s (w.bytes k h) d;
  exchange = λ p k page w h d m.
      let l = size_of p page w in
      exchange_torn _ p k page l (whole_agrees _ p page l w) h (w.bytes k (omega arith)) (w.bytes (k + 1) h) d m;
  missed = λ p k page w m.
      let l = size_of p page w in let h : k + 1 < length page = omega (arith, m.border) in
      exchange_whole _ p k page l (whole_agrees _ p page l w) h (w.bytes k (omega arith)) (w.bytes (k + 1) h) (λ e. grind (arith, m)) w.bytes m;
  move = λ p q page w hp hq d. let l = size_of p page w in move_torn _ p q page l (whole_agrees _ p page l w) hp hq d;
}
