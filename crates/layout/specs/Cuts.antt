-- Where a leaf with one more key is parted.
use Rattle.std.specs.Prelude.{◌≡◌, ℕ, ◌+◌, true, false, List, ◌++◌, length, suc}
use Rattle.std.specs.List.{flat_map}
use Rattle.layout.specs.declared.cut.Cut.{Cut}
use Rattle.layout.specs.Leaf.{cell}

-- the new key stands between those before it and those behind it, and the first k of all stay: the new key with them, or it goes with the rest
pub data Parted (before behind : List (List ℕ)) (k : ℕ) (cut : Cut) : Type 0 where
  stays : (mid gone : List (List ℕ)) → behind ≡ mid ++ gone → k ≡ suc (length before + length mid) →
      cut.stays ≡ true → cut.index ≡ length (before ++ mid) → cut.at ≡ 4 + length (flat_map cell (before ++ mid)) → Parted before behind k cut
  goes : (kept mid : List (List ℕ)) → before ≡ kept ++ mid → k ≡ length kept →
      cut.stays ≡ false → cut.index ≡ length kept → cut.at ≡ 4 + length (flat_map cell kept) → Parted before behind k cut
