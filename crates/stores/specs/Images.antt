-- Proofs: an image keeps the laws of a page store.
use Rattle.std.specs.Prelude.{◌≡◌, ℕ, ◌≤◌, List, length, slice_index_or, vec_items}
use Rattle.std.proofs.Common.{arith}
use Rattle.stores.specs.declared.image_area.Image.{Image}
use Rattle.stores.specs.Pages.{sound, damaged}
use Rattle.stores.specs.ImageOf.{image_len, image_pages}
use Rattle.stores.specs.Cuts.{length_cut, sized as cut_sized}

pub image_short : (i : Image) → image_len i ≤ 1024
image_short i = i.shape.short

pub image_few : (i : Image) → length (image_pages i) ≤ 65535
image_few i = omega (arith, i.shape.few, length_cut i.shape.len i.shape.count (vec_items i.area))

pub image_sized : (i : Image) (p : ℕ) (b : List ℕ) → slice_index_or (image_pages i) p damaged ≡ sound b → length b ≡ image_len i
image_sized i p b e = let v = i.area.ok in cut_sized i.shape.len i.shape.count (vec_items i.area) p b (omega arith) e
