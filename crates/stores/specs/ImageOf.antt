-- What an image stands for.
use Rattle.std.specs.Prelude.{ℕ, ◌*◌, List, drop, vec_items}
use Rattle.stores.specs.declared.image_area.Image.{Image}
use Rattle.stores.specs.Pages.{Page}
use Rattle.stores.specs.Areas.{cut}

-- its page length
abbrev pub image_len : Image → ℕ
image_len i = i.shape.len

-- its page count
abbrev pub image_count : Image → ℕ
image_count i = i.shape.count

-- all its bytes
abbrev pub image_area : Image → List ℕ
image_area i = vec_items i.area

-- its pages, none of them damaged
abbrev pub image_pages : Image → List Page
image_pages i = cut (image_len i) (image_count i) (image_area i)

-- the bytes behind its last page
abbrev pub image_rest : Image → List ℕ
image_rest i = drop (image_count i * image_len i) (image_area i)
