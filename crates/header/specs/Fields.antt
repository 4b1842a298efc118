-- The numbers in the fields of a page.
use Rattle.std.specs.Prelude.{ℕ, List, [], ◌∷◌, take}
use Rattle.std.specs.Int.Digits.{number_from_digits}
use Rattle.header.specs.declared.fields.Fields.{Fields}
use Rattle.header.specs.Packing.{unpack}
use Rattle.header.specs.Headers.{widths}

-- what the first 18 bytes hold in each field
abbrev pub numbers_in : List ℕ → List ℕ
numbers_in page = unpack widths (number_from_digits 256 (take 18 page))

-- the same of fields that were read
abbrev pub numbers_of : Fields → List ℕ
numbers_of f =
    f.mark ∷ f.version ∷ f.edit ∷ f.pages ∷ f.page_len ∷ f.levels ∷ f.columns ∷ f.directions
    ∷ f.root ∷ f.first_free ∷ f.free_pages ∷ f.rows ∷ f.zero ∷ []
