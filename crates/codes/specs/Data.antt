-- Proofs: values of any kind keep the laws of a column code.
use Rattle.std.specs.Prelude.{◌≡◌, ℕ, ◌+◌, ◌-◌, ◌<◌, Bool, true, false, cond, ◌⊎◌, List, [], ◌∷◌, ◌++◌, pos, negsuc, nat_lt, refl}
use Rattle.std.proofs.Common.{ap, inl, inr, arith}
use Rattle.std.proofs.lemmas.Bool.{ltb-true}
use Rattle.codes.specs.declared.sign.Sign.TheVariants.{Negative, Positive}
use Rattle.codes.specs.Strings.{Less, Bytes, flipped}
use Rattle.codes.specs.Decimals.{Number, naught, amount, Smaller}
use Rattle.codes.specs.Values.{Datum, null, decimal, text, Valid, Earlier}
use Rattle.codes.specs.Codes.{datum_code, number_code, mantissa}
use Rattle.codes.specs.Laws.{Laws}
use Rattle.codes.specs.Orders.{Parts, laws_from_parts, parts}
use Rattle.codes.specs.Texts.{text_laws}
use Rattle.codes.specs.Numbers.{number_laws}

-- a number's first byte stands between those of null and of a text
abbrev Between : List ℕ → Type 0
Between a = (t : List ℕ) → Parts (5 ∷ []) a × Parts a (36 ∷ t)

lead_above : (b : Bool) (n : ℕ) (r : List ℕ) → (b ≡ true → n < 11) → Between (cond b ((23 + n) ∷ []) (34 ∷ n ∷ []) ++ r)
lead_above true n r h t = (inl (omega arith), inl (omega (arith, h refl)))
lead_above false n r h t = (inl (omega arith), inl (omega arith))

lead_below : (b : Bool) (n : ℕ) (r : List ℕ) → (b ≡ true → n < 11) → Between (cond b ((19 - n) ∷ []) (8 ∷ (255 - n) ∷ []) ++ r)
lead_below true n r h t = (inl (omega (arith, h refl)), inl (omega arith))
lead_below false n r h t = (inl (omega arith), inl (omega arith))

between : (n : Number) → Between (number_code n)
between naught t = (inl (omega arith), inl (omega arith))
between (amount Positive (pos n) ds) t = lead_above (nat_lt n 11) n (mantissa ds) (ltb-true n 11) t
between (amount Positive (negsuc n) ds) t = (inl (omega arith), inl (omega arith))
between (amount Negative (pos n) ds) t = lead_below (nat_lt n 11) n (flipped (mantissa ds)) (ltb-true n 11) t
between (amount Negative (negsuc n) ds) t = (inl (omega arith), inl (omega arith))

within : (a : Datum) → Valid a → Bytes (datum_code a)
within null g = (omega arith, tt)
within (decimal n) g = number_laws.within n g
within (text t) g = text_laws.within t g

lifted : {A : Type 0} (f : A → Datum) (less : A → A → Type 0) (a b : A) → less a b ⊎ ((a ≡ b) ⊎ less b a) → less a b ⊎ ((f a ≡ f b) ⊎ less b a)
lifted f less a b (inl h) = inl h
lifted f less a b (inr (inl e)) = inr (inl (ap f e))
lifted f less a b (inr (inr h)) = inr (inr h)

total : (a b : Datum) → Valid a → Valid b → Earlier a b ⊎ ((a ≡ b) ⊎ Earlier b a)
total null null g h = inr (inl refl)
total null (decimal n) g h = inl tt
total null (text t) g h = inl tt
total (decimal m) null g h = inr (inr tt)
total (decimal m) (decimal n) g h = lifted decimal Smaller m n (number_laws.total m n g h)
total (decimal m) (text t) g h = inl tt
total (text s) null g h = inr (inr tt)
total (text s) (decimal n) g h = inr (inr tt)
total (text s) (text t) g h = lifted text Less s t (text_laws.total s t g h)

part : (a b : Datum) → Valid a → Valid b → Earlier a b → Parts (datum_code a) (datum_code b)
part null null g h e = absurd e
part null (decimal n) g h e = (between n []).0
part null (text t) g h e = inl (omega arith)
part (decimal m) null g h e = absurd e
part (decimal m) (decimal n) g h e = parts number_laws m n g h e
part (decimal m) (text t) g h e = (between m (t ++ (0 ∷ []))).1
part (text s) null g h e = absurd e
part (text s) (decimal n) g h e = absurd e
part (text s) (text t) g h e = parts text_laws s t g h e

pub datum_laws : Laws Valid datum_code Earlier
datum_laws = laws_from_parts within total part
