-- The table of classes keeps its rule at every byte, by one test that is computed.
use Rattle.std.proofs.Common.{◌≡◌, ℕ, zero, suc, ◌+◌, ◌<◌, Bool, true, not, ◌&&◌, ◌||◌, eqb, ltb, leb, slice_index_or, refl, inl, inr}
use Rattle.std.proofs.lemmas.Bool.{and_parts, or_cases, eqb-true, eqb-false, leb-true, ltb-true, not-true}
use Rattle.std.proofs.lemmas.Bool.Decides.{Decides-below_and}
use Rattle.codes.specs.declared.sign.Sign.TheVariants.{Negative, Positive}
use Rattle.codes.specs.declared.class.Class.{Class}
use Rattle.codes.specs.declared.class.Class.TheVariants.{Foreign, Null, Zero, Text, Near, Far, Small}
use Rattle.codes.specs.declared.class.TheConstants.{CLASSES}
use Rattle.codes.specs.Classes.{Rule}

-- the rule as a test
abbrev ruled : ℕ → Class → Bool
ruled b Null = eqb b 0x05
ruled b (Far Negative) = eqb b 0x08
ruled b (Near Negative e) = leb e 10 && eqb (b + e) 0x13
ruled b (Small Negative) = eqb b 0x14
ruled b Zero = eqb b 0x15
ruled b (Small Positive) = eqb b 0x16
ruled b (Near Positive e) = leb e 10 && eqb b (0x17 + e)
ruled b (Far Positive) = eqb b 0x22
ruled b Text = eqb b 0x24
ruled b Foreign = (ltb b 8 && not (eqb b 0x05)) || (eqb b 0x23 || ltb 0x24 b)

keeps : (b : ℕ) (c : Class) → ruled b c ≡ true → Rule b c
keeps b Null h = eqb-true b 0x05 h
keeps b (Far Negative) h = eqb-true b 0x08 h
keeps b (Near Negative e) h = let p = and_parts (leb e 10) (eqb (b + e) 0x13) h in (leb-true e 10 p.0, eqb-true (b + e) 0x13 p.1)
keeps b (Small Negative) h = eqb-true b 0x14 h
keeps b Zero h = eqb-true b 0x15 h
keeps b (Small Positive) h = eqb-true b 0x16 h
keeps b (Near Positive e) h = let p = and_parts (leb e 10) (eqb b (0x17 + e)) h in (leb-true e 10 p.0, eqb-true b (0x17 + e) p.1)
keeps b (Far Positive) h = eqb-true b 0x22 h
keeps b Text h = eqb-true b 0x24 h
keeps b Foreign h =
    elim (or_cases (ltb b 8 && not (eqb b 0x05)) (eqb b 0x23 || ltb 0x24 b) h) [
      | inl l ↦ let p = and_parts (ltb b 8) (not (eqb b 0x05)) l in inl (ltb-true b 8 p.0, eqb-false b 0x05 (not-true (eqb b 0x05) p.1))
      | inr r ↦ elim (or_cases (eqb b 0x23) (ltb 0x24 b) r) [ inl l ↦ inr (inl (eqb-true b 0x23 l)) | inr g ↦ inr (inr (ltb-true 0x24 b g)) ]
    ]

abbrev all_ruled : ℕ → Bool
all_ruled zero = true
all_ruled (suc n) = ruled n (slice_index_or CLASSES n Foreign) && all_ruled n

ruled_at : (n b : ℕ) → all_ruled n ≡ true → b < n → ruled b (slice_index_or CLASSES b Foreign) ≡ true
ruled_at n b h l = (Decides-below_and (λ k. ruled k (slice_index_or CLASSES k Foreign)) (λ k. ruled k (slice_index_or CLASSES k Foreign) ≡ true) all_ruled (λ k. (λ e. e, λ e. e)) refl (λ _. refl) n).0 h b l

pub table : (b : ℕ) → b < 256 → Rule b (slice_index_or CLASSES b Foreign)
table b l = keeps b (slice_index_or CLASSES b Foreign) (ruled_at 256 b refl l)
