use Rattle.std.proofs.Common.{◌≡◌, ◌+◌, ◌*◌, ◌^◌, length, replicate, pos, ◌+ℤ◌, ◌-ℤ◌, ◌*ℤ◌, sym, refl, ap, ◌∙◌, subst, rules, arith, w32, to_z, of_z}
use Rattle.std.specs.Int.Digits.{number_from_digits}
use Rattle.std.proofs.lemmas.List.{nil_from_length, length-append, length-replicate}
use Rattle.std.proofs.lemmas.Int.{ints}
use Rattle.codes.specs.Decimals.{Number}
use Rattle.codes.specs.Means.{number_of}
use Rattle.words.specs.Digits.{written}
use Rattle.words.specs.Tens.{TenWorth}
use Rattle.words.proofs.Worths.{zeros_front, zeros_back, made_of, crossed}
use Rattle.words.proofs.tens.from_tens.Goals as goal

pub returns-then-is_empty : goal.returns-then-is_empty
returns-then-is_empty c =
    let some = c.without_front_zeros-some.result.now in
    let front = c.without_front_zeros-some.ensures.zeros in
    let none : length some ≡ 0 = search rules in
    ap written front.1 ∙ zeros_front front.0 some ∙ ap written (nil_from_length some none)

pub returns : goal.returns
returns c =
    let ds = c.args.digits.now in
    let some = c.without_front_zeros-some.result.now in
    let kept = c.without_back_zeros-kept.result.now in
    let front = c.without_front_zeros-some.ensures.zeros in
    let back = c.without_back_zeros-kept.ensures.zeros in
    let t = back.0 in
    let told = c.in_ok-pairs.ensures in
    let z = told.0 in
    let cs = c.as_slice.result.now in
    let value = c.as_slice.ensures.value in
    let worth : written ds ≡ written kept * 10 ^ t = ap written front.1 ∙ zeros_front front.0 some ∙ ap written back.1 ∙ zeros_back kept t in
    let pairs : number_from_digits 100 cs ≡ written kept * 10 ^ z = ap (number_from_digits 100) value ∙ told.1 in
    let long : length some ≡ length kept + t = ap length back.1 ∙ length-append kept (replicate t 48) ∙ ap (λ k. length kept + k) (length-replicate t 48) in
    let e = to_z w32 (of_z w32 c.halved-exponent.result.0) in
    let power : c.args.power +ℤ pos t ≡ pos 2 *ℤ (e -ℤ pos (length cs)) +ℤ pos z = omega (arith, ints, c.halved-exponent.ensures, told.2, ap length value, long) in
    let is = made_of c.args.sign e cs (number_of c.in_ok-new.field-0) c.in_ok-new.ensures in
    subst (λ (n : Number). TenWorth c.args.sign ds c.args.power n) (sym is)
    (refl, (z, t, crossed (written ds) (number_from_digits 100 cs) (written kept) z t worth pairs, power))
