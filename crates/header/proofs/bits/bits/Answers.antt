use Rattle.std.proofs.Common.{arith, ap, refl, ◌∙◌, sym, ◌≡◌, ◌+◌, ◌-◌, ◌*◌, ◌/◌, ◌%◌, ◌^◌}
use Rattle.std.proofs.lemmas.Nat.{one_shl}
use Rattle.header.proofs.Numbers.{bits_of}
use Rattle.header.proofs.bits.bits.Goals as goal

pub returns : goal.returns
returns c =
    let from = c.args.from in
    let to = c.args.to in
    let n = c.number.result in
    let shifted : 1 * 2 ^ (to - from) % 18446744073709551616 ≡ 2 ^ (to - from) = one_shl (to - from) 64 (omega arith) in
    let back = bits_of c.args.page.now from to (from / 8) ((to + 7) / 8) (λ i. omega (arith, c.type_inv.page i)) c.requires.long c.requires.some c.requires.within refl refl in
    ap (λ z. n / 2 ^ (8 * ((to + 7) / 8) - to) % z) shifted
    ∙ ap (λ z. z / 2 ^ (8 * ((to + 7) / 8) - to) % 2 ^ (to - from)) c.number.ensures
    ∙ sym back
