use Rattle.std.proofs.iter.Serving.{serving}
use Rattle.std.proofs.Common.{◌≡◌, ℕ, ◌+◌, ◌^◌, ◌<◌, ◌≤◌, List, length, drop, sym, ap, ◌∙◌, subst, arith, length-drop, rules}
use Rattle.codes.specs.Reading.{Starts, Stops}
use Rattle.codes.specs.Codes.{body_of, number_code}
use Rattle.codes.specs.Decimals.{Shaped}
use Rattle.codes.specs.Leads.{AreDigits, DecimalRead, InRange, head_bytes}
use Rattle.codes.specs.Sources.{seen}
use Rattle.codes.proofs.Amounts.{amount_first, amount_second}
use Rattle.codes.proofs.Exits.{exit_made, exit_same}
use Rattle.codes.proofs.Readings.{begins_length}
use Rattle.codes.proofs.Seens.{length_seen}
use Rattle.codes.proofs.code.number.reading.read_amount.Goals as goal

pub returns-in_err-head : goal.returns-in_err-head
returns-in_err-head c = λ x xs e n.
    let at = c.in_err-head.field-0.0.at in
    exit_same (DecimalRead (seen c.args.source)) c.from_residual.result c.in_err-head.field-0.0 c.from_residual.ensures.1
    (subst (λ (b : List ℕ). Stops Shaped number_code b at) (sym e)
    (amount_first x xs n at (subst (λ (b : List ℕ). Stops InRange head_bytes b at) e c.in_err-head.ensures)))

pub returns-in_err-digits : goal.returns-in_err-digits
returns-in_err-digits c = λ x xs e n.
    let b = seen c.args.source in
    let h = c.in_ok-head.head in
    let d = c.in_err-digits.field-0.0 in
    let s = c.in_ok-head.ensures in
    let w = exit_made c.read_body.result c.map_err.result d _ _ c.in_err-digits.was c.map_err.ensures.cases (let v = c.map_err.ensures.variant in rw c.in_err-digits.was at v) in
    let at = w.0.at in
    let t = rw w.1 at c.read_body.ensures in
    let l : h.len + at ≤ length b =
    omega (arith, s.1, begins_length (head_bytes (h.sign, h.exponent.power)) b s.2, t.1, ap length c.skip.ensures, length-drop h.len b) in
    let m : h.len + at < 2 ^ 64 = omega (arith, l, length_seen c.args.source.flipped c.args.source.bytes.now, c.ranges.source.0) in
    let k : d.at ≡ h.len + at = search (rules, serving) in
    exit_same (DecimalRead b) c.from_residual-in_err-digits.result d c.from_residual-in_err-digits.ensures.1
    (rw k
    (subst (λ (z : List ℕ). Stops Shaped number_code z (h.len + at)) (sym e)
    (amount_second x xs n h.sign h.exponent.power h.len at (subst (λ (z : List ℕ). Starts InRange head_bytes z (h.sign, h.exponent.power) h.len) e s)
    (subst (λ (z : List ℕ). Stops AreDigits (body_of h.sign) z at) (c.skip.ensures ∙ ap (drop h.len) e) t))))
