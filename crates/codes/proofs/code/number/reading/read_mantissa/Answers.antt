use Rattle.std.proofs.Common.{◌≡◌, ℕ, ◌+◌, ◌*◌, ◌/◌, ◌<◌, ◌≤◌, List, [], ◌∷◌, ◌++◌, take, set, length, ◌∙◌, subst, arith, length-append, length-set, length-take-le}
use Rattle.std.proofs.lemmas.Bool.{both_ways}
use Rattle.std.proofs.lemmas.List.{take_more_set}
use Rattle.codes.specs.Codes.{mantissa}
use Rattle.codes.specs.Leads.{AreDigits, Mark}
use Rattle.codes.specs.Reading.{Stops}
use Rattle.codes.specs.Sources.{seen}
use Rattle.codes.proofs.Mantissas.{onward_more, onward_last, onward_stop, here, past}
use Rattle.codes.proofs.Seens.{length_seen, seen_at}
use Rattle.codes.proofs.code.number.reading.read_mantissa.Goals as goal

-- the digits so far, with one more
filled : (items : List ℕ) (i d : ℕ) → i < 16 → length items ≡ 16 → take (i + 1) (set items i d) ≡ take i items ++ (d ∷ [])
filled items i d h e = take_more_set items i d (omega arith)

pub returns-then-not-is_mark : goal.returns-then-not-is_mark
returns-then-not-is_mark c =
    let b = seen c.args.source in
    let i = c.loop-i.i in
    let at = seen_at c.args.source.flipped c.args.source.bytes.now i c.see-b.result c.loop-i-test.true c.see-b.ensures in
    onward_stop b i (take i c.loop-i.items) c.loop-i.invariant.2
    (here b i at.0 c.loop-i.invariant.0 (λ m. both_ways c.is_mark.result c.if-not-is_mark.true (c.is_mark.ensures.1 (subst (λ (z : ℕ). Mark i z) at.1 m))))

pub invariant_of-result : goal.invariant_of-result
invariant_of-result c =
    let x = c.see-b.result in
    let i = c.loop-i.i in
    let at = seen_at c.args.source.flipped c.args.source.bytes.now i x c.loop-i-test.true c.see-b.ensures in
    let m = c.is_mark.ensures.0 c.if-not-is_mark.false in
    let t = onward_last (seen c.args.source) i (take i c.loop-i.items) (x / 2) c.loop-i.invariant.2 at.0 (omega (arith, at.1)) c.loop-i.invariant.0 (omega (arith, m.0)) (omega (arith, m.1)) in
    rw (filled c.loop-i.items i (x / 2) c.loop-i.invariant.0 c.loop-i.invariant.1) (record { row = t.0.0; trim = t.0.1 })

pub returns-then-b-eq0 : goal.returns-then-b-eq0
returns-then-b-eq0 c =
    let x = c.see-b.result in
    let i = c.loop-i.i in
    let at = seen_at c.args.source.flipped c.args.source.bytes.now i x c.loop-i-test.true c.see-b.ensures in
    let m = c.is_mark.ensures.0 c.if-not-is_mark.false in
    let t = onward_last (seen c.args.source) i (take i c.loop-i.items) (x / 2) c.loop-i.invariant.2 at.0 (omega (arith, at.1)) c.loop-i.invariant.0 (omega (arith, m.0)) (omega (arith, m.1)) in
    let front = length-take-le i c.loop-i.items (omega (arith, c.loop-i.invariant.0, c.loop-i.invariant.1)) in
    let l = length-append (take i c.loop-i.items) (x / 2 ∷ []) in
    rw (filled c.loop-i.items i (x / 2) c.loop-i.invariant.0 c.loop-i.invariant.1) (t.0, omega (arith, front, l, t.1), t.2)

pub loop-i-preserved : goal.loop-i-preserved
loop-i-preserved c =
    let b = seen c.args.source in
    let i = c.loop-i.i in
    let x = c.see-b.result in
    let at = seen_at c.args.source.flipped c.args.source.bytes.now i x c.loop-i-test.true c.see-b.ensures in
    let m = c.is_mark.ensures.0 c.if-not-is_mark.false in
    let odd = c.if-b-eq0.false in
    let p : x ≡ 2 * (x / 2) + 1 = omega arith in
    let last : i ≡ 15 → ⊥ = λ z. odd (m.3 z) in
    rw (filled c.loop-i.items i (x / 2) c.loop-i.invariant.0 c.loop-i.invariant.1) (
      omega (arith, c.loop-i.invariant.0),
      simp length-set c.loop-i.invariant.1,
      onward_more b i (take i c.loop-i.items) (x / 2) c.loop-i.invariant.2 at.0 (at.1 ∙ p) (omega (arith, m.0)) (λ z. let q = m.2 z in omega arith),
    )

pub returns : goal.returns
returns c =
    let b = seen c.args.source in
    let i = c.loop-i.i in
    let h : length b ≤ i = omega (arith, c.loop-i-test.false, length_seen c.args.source.flipped c.args.source.bytes.now) in
    let s = onward_stop b i (take i c.loop-i.items) c.loop-i.invariant.2 (past b i h c.loop-i.invariant.0) in
    let e : i ≡ c.len.result = omega (arith, s.1, h, c.len.ensures) in
    subst (λ (z : ℕ). Stops AreDigits mantissa b z) e s
