use Rattle.std.proofs.Common.{◌≡◌, ℕ, ◌+◌, ◌-◌, List, ◌∷◌, ℤ, pos, negsuc, sym, ap, ◌∙◌, subst, arith}
use Rattle.codes.specs.Leads.{HeadRead, InRange, head_bytes, other_sign}
use Rattle.codes.specs.Reading.{Starts, Stops}
use Rattle.codes.specs.Sources.{seen}
use Rattle.codes.proofs.Exits.{exit_none}
use Rattle.codes.proofs.Heads.{head_none, near_head, byte_of_far, byte_of_small, other_head, far_stops, far_starts, small_stops, small_starts, small_as, byte_none, byte_some, widened, negated}
use Rattle.codes.proofs.code.number.reading.read_head.Goals as goal

pub returns-in_err-first : goal.returns-in_err-first
returns-in_err-first c =
    let n = c.in_err-first.ensures.ok_part in
    exit_none (HeadRead (seen c.args.source)) (λ e. e) c.from_residual.result c.split.result (record { at = 0 }) c.in_err-first.field-0.0 c.from_residual.ensures.1 c.in_err-first.ensures.value n
    (subst (λ (b : List ℕ). Stops InRange head_bytes b 0) (sym (rw n at c.split.ensures)) head_none)

pub returns-in-Near : goal.returns-in-Near
returns-in-Near c =
    let s = c.in-Near.sign in
    let e = c.in-Near.exponent in
    let front = rw c.in_ok-first.ensures.ok_part at c.split.ensures in
    let r = c.in-Near.ensures in
    subst (λ (z : ℤ). Starts InRange head_bytes (seen c.args.source) (s, z) 1) (sym (widened c.from.result e c.from.ensures (omega arith)))
    (subst (λ (b : List ℕ). Starts InRange head_bytes b (s, pos e) 1) (sym front) (near_head s c.in_ok-first.first e (seen c.in_ok-first.rest) r))

pub returns-in_err-v-in-Far : goal.returns-in_err-v-in-Far
returns-in_err-v-in-Far c =
    let s = c.in-Far.sign in
    let xs = seen c.in_ok-first.rest in
    let front = rw c.in_ok-first.ensures.ok_part at c.split.ensures in
    let n = c.in_err-v-in-Far.ensures.ok_part in
    exit_none (HeadRead (seen c.args.source)) (λ e. e) c.from_residual-in_err-v-in-Far.result c.exponent_byte.result (record { at = 1 }) c.in_err-v-in-Far.field-0.0
    c.from_residual-in_err-v-in-Far.ensures.1 c.in_err-v-in-Far.ensures.value n
    (subst (λ (b : List ℕ). Stops InRange head_bytes b 1) (ap (λ x. x ∷ xs) (sym (byte_of_far s c.in_ok-first.first c.in-Far.ensures)) ∙ sym front)
    (far_stops s xs (byte_none s 11 xs (seen c.signed.result) c.signed.ensures (rw n at c.exponent_byte.ensures))))

pub returns-in_ok-v-in-Far : goal.returns-in_ok-v-in-Far
returns-in_ok-v-in-Far c =
    let s = c.in-Far.sign in
    let v = c.in_ok-v-in-Far.v in
    let xs = seen c.in_ok-first.rest in
    let front = rw c.in_ok-first.ensures.ok_part at c.split.ensures in
    let h = rw c.in_ok-v-in-Far.ensures.ok_part at c.exponent_byte.ensures in
    let w = byte_some s xs (seen c.signed.result) v h.2.0 c.signed.ensures h.2.1 in
    subst (λ (z : ℤ). Starts InRange head_bytes (seen c.args.source) (s, z) 2) (sym (widened c.from-in-Far.result v c.from-in-Far.ensures (omega (arith, h.1))))
    (subst (λ (b : List ℕ). Starts InRange head_bytes b (s, pos v) 2) (ap (λ x. x ∷ xs) (sym (byte_of_far s c.in_ok-first.first c.in-Far.ensures)) ∙ sym front)
    (far_starts s v xs w.0 h.0 h.1 w.1))

pub returns-in_err-v-in-Small : goal.returns-in_err-v-in-Small
returns-in_err-v-in-Small c =
    let s = c.in-Small.sign in
    let o = other_sign s in
    let xs = seen c.in_ok-first.rest in
    let front = rw c.in_ok-first.ensures.ok_part at c.split.ensures in
    let n = c.in_err-v-in-Small.ensures.ok_part in
    exit_none (HeadRead (seen c.args.source)) (λ e. e) c.from_residual-in_err-v-in-Small.result c.exponent_byte-in-Small.result (record { at = 1 }) c.in_err-v-in-Small.field-0.0
    c.from_residual-in_err-v-in-Small.ensures.1 c.in_err-v-in-Small.ensures.value n
    (subst (λ (b : List ℕ). Stops InRange head_bytes b 1) (ap (λ x. x ∷ xs) (sym (byte_of_small s c.in_ok-first.first c.in-Small.ensures)) ∙ sym front)
    (small_stops s xs (byte_none o 1 xs (seen c.signed-in-Small.result) (rw c.opposite.ensures at c.signed-in-Small.ensures) (rw n at c.exponent_byte-in-Small.ensures))))

pub returns-in_ok-v-in-Small : goal.returns-in_ok-v-in-Small
returns-in_ok-v-in-Small c =
    let s = c.in-Small.sign in
    let o = other_sign s in
    let v = c.in_ok-v-in-Small.v in
    let xs = seen c.in_ok-first.rest in
    let front = rw c.in_ok-first.ensures.ok_part at c.split.ensures in
    let h = rw c.in_ok-v-in-Small.ensures.ok_part at c.exponent_byte-in-Small.ensures in
    let w = byte_some o xs (seen c.signed-in-Small.result) v h.2.0 (rw c.opposite.ensures at c.signed-in-Small.ensures) h.2.1 in
    let q : v ≡ v - 1 + 1 = omega (arith, h.0) in
    subst (λ (z : ℤ). Starts InRange head_bytes (seen c.args.source) (s, z) 2) (sym (negated c.from-in-Small.result v c.from-in-Small.ensures h.0 h.1))
    (subst (λ (b : List ℕ). Starts InRange head_bytes b (s, negsuc (v - 1)) 2) (ap (λ x. x ∷ xs) (sym (byte_of_small s c.in_ok-first.first c.in-Small.ensures)) ∙ sym front)
    (small_starts s (v - 1) xs w.0 (omega (arith, h.0, h.1)) (w.1 ∙ ap (λ u. small_as s u ∷ w.0) q)))

pub returns-in_default : goal.returns-in_default
returns-in_default c =
    let front = rw c.in_ok-first.ensures.ok_part at c.split.ensures in
    subst (λ (b : List ℕ). Stops InRange head_bytes b 0) (sym front)
    (other_head c.class_of.result c.in_ok-first.first (seen c.in_ok-first.rest) c.class_of.ensures c.in_default.not-Near c.in_default.not-Far c.in_default.not-Small)
