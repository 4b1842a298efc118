use Rattle.std.proofs.Common.{◌≡◌, ◌+◌, ◌*◌, ◌≤◌, take, drop, sum}
use Rattle.stores.specs.Sums.{weighed}
use Rattle.stores.proofs.page_data.PageData.running.Given as goal

abbrev pub invariant-loop-byte : goal.invariant-loop-byte
invariant-loop-byte l =
    (l.place ≡ l.byte-index + 1) × (l.plain ≡ l.self.number + sum (take l.byte-index l.byte-items))
    × (l.places + weighed l.place (drop l.byte-index l.byte-items) ≡ weighed 1 l.byte-items)
    × (l.plain ≤ l.self.number + 255 * l.byte-index) × (l.places ≤ 261120 * l.byte-index)
