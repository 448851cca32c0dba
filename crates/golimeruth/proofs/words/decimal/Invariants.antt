use Rattle.std.proofs.Common.{◌≡◌, ℕ, ◌<◌, ◌≤◌, ◌^◌, ◌-◌, min, get_or, take}
use Rattle.golimeruth.specs.Decimal.{spelled}
use Rattle.golimeruth.proofs.words.decimal.Given as goal

abbrev pub invariant-loop-byte : goal.invariant-loop-byte
invariant-loop-byte l =
    (l.value ≡ min (spelled (take l.byte-index l.word)) (2 ^ 64 - 1))
    × ((k : ℕ) → k < l.byte-index → (48 ≤ get_or l.word k 0) × (get_or l.word k 0 ≤ 57))
