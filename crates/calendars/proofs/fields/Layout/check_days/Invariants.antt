use Rattle.std.proofs.Common.{◌≡◌, ◌-◌}
use Rattle.calendars.specs.Fields.{first_wrong, parts, day_at}
use Rattle.calendars.proofs.fields.Layout.check_days.Given as goal

abbrev pub invariant-loop-k : goal.invariant-loop-k
invariant-loop-k l =
    first_wrong (parts (day_at l.self.bytes.now l.self.labels l.room l.first) 0 l.count)
    ≡ first_wrong (parts (day_at l.self.bytes.now l.self.labels l.room l.first) l.k (l.count - l.k))
