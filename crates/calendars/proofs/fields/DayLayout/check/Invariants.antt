use Rattle.std.proofs.Common.{◌≡◌, ◌-◌}
use Rattle.calendars.specs.Fields.{first_wrong, parts, slot_fields}
use Rattle.calendars.proofs.fields.DayLayout.check.Given as goal

abbrev pub invariant-loop-i : goal.invariant-loop-i
invariant-loop-i l =
    first_wrong (parts (slot_fields l.self.programme.bytes.now l.self.programme.labels l.self.base) 0 l.self.room)
    ≡ first_wrong (parts (slot_fields l.self.programme.bytes.now l.self.programme.labels l.self.base) l.i (l.self.room - l.i))
