use Rattle.std.proofs.Common.{◌≡◌, ◌-◌}
use Rattle.calendars.specs.Fields.{first_wrong, parts, choice}
use Rattle.calendars.proofs.fields.Layout.check_choices.Given as goal

abbrev pub invariant-loop-k : goal.invariant-loop-k
invariant-loop-k l =
    first_wrong (parts (choice l.self.bytes.now l.most l.first) 0 l.count)
    ≡ first_wrong (parts (choice l.self.bytes.now l.most l.first) l.k (l.count - l.k))
