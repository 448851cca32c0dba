use Rattle.std.proofs.Common.{◌≡◌, ◌-◌}
use Rattle.calendars.specs.Fields.{first_wrong, parts, label_fields}
use Rattle.calendars.proofs.fields.Layout.check_labels.Given as goal

abbrev pub invariant-loop-k : goal.invariant-loop-k
invariant-loop-k l =
    first_wrong (parts (label_fields l.self.bytes.now l.self.labels) 0 8) ≡ first_wrong (parts (label_fields l.self.bytes.now l.self.labels) l.k (8 - l.k))
