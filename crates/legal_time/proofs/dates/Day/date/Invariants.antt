use Rattle.std.proofs.Common.{◌≡◌, ◌+◌, ◌-◌}
use Rattle.legal_time.specs.Days.{month_start}
use Rattle.legal_time.proofs.dates.Day.date.Given as goal

abbrev pub invariant-loop-month : goal.invariant-loop-month
invariant-loop-month l = l.left + month_start l.year (l.month - 1) ≡ l.initial.left
