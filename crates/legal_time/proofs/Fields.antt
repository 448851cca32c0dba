-- The bounds of a moment's fields.
use Rattle.std.proofs.Common.{◌<◌, ◌≤◌}
use Rattle.legal_time.proofs.Summer.{day_bound}
use Rattle.legal_time.proofs.Years.{month_bound, day_of_month_bound}
use Rattle.legal_time.specs.declared.moments.Moment.{Moment}

pub day_within : (m : Moment) → m.day < 36525
day_within m = rw m.timed.1 (day_bound m.stamp m.timed.0)

pub month_within : (m : Moment) → (1 ≤ m.month) × (m.month ≤ 12)
month_within m = rw m.dated.0 (month_bound m.day)

pub day_of_month_within : (m : Moment) → (1 ≤ m.day_of_month) × (m.day_of_month ≤ 31)
day_of_month_within m = rw m.dated.1 (day_of_month_bound m.day (day_within m))
