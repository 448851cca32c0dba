use Rattle.std.proofs.Common.{rules}
use Rattle.calendars.specs.Layouts.{weeks_in}
use Rattle.calendars.proofs.Rows.{row_from_fn}
use Rattle.calendars.proofs.decoding.weeks_at.Goals as goal

pub returns : goal.returns
unfolding weeks_in
returns g c = row_from_fn _ _ _ (λ k x f' call. search rules) _ _ c.from_fn.ensures.items
