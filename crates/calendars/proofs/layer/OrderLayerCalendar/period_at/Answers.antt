use Rattle.std.proofs.Common.{◌∙◌}
use Rattle.calendars.specs.Laid.{laid_told}
use Rattle.calendars.proofs.layer.OrderLayerCalendar.period_at.Goals as goal

pub returns-in-Some : goal.returns-in-Some
returns-in-Some g c = laid_told _ _ _ _ _ c.stamp.ensures.value c.in-Some.ensures

pub returns-in-None : goal.returns-in-None
returns-in-None g c = c.period_at-in-None.ensures ∙ laid_told _ _ _ _ _ c.stamp.ensures.value c.in-None.ensures
