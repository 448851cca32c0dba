use Rattle.std.proofs.Common.{arith}
use Rattle.std.proofs.lemmas.Bool.Decides.{nat_tests}
use Rattle.calendars.specs.Meanings.{Lawful}
use Rattle.weekday_calendar.specs.Weekdays.{plan_of}
use Rattle.weekday_calendar.specs.declared.rates.Rates.{Rates}

-- rates have lawful periods, by their ghost fields
pub rates_lawful : (rates : Rates) → Lawful (plan_of rates)
rates_lawful rates m = (grind (arith, nat_tests), grind (arith, nat_tests))
