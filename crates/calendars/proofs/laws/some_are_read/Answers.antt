use Rattle.std.proofs.Common.{refl}
use Rattle.legal_time.specs.Days.{month_length, leap_year}
use Rattle.calendars.specs.Fields.{parts, marked, choice, named, printable, label_fields, start_lawful, period_lawful, slot_fields, day_fields, day_at}
use Rattle.calendars.specs.Programmes.{common_date, date_lawful, week_lawful, season_fields, month_fields, date_fields, month_reading, date_reading}
use Rattle.calendars.proofs.laws.some_are_read.Goals as goal

pub returns : goal.returns
unfolding parts marked choice named printable label_fields start_lawful period_lawful slot_fields day_fields day_at common_date date_lawful week_lawful season_fields month_fields date_fields month_reading date_reading month_length leap_year
returns c = record { month = refl; date = refl }
