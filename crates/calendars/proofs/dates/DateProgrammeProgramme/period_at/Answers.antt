use Rattle.std.proofs.Common.{◌≡◌, length, arith, rules}
use Rattle.calendars.specs.Kept.{date_parts, week_kept}
use Rattle.calendars.proofs.dates.DateProgrammeProgramme.period_at.Goals as goal

pub period_on-requires : goal.period_on-requires
period_on-requires c =
    let t = c.args.self.now.tables in
    let parts = date_parts t c.args.self.now.sound in
    let seasons : length t.seasons ≡ 12 = search rules in
    let days : length t.days ≡ 8 = search rules in
    let profiles : length t.profiles ≡ 7 = search rules in
    let week = week_kept t.seasons t.count _ parts.count.0 (omega arith) parts.seasons in
    (search rules, (rw (c.week_on-week.ensures, days) week, (rw profiles parts.days, parts.profiles)))
