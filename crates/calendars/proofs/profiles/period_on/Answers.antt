use Rattle.std.proofs.Common.{◌-◌, ◌<◌, length, arith, rules}
use Rattle.std.proofs.lemmas.Grind.{common_steps}
use Rattle.calendars.proofs.Looked.{sound_there, told_there}
use Rattle.calendars.proofs.profiles.period_on.Goals as goal

pub period_at-requires : goal.period_at-requires
period_at-requires g c =
    let within : c.from-3.result - 1 < length c.args.profiles.now = grind (arith, common_steps) in
    (search rules, sound_there _ _ _ within c.index-profiles-from.is c.requires.profiles)

pub returns : goal.returns
returns g c =
    let within : c.from-3.result - 1 < length c.args.profiles.now = grind (arith, common_steps) in
    rw (c.period_at.ensures, c.minute.ensures.value)
    (told_there _ _ _ within c.index-profiles-from.is c.args.days.now c.args.week c.args.moment (cc (c.from-3.ensures, c.from.ensures, c.from-2.ensures, c.weekday.ensures.value)))
