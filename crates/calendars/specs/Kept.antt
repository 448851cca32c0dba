-- What sound tables keep.
use Rattle.std.specs.Prelude.{◌≡◌, ℕ, ◌-◌, ◌<◌, ◌≤◌, true, List, length, take, slice_index_or}
use Rattle.std.proofs.Common.{arith}
use Rattle.std.proofs.lemmas.List.{get_or-take, length-take-le}
use Rattle.std.proofs.lemmas.Bool.{and_parts}
use Rattle.calendars.specs.Fields.{up_to}
use Rattle.calendars.specs.Programmes.{blank_season, week_among, week_of}
use Rattle.std.specs.List.{list_all}
use Rattle.calendars.specs.Sound.{profile_sound, month_sound, date_sound}
use Rattle.calendars.specs.declared.profiles.Season.{Season}
use Rattle.calendars.specs.declared.tables.DateTables.{DateTables}
use Rattle.calendars.specs.declared.tables.MonthTables.{MonthTables}
use Rattle.calendars.specs.Begun.{every_at, up_to_lem, last_keeps}

pub record MonthParts (t : MonthTables) : Type 0 where
  pub seasons : list_all (up_to 4) t.seasons ≡ true
  pub weeks : list_all (up_to 4) t.weeks ≡ true
  pub days : list_all (list_all (up_to 3)) t.days ≡ true
  pub profiles : list_all profile_sound t.profiles ≡ true

pub month_parts : (t : MonthTables) → month_sound t ≡ true → MonthParts t
unfolding month_sound
month_parts t sound =
    let a = and_parts (list_all (up_to 4) t.seasons) _ sound in
    let b = and_parts (list_all (up_to 4) t.weeks) _ a.1 in
    let c = and_parts (list_all (list_all (up_to 3)) t.days) _ b.1 in
    record { seasons = a.0; weeks = b.0; days = c.0; profiles = c.1 }

pub record DateParts (t : DateTables) : Type 0 where
  pub count : (1 ≤ t.count) × (t.count ≤ 12)
  pub seasons : list_all (λ season. up_to 8 season.week) (take t.count t.seasons) ≡ true
  pub days : list_all (list_all (up_to 7)) t.days ≡ true
  pub profiles : list_all profile_sound t.profiles ≡ true

pub date_parts : (t : DateTables) → date_sound t ≡ true → DateParts t
unfolding date_sound
date_parts t sound =
    let a = and_parts (up_to 12 t.count) _ sound in
    let b = and_parts (list_all (λ season. up_to 8 season.week) (take t.count t.seasons)) _ a.1 in
    let c = and_parts (list_all (list_all (up_to 7)) t.days) _ b.1 in
    record { count = up_to_lem 12 _ a.0; seasons = b.0; days = c.0; profiles = c.1 }

-- the week profile of a date is one of the eight
pub week_kept : (seasons : List Season) (count date : ℕ) → 1 ≤ count → count ≤ length seasons → list_all (λ season. up_to 8 season.week) (take count seasons) ≡ true → (1 ≤ week_of seasons count date) × (week_of seasons count date ≤ 8)
unfolding week_of week_among
week_kept seasons count date from to all =
    let within : count - 1 < length (take count seasons) = rw (length-take-le count seasons to) (omega arith) in
    let last : up_to 8 (slice_index_or seasons (count - 1) blank_season).week ≡ true =
    rw (get_or-take count seasons (count - 1) blank_season (omega arith)) at (every_at (λ season. up_to 8 season.week) (take count seasons) (count - 1) blank_season within all) in
    up_to_lem 8 _ (last_keeps _ _ 8 _ (take count seasons) last all)
