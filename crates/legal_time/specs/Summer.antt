-- Legal time: stamps, summer time and the local label of a stamp.
-- A stamp counts the minutes from 2000-01-01 00:00 UTC.
use Rattle.std.specs.Prelude.{◌≡◌, ℕ, ◌+◌, ◌*◌, ◌/◌, ◌%◌, ◌≤◌, Bool, cond, ◌&&◌, ◌≢◌, nat_le, nat_lt}
use Rattle.legal_time.specs.Days.{year_of, month_of, day_of_month, weekday_of, last_sunday}

-- summer time of the year y: from 01:00 UTC on the last Sunday of March until 01:00 UTC on the last Sunday of October
unfoldable pub summer_from : ℕ → ℕ
summer_from y = last_sunday y 3 * 1440 + 60

unfoldable pub summer_until : ℕ → ℕ
summer_until y = last_sunday y 10 * 1440 + 60

-- whether summer time holds at the stamp s, by the year of its UTC day
unfoldable pub summer_at : ℕ → Bool
summer_at s = nat_le (summer_from (year_of (s / 1440))) s && nat_lt s (summer_until (year_of (s / 1440)))

-- the summer mark: 1 in summer time, else 0
abbrev pub mark_of : Bool → ℕ
mark_of b = cond b 1 0

-- minutes of local time since 2000-01-01 00:00 local time
unfoldable pub local_of : ℕ → ℕ
local_of s = s + cond (summer_at s) 120 60

-- the local day number and minute of day of the stamp s
abbrev pub day_of : ℕ → ℕ
day_of s = local_of s / 1440

abbrev pub minute_of : ℕ → ℕ
minute_of s = local_of s % 1440

-- What every moment keeps: its time is that of its stamp ..
abbrev pub Timed : ℕ → ℕ → ℕ → Bool → Type 0
Timed stamp day minute summer =
    (stamp ≤ 52595939) × (day ≡ day_of stamp) × (minute ≡ minute_of stamp) × (summer ≡ summer_at stamp)

-- .. and its date that of its day, with a weekday that is 7 or the day's own
abbrev pub Dated : ℕ → ℕ → ℕ → ℕ → Type 0
Dated day month day_in_month weekday =
    (month ≡ month_of day) × (day_in_month ≡ day_of_month day) × ((weekday ≢ 7) → weekday ≡ weekday_of day)

-- the stamp s has this local day number, minute of day and mark
abbrev pub HasLabel : ℕ → ℕ → ℕ → ℕ → Type 0
HasLabel s day minute mark =
    (s ≤ 52595939) × (day_of s ≡ day) × (minute_of s ≡ minute) × (mark_of (summer_at s) ≡ mark)
