-- What programmes mean: the period at each moment.
use Rattle.std.specs.Prelude.{ℕ, ◌+◌, ◌-◌, ◌*◌, Bool, cond, ◌&&◌, ◌||◌, nat_le, List, [], ◌∷◌, ◌++◌, length, slice_index_or, take, fold, Some, None, codes, Option, ◌==◌, nat_lt, slice_index}
use Rattle.legal_time.specs.Days.{month_length}
use Rattle.calendars.specs.Fields.{Field, field, first_wrong, parts, passed, byte_at, wide_at, up_to, marked, choice, day_at, label_fields}
use Rattle.calendars.specs.Layouts.{month_tables, date_tables}
use Rattle.calendars.specs.Meanings.{Plan, Verdict, faults}
use Rattle.calendars.specs.declared.profiles.DayProfile.{DayProfile}
use Rattle.calendars.specs.declared.profiles.Season.{Season}
use Rattle.calendars.specs.declared.profiles.Slot.{Slot}
use Rattle.calendars.specs.declared.tables.DateTables.{DateTables}
use Rattle.calendars.specs.declared.tables.MonthTables.{MonthTables}

-- the value of the last that has begun, or another where none has
unfoldable pub last_begun : {X : Type 0} → (X → Bool) → (X → ℕ) → ℕ → List X → ℕ
last_begun begun value other xs = fold (λ told x. cond (begun x) (value x) told) other xs

-- what a place past the end reads as
abbrev pub blank_slot : Slot
blank_slot = record { start = 0; period = 0 }

abbrev pub blank_season : Season
blank_season = record { start = record { month = 0; day = 0 }; week = 0 }

-- the slots that a day type uses
abbrev pub used : {n : ℕ} → DayProfile n → List Slot
used profile = take profile.count profile.slots

-- the last slot that has started gives the period
unfoldable pub period_of : List Slot → ℕ → ℕ
period_of slots minute = last_begun (λ slot. nat_le slot.start minute) (λ slot. slot.period) 1 slots

-- the day type numbered k
abbrev pub numbered : {n : ℕ} → List (DayProfile n) → ℕ → DayProfile n
numbered profiles k = slice_index_or profiles (k - 1) (record { count = 0; slots = [] })

-- of a week profile the day type of the weekday, and of that the slot
unfoldable pub period_on : {n : ℕ} → List (List ℕ) → List (DayProfile n) → ℕ → Plan
period_on days profiles week m =
    period_of (used (numbered profiles (slice_index (slice_index_or days (week - 1) []) (m.weekday - 1)))) m.minute

-- of the month the season, and of the season the week profile
unfoldable pub month_plan : MonthTables → Plan
month_plan t m = period_on t.days t.profiles (slice_index t.weeks (slice_index t.seasons (m.month - 1) - 1)) m

-- a date as the number in its two bytes, which rises with the date
abbrev pub date_number : ℕ → ℕ → ℕ
date_number month day = 256 * month + day

abbrev pub date_of : Season → ℕ
date_of season = date_number season.start.month season.start.day

-- the week profile of the last of these seasons that has begun, or another where none has
unfoldable pub week_among : List Season → ℕ → ℕ → ℕ
week_among seasons other date =
    last_begun (λ season. nat_le (date_of season) date) (λ season. season.week) other seasons

-- before the first season of the year the last one holds
unfoldable pub week_of : List Season → ℕ → ℕ → ℕ
week_of seasons count date =
    week_among (take count seasons) (slice_index_or seasons (count - 1) blank_season).week date

unfoldable pub date_plan : DateTables → Plan
date_plan t m =
    period_on t.days t.profiles (week_of t.seasons t.count (date_number m.month m.day_of_month)) m

-- The fields of a month programme after letters and version, in the order of its layout: a season for each month, a
-- week profile for each season, the day types of the week profiles, the day types, the labels.
unfoldable pub month_fields : List ℕ → List Field
month_fields bytes =
    parts (choice bytes 4 5) 0 12
    ++ (parts (choice bytes 4 17) 0 4
    ++ (parts (choice bytes 3 21) 0 28 ++ (parts (day_at bytes 142 10 49) 0 3 ++ parts (label_fields bytes 142) 0 8)))

-- a date of a common year
unfoldable pub common_date : ℕ → ℕ → Bool
common_date month day = up_to 12 month && up_to (month_length 2001 month) day

-- The date of season k exists in a common year and lies after that of the season before; past the count it is zero.
unfoldable pub date_lawful : List ℕ → ℕ → Bool
date_lawful bytes k =
    cond (nat_le (byte_at bytes 5) k) (wide_at bytes (6 + 3 * k) == 0)
    (common_date (byte_at bytes (6 + 3 * k)) (byte_at bytes (6 + 3 * k + 1))
    && (k == 0 || nat_lt (wide_at bytes (6 + 3 * k - 3)) (wide_at bytes (6 + 3 * k))))

-- its week profile is 1 to 8; past the count it is zero
unfoldable pub week_lawful : List ℕ → ℕ → Bool
week_lawful bytes k = cond (nat_le (byte_at bytes 5) k) (byte_at bytes (6 + 3 * k + 2) == 0) (up_to 8 (byte_at bytes (6 + 3 * k + 2)))

unfoldable pub season_fields : List ℕ → ℕ → List Field
season_fields bytes k = field (6 + 3 * k) (date_lawful bytes k) ∷ field (6 + 3 * k + 2) (week_lawful bytes k) ∷ []

-- The fields of a date programme after letters and version: the count of seasons and the seasons, the day types of the
-- week profiles, the day types, the labels.
unfoldable pub date_fields : List ℕ → List Field
date_fields bytes =
    field 5 (up_to 12 (byte_at bytes 5))
    ∷ (parts (season_fields bytes) 0 12
    ++ (parts (choice bytes 7 42) 0 56 ++ (parts (day_at bytes 336 11 98) 0 7 ++ parts (label_fields bytes 336) 0 8)))

-- Questions 6 and 7 of a programme: its length, then its letters and version.
abbrev pub misformed : ℕ → List ℕ → List ℕ → Option ℕ
misformed size letters bytes = cond (length bytes == size) (cond (marked letters bytes) None (Some 7)) (Some 6)

-- question 8 comes after them
abbrev pub judged : {X : Type 0} → Option ℕ → List Field → X → Verdict X
judged None fields x = passed x (first_wrong fields)
judged (Some number) fields x = faults number 0

-- what bytes mean to a month and to a date calendar
unfoldable pub month_reading : List ℕ → Verdict Plan
month_reading bytes = judged (misformed 166 (codes "TPM") bytes) (month_fields bytes) (month_plan (month_tables bytes))

unfoldable pub date_reading : List ℕ → Verdict Plan
date_reading bytes = judged (misformed 360 (codes "TPD") bytes) (date_fields bytes) (date_plan (date_tables bytes))
