-- Where the tables of a programme stand in its bytes.
use Rattle.std.specs.Prelude.{ℕ, ◌+◌, ◌*◌, List, map}
use Rattle.std.specs.List.{range_with_len}
use Rattle.calendars.specs.Fields.{byte_at, wide_at}
use Rattle.calendars.specs.declared.profiles.DayProfile.{DayProfile}
use Rattle.calendars.specs.declared.profiles.Season.{Season}
use Rattle.calendars.specs.declared.profiles.Slot.{Slot}
use Rattle.calendars.specs.declared.tables.DateTables.{DateTables}
use Rattle.calendars.specs.declared.tables.MonthTables.{MonthTables}

-- n of something, one after the other
abbrev pub row : {X : Type 0} → (ℕ → X) → ℕ → List X
row at n = map at (range_with_len 0 n)

-- n bytes from `first` on
unfoldable pub bytes_in : List ℕ → ℕ → ℕ → List ℕ
bytes_in bytes n first = row (λ k. byte_at bytes (first + k)) n

-- the day types of n week profiles, seven bytes each
unfoldable pub weeks_in : List ℕ → ℕ → ℕ → List (List ℕ)
weeks_in bytes n first = row (λ k. bytes_in bytes 7 (first + 7 * k)) n

-- a slot: its start in two bytes, its period in one
unfoldable pub slot_in : List ℕ → ℕ → Slot
slot_in bytes at = record { start = wide_at bytes at; period = byte_at bytes (at + 2) }

-- a day type: its count, then its slots
unfoldable pub profile_in : List ℕ → (n : ℕ) → ℕ → DayProfile n
profile_in bytes n base = record { count = byte_at bytes base; slots = row (λ k. slot_in bytes (base + 1 + 3 * k)) n }

unfoldable pub profiles_in : List ℕ → (n : ℕ) → ℕ → ℕ → List (DayProfile n)
profiles_in bytes n days first = row (λ k. profile_in bytes n (first + (1 + 3 * n) * k)) days

-- a season: its month, its day and its week
unfoldable pub season_in : List ℕ → ℕ → Season
season_in bytes at = record { start = record { month = byte_at bytes at; day = byte_at bytes (at + 1) }; week = byte_at bytes (at + 2) }

-- the 166 bytes of a month programme
unfoldable pub month_tables : List ℕ → MonthTables
month_tables bytes =
    record {
      seasons = bytes_in bytes 12 5;
      weeks = bytes_in bytes 4 17;
      days = weeks_in bytes 4 21;
      profiles = profiles_in bytes 10 3 49;
    }

-- the 360 bytes of a date programme
unfoldable pub date_tables : List ℕ → DateTables
date_tables bytes =
    record {
      count = byte_at bytes 5;
      seasons = row (λ k. season_in bytes (6 + 3 * k)) 12;
      days = weeks_in bytes 8 42;
      profiles = profiles_in bytes 11 7 98;
    }
