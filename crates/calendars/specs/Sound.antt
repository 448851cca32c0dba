-- What the tables of every programme keep, so that no look-up goes astray.
use Rattle.std.specs.Prelude.{ℕ, Bool, true, false, ◌&&◌, List, [], ◌∷◌, take, ◌==◌, nat_lt}
use Rattle.std.specs.List.{list_all}
use Rattle.calendars.specs.Fields.{up_to}
use Rattle.calendars.specs.Programmes.{used}
use Rattle.calendars.specs.declared.profiles.DayProfile.{DayProfile}
use Rattle.calendars.specs.declared.profiles.Slot.{Slot}
use Rattle.calendars.specs.declared.tables.DateTables.{DateTables}
use Rattle.calendars.specs.declared.tables.MonthTables.{MonthTables}

-- each starts after those before it
unfoldable pub rising : {X : Type 0} → (X → ℕ) → List X → Bool
rising start [] = true
rising start (x ∷ xs) = list_all (λ y. nat_lt (start x) (start y)) xs && rising start xs

-- a first slot, and it starts with the day
unfoldable pub from_midnight : List Slot → Bool
from_midnight [] = false
from_midnight (s ∷ ss) = s.start == 0

-- the slots that are used begin with the day, their starts rise, and their periods are 1 to 8
unfoldable pub profile_sound : {n : ℕ} → DayProfile n → Bool
profile_sound {n} profile =
    up_to n profile.count
    && (from_midnight (used profile)
    && (rising (λ slot. slot.start) (used profile) && list_all (λ slot. up_to 8 slot.period) (used profile)))

unfoldable pub month_sound : MonthTables → Bool
month_sound t =
    list_all (up_to 4) t.seasons && (list_all (up_to 4) t.weeks && (list_all (list_all (up_to 3)) t.days && list_all profile_sound t.profiles))

unfoldable pub date_sound : DateTables → Bool
date_sound t =
    up_to 12 t.count
    && (list_all (λ season. up_to 8 season.week) (take t.count t.seasons)
    && (list_all (list_all (up_to 7)) t.days && list_all profile_sound t.profiles))
