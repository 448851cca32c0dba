-- The Gregorian calendar by day numbers: day 0 is 2000-01-01, a Saturday.
use Rattle.std.specs.Prelude.{ℕ, zero, suc, ◌+◌, ◌-◌, ◌%◌, ◌≤◌, Bool, cond, not, ◌&&◌, ◌||◌, ◌==◌, nat_le}

-- every fourth year is a leap year, but of the full centuries only every fourth
unfoldable pub leap_year : ℕ → Bool
leap_year y = y % 4 == 0 && (not (y % 100 == 0) || y % 400 == 0)

unfoldable pub year_length : ℕ → ℕ
year_length y = cond (leap_year y) 366 365

-- February has 28 days, or 29 in a leap year; April, June, September and November have 30, the others 31
unfoldable pub month_length : ℕ → ℕ → ℕ
month_length y m =
    cond (m == 2) (cond (leap_year y) 29 28) (cond (m == 4 || (m == 6 || (m == 9 || m == 11))) 30 31)

-- the days from 2000-01-01 to 1 January of the year 2000 + k
unfoldable pub year_start : ℕ → ℕ
year_start zero = 0
year_start (suc k) = year_start k + year_length (2000 + k)

-- the days of the first k months of the year y
unfoldable pub month_start : ℕ → ℕ → ℕ
month_start y zero = 0
month_start y (suc k) = month_start y k + month_length y (suc k)

-- a date that the calendar has, from 2000 to 2099
pub record Valid (y m d : ℕ) : Type 0 where
  pub year_from : 2000 ≤ y
  pub year_to : y ≤ 2099
  pub month_from : 1 ≤ m
  pub month_to : m ≤ 12
  pub day_from : 1 ≤ d
  pub day_to : d ≤ month_length y m

-- the day number of a date
unfoldable pub day_number : ℕ → ℕ → ℕ → ℕ
day_number y m d = year_start (y - 2000) + month_start y (m - 1) + (d - 1)

-- 1 Monday to 7 Sunday; day 0 is a Saturday
abbrev pub weekday_of : ℕ → ℕ
weekday_of n = (n + 5) % 7 + 1

-- the day number of the last Sunday of a month: its last day, less the days since a Sunday
unfoldable pub last_sunday : ℕ → ℕ → ℕ
last_sunday y m = day_number y m (month_length y m) - weekday_of (day_number y m (month_length y m)) % 7

-- of the places 0 to k with rising starts, the last whose start is not past n
unfoldable pub last_started : (ℕ → ℕ) → ℕ → ℕ → ℕ
last_started start zero n = 0
last_started start (suc k) n = cond (nat_le (start (suc k)) n) (suc k) (last_started start k n)

-- year, month and day of the month of a day number
unfoldable pub year_of : ℕ → ℕ
year_of n = 2000 + last_started year_start 99 n

unfoldable pub day_of_year : ℕ → ℕ
day_of_year n = n - year_start (year_of n - 2000)

unfoldable pub month_of : ℕ → ℕ
month_of n = 1 + last_started (month_start (year_of n)) 11 (day_of_year n)

unfoldable pub day_of_month : ℕ → ℕ
day_of_month n = day_of_year n - month_start (year_of n) (month_of n - 1) + 1
