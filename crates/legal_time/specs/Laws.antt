-- The laws of legal time, in the words of the calendar.
use Rattle.std.specs.Prelude.{◌≡◌, ℕ, ◌+◌, ◌*◌, ◌<◌, ◌≤◌, true, cond, Result, MatchResult, ◌==◌}
use Rattle.legal_time.specs.Days.{Valid, year_of, month_of, day_of_month, day_number, month_length, weekday_of, last_sunday}
use Rattle.legal_time.specs.Moments.{moment_of, MomentOf, MomentAnswer, StampAnswer}
use Rattle.legal_time.specs.Refusals.{Refused}
use Rattle.legal_time.specs.Summer.{summer_from, summer_until, summer_at, mark_of, HasLabel}
use Rattle.legal_time.specs.declared.moments.Moment.{Moment}
use Rattle.legal_time.specs.declared.refusals.Refusal.{Refusal}

-- Every day has a date whose day number it is, and every date is that of its day number.
pub record OneDate : Type 0 where
  pub of_day : (n : ℕ) → n < 36525 → Valid (year_of n) (month_of n) (day_of_month n) × (day_number (year_of n) (month_of n) (day_of_month n) ≡ n)
  pub of_date : (y m d : ℕ) → Valid y m d → (day_number y m d < 36525) × (year_of (day_number y m d) ≡ y) × (month_of (day_number y m d) ≡ m) × (day_of_month (day_number y m d) ≡ d)

-- Day 0 is a Saturday, and Monday follows Sunday.
pub record WeekdaysFollow : Type 0 where
  pub first : weekday_of 0 ≡ 6
  pub next : (n : ℕ) → weekday_of (n + 1) ≡ cond (weekday_of n == 7) 1 (weekday_of n + 1)

-- the day n lies in the month m of the year y
abbrev pub InMonth : ℕ → ℕ → ℕ → Type 0
InMonth y m n = (day_number y m 1 ≤ n) × (n ≤ day_number y m (month_length y m))

-- The last Sunday of a month is a Sunday in it, and the Sunday after is not in it.
pub record LastSunday (y m : ℕ) : Type 0 where
  pub sunday : weekday_of (last_sunday y m) ≡ 7
  pub inside : InMonth y m (last_sunday y m)
  pub last : InMonth y m (last_sunday y m + 7) → ⊥

abbrev pub LastSundays : Type 0
LastSundays = (y m : ℕ) → 2000 ≤ y → y ≤ 2099 → 1 ≤ m → m ≤ 12 → LastSunday y m

-- the stamp s lies in the summer time of the year y
abbrev pub InSummer : ℕ → ℕ → Type 0
InSummer y s = (2000 ≤ y) × (y ≤ 2099) × (summer_from y ≤ s) × (s < summer_until y)

-- Summer time holds at a stamp exactly if the stamp lies in the summer time of some year.
pub record SummerIntervals : Type 0 where
  pub within : (s : ℕ) → s ≤ 52595939 → summer_at s ≡ true → (y : ℕ) × InSummer y s
  pub holds : (s y : ℕ) → InSummer y s → summer_at s ≡ true

-- A moment is known by its stamp and its weekday, so a stamp has one moment.
pub record OneMoment : Type 0 where
  pub known_by : (m n : Moment) → m.stamp ≡ n.stamp → m.weekday ≡ n.weekday → m ≡ n
  pub of_stamp : (s : ℕ) (h : s ≤ 52595939) (m : Moment) → MomentOf s m → m ≡ moment_of s h

-- From a stamp to its label and back is the stamp: every answer for the label of a stamp's moment is that stamp.
abbrev pub ThereAndBack : Type 0
ThereAndBack =
    (s : ℕ) (m : Moment) → MomentOf s m → (r : Result ℕ Refusal) → StampAnswer m.day m.minute (mark_of m.summer) r →
    MatchResult r (λ t. t ≡ s) (λ e. ⊥)

-- From a label to its stamp and on is the label: every answer for the stamp of a label has that label.
abbrev pub BackAndThere : Type 0
BackAndThere =
    (day minute mark s : ℕ) → HasLabel s day minute mark → (r : Result Moment Refusal) → MomentAnswer s r →
    MatchResult r (λ m. (m.day ≡ day) × (m.minute ≡ minute) × (mark_of m.summer ≡ mark)) (λ e. ⊥)

-- what every answer for this stamp says: the date, the minute of day and the mark
abbrev pub Tells : ℕ → (ℕ × ℕ × ℕ) → ℕ → ℕ → Type 0
Tells s date minute mark =
    (r : Result Moment Refusal) → MomentAnswer s r →
    MatchResult r (λ m. (m.day ≡ day_number date.0 date.1 date.2) × (m.month ≡ date.1) × (m.day_of_month ≡ date.2) × (m.minute ≡ minute) × (mark_of m.summer ≡ mark)) (λ e. ⊥)

-- every answer for this label is 16
abbrev pub TellsNone : ℕ → ℕ → ℕ → Type 0
TellsNone day minute mark =
    (r : Result ℕ Refusal) → StampAnswer day minute mark r → MatchResult r (λ s. ⊥) (λ e. Refused e 16 0 0)

-- The edges: the minutes around the two changes of 2024, and the hour that spring leaves out.
pub record Edges : Type 0 where
  pub before_spring : Tells 12752699 (2024, 3, 31) (1 * 60 + 59) 0
  pub from_spring : Tells 12752700 (2024, 3, 31) (3 * 60) 1
  pub before_autumn : Tells 13055099 (2024, 10, 27) (2 * 60 + 59) 1
  pub from_autumn : Tells 13055100 (2024, 10, 27) (2 * 60) 0
  pub left_out : (mark : ℕ) → TellsNone 8856 150 mark
