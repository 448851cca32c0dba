-- The laws of orders and calendars.
use Rattle.std.specs.Prelude.{◌≡◌, ℕ, suc, ◌+◌, ◌-◌, ◌*◌, ◌<◌, ◌≤◌, max, true, List, ◌∷◌, ◌++◌, length, slice_index_or, take, replicate, codes, Decides}
use Rattle.std.specs.List.{AllByRecursion}
use Rattle.legal_time.specs.Refusals.{Reply}
use Rattle.legal_time.specs.declared.Moment.{Moment}
use Rattle.calendars.specs.Layouts.{profile_in, date_tables}
use Rattle.calendars.specs.Meanings.{Plan, Verdict, reads, is_read, alone, carried}
use Rattle.calendars.specs.Orders.{Holds, Apart, holds, laid, overlap}
use Rattle.calendars.specs.Programmes.{blank_slot, blank_season, used, period_of, date_of, week_of, month_reading, date_reading}
use Rattle.calendars.specs.declared.orders.Order.{Order}
use Rattle.calendars.specs.declared.profiles.Season.{Season}
use Rattle.calendars.specs.declared.profiles.Slot.{Slot}

-- An order holds the stamps from its start on, as many as its length: the first and the last, and no more.
pub record OrderMinutes : Type 0 where
  pub told : (o : Order) (s : ℕ) → Decides (holds o s) (Holds o s)
  pub first : (o : Order) → 1 ≤ o.length → Holds o o.start
  pub last : (o : Order) → 1 ≤ o.length → Holds o (o.start + o.length - 1)
  pub ended : (o : Order) → Holds o (o.start + o.length) → ⊥

-- Two orders overlap exactly if they share a stamp, and then they share the later start.
pub record OverlappingOrders : Type 0 where
  pub shared : (o p : Order) → 1 ≤ o.length → 1 ≤ p.length → overlap o p ≡ true → Holds o (max o.start p.start) × Holds p (max o.start p.start)
  pub told : (o p : Order) (s : ℕ) → Holds o s → Holds p s → overlap o p ≡ true

-- Of orders that share no stamp, the one that holds a moment's stamp tells its period. Where none does, the map tells it.
pub record ToldByOneOrder : Type 0 where
  pub by_order : (os : List Order) (plan : Plan) (m : Moment) (i : ℕ) (d : Order) → Apart os → i < length os → Holds (slice_index_or os i d) m.stamp → laid os plan m ≡ (slice_index_or os i d).period
  pub by_map : (os : List Order) (plan : Plan) (m : Moment) → AllByRecursion (λ o. Holds o m.stamp → ⊥) os → laid os plan m ≡ plan m

-- what a calendar with these orders tells of a moment once a programme is read and holds: the map's period under the
-- orders, or the fault
abbrev pub programmed : List Order → Verdict Plan → Moment → Reply ℕ
programmed os verdict m = alone (carried (λ plan. laid os plan m) verdict)

-- Of things that start one after the other, the i-th holds a time: it has started, and the next has not.
pub record HoldsAt {X : Type 0} (start : X → ℕ) (blank : X) (xs : List X) (i time : ℕ) : Type 0 where
  pub within : i < length xs
  pub started : start (slice_index_or xs i blank) ≤ time
  pub next_not : suc i < length xs → time < start (slice_index_or xs (suc i) blank)

-- Exactly one of them holds each time from the first start on, and what it gives is told.
pub record InTurn {X : Type 0} (start value : X → ℕ) (blank : X) (xs : List X) (told_at : ℕ → ℕ) : Type 0 where
  pub some : (time : ℕ) → start (slice_index_or xs 0 blank) ≤ time → (i : ℕ) × HoldsAt start blank xs i time
  pub one : (time i j : ℕ) → HoldsAt start blank xs i time → HoldsAt start blank xs j time → i ≡ j
  pub told : (time i : ℕ) → HoldsAt start blank xs i time → told_at time ≡ value (slice_index_or xs i blank)

-- the slots of a day start with the day and tell the period of each minute
pub record SlotsFill (slots : List Slot) : Type 0 where
  pub from_midnight : (slice_index_or slots 0 blank_slot).start ≡ 0
  pub in_turn : InTurn (λ slot. slot.start) (λ slot. slot.period) blank_slot slots (period_of slots)

-- In a programme that is read, the slots of each day type fill the day.
pub record SlotsFillTheDay : Type 0 where
  pub of_month : (bytes : List ℕ) (plan : Plan) → month_reading bytes ≡ reads plan → (k : ℕ) → k < 3 → SlotsFill (used (profile_in bytes 10 (49 + 31 * k)))
  pub of_date : (bytes : List ℕ) (plan : Plan) → date_reading bytes ≡ reads plan → (k : ℕ) → k < 7 → SlotsFill (used (profile_in bytes 11 (98 + 34 * k)))

-- the seasons of a year tell the week profile of each date, and before the first of them the last one does
pub record SeasonsFill (seasons : List Season) (week_on : ℕ → ℕ) : Type 0 where
  pub in_turn : InTurn date_of (λ season. season.week) blank_season seasons week_on
  pub before : (date : ℕ) → date < date_of (slice_index_or seasons 0 blank_season) → week_on date ≡ (slice_index_or seasons (length seasons - 1) blank_season).week

-- In a date programme that is read, the seasons fill the year.
abbrev pub SeasonsFillTheYear : Type 0
SeasonsFillTheYear =
    (bytes : List ℕ) (plan : Plan) → date_reading bytes ≡ reads plan →
    SeasonsFill (take (date_tables bytes).count (date_tables bytes).seasons) (week_of (date_tables bytes).seasons (date_tables bytes).count)

-- a day type with room for n slots, of which one holds all day and has period 1
abbrev pub plain_day : ℕ → List ℕ
plain_day n = 1 ∷ 0 ∷ 0 ∷ 1 ∷ replicate (3 * (n - 1)) 0

abbrev pub plain_labels : List ℕ
plain_labels = codes "P1 P2 P3 P4 P5 P6 P7 P8 "

-- Some bytes are read: a month and a date programme with period 1 throughout.
pub record SomeAreRead : Type 0 where
  pub month : is_read (month_reading (codes "TPM" ++ 0 ∷ 1 ∷ replicate 44 1 ++ plain_day 10 ++ plain_day 10 ++ plain_day 10 ++ plain_labels)) ≡ true
  pub date : is_read (date_reading (codes "TPD" ++ 0 ∷ 1 ∷ 1 ∷ 1 ∷ 1 ∷ 1 ∷ replicate 33 0 ++ replicate 56 1 ++ plain_day 11 ++ plain_day 11 ++ plain_day 11 ++ plain_day 11 ++ plain_day 11 ++ plain_day 11 ++ plain_day 11 ++ plain_labels)) ≡ true
