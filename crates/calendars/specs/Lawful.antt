-- Bytes whose every field is lawful give sound tables.
use Rattle.std.specs.Prelude.{◌≡◌, ℕ, zero, suc, ◌+◌, ◌-◌, ◌*◌, ◌<◌, ◌≤◌, Bool, true, false, cond, List, ◌++◌, map, take, Some, None, Option}
use Rattle.std.proofs.Math.Path.{refl}
use Rattle.std.proofs.Common.{sym, ◌∙◌}
use native.Mathlib.Omega.{arith}
use Rattle.std.specs.List.{range_with_len}
use Rattle.std.proofs.lemmas.List.FromFn.{take-map-range_with_len}
use Rattle.std.proofs.lemmas.Bool.{and_from, lt-ltb, eq-eqb}
use Rattle.std.proofs.lemmas.Bool.Decides.{nat_tests}
use Rattle.calendars.specs.Fields.{Field, first_wrong, parts, byte_at, wide_at, start_at, period_at, up_to, choice, start_lawful, period_lawful, slot_fields, day_fields, day_at}
use Rattle.calendars.specs.Layouts.{row, bytes_in, weeks_in, slot_in, profile_in, profiles_in, season_in, month_tables, date_tables}
use Rattle.calendars.specs.Programmes.{used, date_of, month_fields, date_fields, date_lawful, week_lawful, season_fields}
use Rattle.std.specs.List.{list_all}
use Rattle.calendars.specs.Sound.{rising, from_midnight, profile_sound, month_sound, date_sound}
use Rattle.calendars.specs.Begun.{up_to_lem}
use Rattle.calendars.specs.Checks.{first_append, or_else}

none_parts : (x y : Option ℕ) → or_else x y ≡ None → (x ≡ None) × (y ≡ None)
none_parts None y e = (refl, e)
none_parts (Some k) y e = cc

append_none : (fs gs : List Field) → first_wrong (fs ++ gs) ≡ None → (first_wrong fs ≡ None) × (first_wrong gs ≡ None)
append_none fs gs e = none_parts (first_wrong fs) (first_wrong gs) (sym (first_append fs gs) ∙ e)

field_none : (lawful : Bool) (offset : ℕ) (rest : Option ℕ) → cond lawful rest (Some offset) ≡ None → (lawful ≡ true) × (rest ≡ None)
field_none true offset rest e = (refl, e)
field_none false offset rest e = cc

parts_from : (f : ℕ → List Field) (i n : ℕ) → first_wrong (parts f i n) ≡ None → (j k : ℕ) → i + j ≡ k → j < n → first_wrong (f k) ≡ None
unfolding parts
parts_from f i zero e j k at h = absurd (omega arith)
parts_from f i (suc n) e zero k at h = let here : i ≡ k = omega arith in rw here at (append_none (f i) (parts f (i + 1) n) e).0
parts_from f i (suc n) e (suc j) k at h = parts_from f (i + 1) n (append_none (f i) (parts f (i + 1) n) e).1 j k (omega arith) (omega arith)

-- where no field is wrong, none of a part is
pub parts_none : (f : ℕ → List Field) (n : ℕ) → first_wrong (parts f 0 n) ≡ None → (k : ℕ) → k < n → first_wrong (f k) ≡ None
parts_none f n e k h = parts_from f 0 n e k k (omega arith) h

every_from : {X : Type 0} (test : X → Bool) (at : ℕ → X) (a n : ℕ) → ((k : ℕ) → a ≤ k → k < a + n → test (at k) ≡ true) → list_all test (map at (range_with_len a n)) ≡ true
every_from test at a zero h = refl
every_from test at a (suc n) h = and_from _ _ (h a (omega arith) (omega arith)) (every_from test at (a + 1) n (λ k from to. h k (omega arith) (omega arith)))

every_row : {X : Type 0} (test : X → Bool) (at : ℕ → X) (n : ℕ) → ((k : ℕ) → k < n → test (at k) ≡ true) → list_all test (row at n) ≡ true
every_row test at n h = every_from test at 0 n (λ k from to. h k (omega arith))

choices_sound : (bytes : List ℕ) (n first count : ℕ) → first_wrong (parts (choice bytes n first) 0 count) ≡ None → (k : ℕ) → k < count → up_to n (byte_at bytes (first + k)) ≡ true
unfolding choice
choices_sound bytes n first count e k h = (field_none _ _ _ (parts_none (choice bytes n first) count e k h)).0

bytes_sound : (bytes : List ℕ) (n first count : ℕ) → first_wrong (parts (choice bytes n first) 0 count) ≡ None → list_all (up_to n) (bytes_in bytes count first) ≡ true
unfolding bytes_in
bytes_sound bytes n first count e = every_row (up_to n) _ count (choices_sound bytes n first count e)

weeks_sound : (bytes : List ℕ) (n first weeks : ℕ) → first_wrong (parts (choice bytes n first) 0 (7 * weeks)) ≡ None → list_all (list_all (up_to n)) (weeks_in bytes weeks first) ≡ true
unfolding weeks_in bytes_in
weeks_sound bytes n first weeks e =
    every_row (list_all (up_to n)) _ weeks (λ k h. every_row (up_to n) _ 7 (λ j g.
    let at : first + (7 * k + j) ≡ first + 7 * k + j = omega arith in
    rw at at (choices_sound bytes n first (7 * weeks) e (7 * k + j) (omega arith))))

-- starts that rise from each to the next rise throughout
module _ {X : Type 0} (start : X → ℕ) (at : ℕ → X) where
  climb : (a n : ℕ) → ((k : ℕ) → a ≤ k → k + 1 < a + n → start (at k) < start (at (k + 1))) → (j k : ℕ) → a + 1 + j ≡ k → k < a + n → start (at a) < start (at k)
  climb a n step zero k e h = let here : a + 1 ≡ k = omega arith in rw here at (step a (omega arith) (omega arith))
  climb a n step (suc j) k e h =
      let here : a + 1 + j + 1 ≡ k = omega arith in
      let before : start (at a) < start (at (a + 1 + j)) = climb a n step j (a + 1 + j) (omega arith) (omega arith) in
      let last : start (at (a + 1 + j)) < start (at k) = rw here at (step (a + 1 + j) (omega arith) (omega arith)) in
      omega arith

  rising_from : (a n : ℕ) → ((k : ℕ) → a ≤ k → k + 1 < a + n → start (at k) < start (at (k + 1))) → rising start (map at (range_with_len a n)) ≡ true
  unfolding rising
  rising_from a zero step = refl
  rising_from a (suc n) step =
      and_from _ _
      (every_from _ at (a + 1) n (λ k from to. lt-ltb _ _ (climb a (suc n) step (k - (a + 1)) k (omega arith) (omega arith))))
      (rising_from (a + 1) n (λ k from to. step k (omega arith) (omega arith)))

  rising_row : (n : ℕ) → ((k : ℕ) → k + 1 < n → start (at k) < start (at (k + 1))) → rising start (row at n) ≡ true
  rising_row n step = rising_from 0 n (λ k from to. step k (omega arith))

-- a day type whose fields are lawful
module _ (bytes : List ℕ) (labels n base : ℕ) (e : first_wrong (day_fields bytes labels n base) ≡ None) where
  day_parts : (up_to n (byte_at bytes base) ≡ true) × (first_wrong (parts (slot_fields bytes labels base) 0 n) ≡ None)
  unfolding day_fields
  day_parts = field_none _ _ _ e

  count_bounds : (1 ≤ byte_at bytes base) × (byte_at bytes base ≤ n)
  count_bounds = up_to_lem n _ day_parts.0

  slot_parts : (k : ℕ) → k < n → (start_lawful bytes base k ≡ true) × (period_lawful bytes labels base k ≡ true)
  unfolding slot_fields
  slot_parts k h =
      let start = field_none (start_lawful bytes base k) _ _ (parts_none (slot_fields bytes labels base) n day_parts.1 k h) in
      (start.0, (field_none (period_lawful bytes labels base k) _ _ start.1).0)

  slot_period : (k : ℕ) → k < byte_at bytes base → up_to 8 (period_at bytes base k) ≡ true
  unfolding period_lawful
  slot_period k h = let lawful = (slot_parts k (omega (arith, count_bounds))).1 in grind (arith, nat_tests)

  slot_start : (k : ℕ) → k + 1 < byte_at bytes base → start_at bytes base k < start_at bytes base (k + 1)
  unfolding start_lawful
  slot_start k h =
      let lawful = (slot_parts (k + 1) (omega (arith, count_bounds))).0 in
      let before : k + 1 - 1 ≡ k = omega arith in
      let lawful' = rw before at lawful in
      grind (arith, nat_tests)

  first_start : start_at bytes base 0 ≡ 0
  unfolding start_lawful
  first_start = let lawful = (slot_parts 0 (omega (arith, count_bounds))).0 in grind (arith, nat_tests)

  slots_rise : rising (λ slot. slot.start) (row (λ k. slot_in bytes (base + 1 + 3 * k)) (byte_at bytes base)) ≡ true
  unfolding slot_in
  slots_rise = rising_row _ _ (byte_at bytes base) slot_start

  slot_periods : list_all (λ slot. up_to 8 slot.period) (row (λ k. slot_in bytes (base + 1 + 3 * k)) (byte_at bytes base)) ≡ true
  unfolding slot_in
  slot_periods = every_row _ _ (byte_at bytes base) slot_period

  from_midnight_lem : (count : ℕ) → 1 ≤ count → from_midnight (row (λ k. slot_in bytes (base + 1 + 3 * k)) count) ≡ true
  unfolding from_midnight slot_in
  from_midnight_lem zero h = absurd (omega arith)
  from_midnight_lem (suc count) h = eq-eqb _ _ first_start

  used_are : used (profile_in bytes n base) ≡ row (λ k. slot_in bytes (base + 1 + 3 * k)) (byte_at bytes base)
  unfolding profile_in
  used_are = take-map-range_with_len _ 0 n (byte_at bytes base) (omega (arith, count_bounds))

  pub profile_sound_lem : profile_sound (profile_in bytes n base) ≡ true
  unfolding profile_sound profile_in
  profile_sound_lem =
      let begins : from_midnight (used (profile_in bytes n base)) ≡ true = rw used_are (from_midnight_lem (byte_at bytes base) count_bounds.0) in
      let rises : rising (λ slot. slot.start) (used (profile_in bytes n base)) ≡ true = rw used_are slots_rise in
      let periods : list_all (λ slot. up_to 8 slot.period) (used (profile_in bytes n base)) ≡ true = rw used_are slot_periods in
      and_from _ _ day_parts.0 (and_from _ _ begins (and_from _ _ rises periods))

profiles_sound : (bytes : List ℕ) (labels n first days : ℕ) → first_wrong (parts (day_at bytes labels n first) 0 days) ≡ None → list_all profile_sound (profiles_in bytes n days first) ≡ true
unfolding profiles_in day_at
profiles_sound bytes labels n first days e =
    every_row profile_sound _ days (λ k h. profile_sound_lem bytes labels n (first + (1 + 3 * n) * k) (parts_none (day_at bytes labels n first) days e k h))

-- no part of a month programme without a wrong field has one
pub record MonthNone (bytes : List ℕ) : Type 0 where
  pub seasons : first_wrong (parts (choice bytes 4 5) 0 12) ≡ None
  pub weeks : first_wrong (parts (choice bytes 4 17) 0 4) ≡ None
  pub days : first_wrong (parts (choice bytes 3 21) 0 28) ≡ None
  pub profiles : first_wrong (parts (day_at bytes 142 10 49) 0 3) ≡ None

pub month_none : (bytes : List ℕ) → first_wrong (month_fields bytes) ≡ None → MonthNone bytes
unfolding month_fields
month_none bytes e =
    let seasons = append_none (parts (choice bytes 4 5) 0 12) _ e in
    let weeks = append_none (parts (choice bytes 4 17) 0 4) _ seasons.1 in
    let days = append_none (parts (choice bytes 3 21) 0 28) _ weeks.1 in
    let profiles = append_none (parts (day_at bytes 142 10 49) 0 3) _ days.1 in
    record { seasons = seasons.0; weeks = weeks.0; days = days.0; profiles = profiles.0 }

pub month_sound_lem : (bytes : List ℕ) → first_wrong (month_fields bytes) ≡ None → month_sound (month_tables bytes) ≡ true
unfolding month_sound month_tables
month_sound_lem bytes e =
    let none = month_none bytes e in
    and_from _ _ (bytes_sound bytes 4 5 12 none.seasons)
    (and_from _ _ (bytes_sound bytes 4 17 4 none.weeks)
    (and_from _ _ (weeks_sound bytes 3 21 4 none.days) (profiles_sound bytes 142 10 49 3 none.profiles)))

-- a date programme whose seasons are lawful
module _ (bytes : List ℕ) (count : byte_at bytes 5 ≤ 12) (e : first_wrong (parts (season_fields bytes) 0 12) ≡ None) where
  season_parts : (k : ℕ) → k < 12 → (date_lawful bytes k ≡ true) × (week_lawful bytes k ≡ true)
  unfolding season_fields
  season_parts k h =
      let date = field_none (date_lawful bytes k) _ _ (parts_none (season_fields bytes) 12 e k h) in
      (date.0, (field_none (week_lawful bytes k) _ _ date.1).0)

  season_week : (k : ℕ) → k < byte_at bytes 5 → up_to 8 (byte_at bytes (6 + 3 * k + 2)) ≡ true
  unfolding week_lawful
  season_week k h = let lawful = (season_parts k (omega arith)).1 in grind (arith, nat_tests)

  season_date : (k : ℕ) → k + 1 < byte_at bytes 5 → wide_at bytes (6 + 3 * k) < wide_at bytes (6 + 3 * (k + 1))
  unfolding date_lawful
  season_date k h =
      let lawful = (season_parts (k + 1) (omega arith)).0 in
      let before : 6 + 3 * (k + 1) - 3 ≡ 6 + 3 * k = omega arith in
      let lawful' = rw before at lawful in
      grind (arith, nat_tests)

  seasons_are : take (byte_at bytes 5) (row (λ k. season_in bytes (6 + 3 * k)) 12) ≡ row (λ k. season_in bytes (6 + 3 * k)) (byte_at bytes 5)
  seasons_are = take-map-range_with_len (λ k. season_in bytes (6 + 3 * k)) 0 12 (byte_at bytes 5) count

  pub seasons_sound : list_all (λ season. up_to 8 season.week) (take (byte_at bytes 5) (row (λ k. season_in bytes (6 + 3 * k)) 12)) ≡ true
  unfolding season_in
  seasons_sound = rw seasons_are (every_row _ _ (byte_at bytes 5) season_week)

  pub seasons_rise : rising date_of (take (byte_at bytes 5) (row (λ k. season_in bytes (6 + 3 * k)) 12)) ≡ true
  unfolding season_in
  seasons_rise = rw seasons_are (rising_row date_of (λ k. season_in bytes (6 + 3 * k)) (byte_at bytes 5) season_date)

-- no part of a date programme without a wrong field has one
pub record DateNone (bytes : List ℕ) : Type 0 where
  pub count : up_to 12 (byte_at bytes 5) ≡ true
  pub seasons : first_wrong (parts (season_fields bytes) 0 12) ≡ None
  pub days : first_wrong (parts (choice bytes 7 42) 0 56) ≡ None
  pub profiles : first_wrong (parts (day_at bytes 336 11 98) 0 7) ≡ None

pub date_none : (bytes : List ℕ) → first_wrong (date_fields bytes) ≡ None → DateNone bytes
unfolding date_fields
date_none bytes e =
    let count = field_none (up_to 12 (byte_at bytes 5)) _ _ e in
    let seasons = append_none (parts (season_fields bytes) 0 12) _ count.1 in
    let days = append_none (parts (choice bytes 7 42) 0 56) _ seasons.1 in
    let profiles = append_none (parts (day_at bytes 336 11 98) 0 7) _ days.1 in
    record { count = count.0; seasons = seasons.0; days = days.0; profiles = profiles.0 }

pub date_sound_lem : (bytes : List ℕ) → first_wrong (date_fields bytes) ≡ None → date_sound (date_tables bytes) ≡ true
unfolding date_sound date_tables
date_sound_lem bytes e =
    let none = date_none bytes e in
    and_from _ _ none.count
    (and_from _ _ (seasons_sound bytes (up_to_lem 12 _ none.count).1 none.seasons)
    (and_from _ _ (weeks_sound bytes 7 42 8 none.days) (profiles_sound bytes 336 11 98 7 none.profiles)))
