-- Things that start one after the other: the slots of a day and the seasons of a year.
use Rattle.std.proofs.Common.{◌≡◌, ℕ, zero, suc, ◌+◌, ◌-◌, ◌*◌, ◌<◌, ◌≤◌, Bool, true, false, cond, nat_lt, nat_le, List, [], ◌∷◌, length, slice_index_or, take, drop, Some, None, Option, refl, sym, ◌∙◌, inl, inr, arith}
use Rattle.std.proofs.lemmas.List.{at_drop_more, at_drop_all, get_or-take, length-take-le}
use Rattle.std.proofs.lemmas.Bool.{and_parts, eqb-true, ltb-true, le-leb, lt-leb, cases_lt, cases_order}
use Rattle.calendars.specs.Fields.{Field, first_wrong, parts, passed, byte_at, day_at}
use Rattle.calendars.specs.Laws.{HoldsAt, InTurn, SlotsFill, SlotsFillTheDay, SeasonsFill, SeasonsFillTheYear}
use Rattle.calendars.specs.Layouts.{profile_in, season_in, row, month_tables, date_tables}
use Rattle.calendars.specs.Meanings.{reads, Plan}
use Rattle.calendars.specs.Programmes.{blank_slot, blank_season, last_begun, used, period_of, date_of, week_among, week_of, judged, month_fields, date_fields, month_reading, date_reading, month_plan, date_plan}
use Rattle.std.specs.List.{list_all}
use Rattle.calendars.specs.Sound.{rising, from_midnight}
use Rattle.calendars.specs.declared.profiles.Season.{Season}
use Rattle.calendars.specs.declared.profiles.Slot.{Slot}
use Rattle.calendars.specs.Begun.{every_at, up_to_lem, profile_parts}
use Rattle.calendars.specs.Lawful.{parts_none, profile_sound_lem, month_none, date_none, seasons_rise}

module _ {X : Type 0} (start value : X → ℕ) (blank : X) where
  -- the first and the rest
  rising_parts : (x : X) (xs : List X) → rising start (x ∷ xs) ≡ true → (list_all (λ y. nat_lt (start x) (start y)) xs ≡ true) × (rising start xs ≡ true)
  unfolding rising
  rising_parts x xs e = and_parts (list_all (λ y. nat_lt (start x) (start y)) xs) _ e

  later : (xs : List X) (i j : ℕ) → rising start xs ≡ true → i < j → j < length xs → start (slice_index_or xs i blank) < start (slice_index_or xs j blank)
  later [] i j rises h within = absurd (omega arith)
  later (x ∷ xs) i zero rises h within = absurd (omega arith)
  later (x ∷ xs) zero (suc j) rises h within =
      ltb-true _ _ (every_at (λ y. nat_lt (start x) (start y)) xs j blank (omega arith) (rising_parts x xs rises).0)
  later (x ∷ xs) (suc i) (suc j) rises h within = later xs i j (rising_parts x xs rises).1 (omega arith) (omega arith)

  -- of two that hold a time neither is later
  not_later : (xs : List X) (time i j : ℕ) → rising start xs ≡ true → HoldsAt start blank xs i time → HoldsAt start blank xs j time → i < j → ⊥
  not_later xs time i j rises hi hj h =
      elim (cases_order (suc i) j) [
        | inl e ↦ let next : time < start (slice_index_or xs j blank) = rw e at (hi.next_not (omega (arith, hj.within))) in omega (arith, hj.started)
        | inr (inl before) ↦ omega (arith, later xs (suc i) j rises before hj.within, hi.next_not (omega (arith, hj.within)), hj.started)
        | inr (inr after) ↦ omega arith
      ]

  one : (xs : List X) → rising start xs ≡ true → (time i j : ℕ) → HoldsAt start blank xs i time → HoldsAt start blank xs j time → i ≡ j
  one xs rises time i j hi hj =
      elim (cases_order i j) [
        | inl e ↦ e
        | inr (inl before) ↦ absurd (not_later xs time i j rises hi hj before)
        | inr (inr after) ↦ absurd (not_later xs time j i rises hj hi after)
      ]

  -- one more in front moves the places on
  moved_on : (x : X) (xs : List X) (i time : ℕ) → HoldsAt start blank xs i time → HoldsAt start blank (x ∷ xs) (suc i) time
  moved_on x xs i time h = record { within = omega (arith, h.within); started = h.started; next_not = λ more. h.next_not (omega arith) }

  some_from : (x : X) (xs : List X) (time : ℕ) → start x ≤ time → (i : ℕ) × HoldsAt start blank (x ∷ xs) i time
  some_from x [] time h = (0, record { within = omega arith; started = h; next_not = λ more. absurd (omega arith) })
  some_from x (y ∷ ys) time h =
      elim (cases_lt time (start y)) [
        | inl late ↦ (0, record { within = omega arith; started = h; next_not = λ more. late })
        | inr begun ↦ let rest = some_from y ys time begun in (suc rest.0, moved_on x (y ∷ ys) rest.0 time rest.1)
      ]

  some : (xs : List X) → 0 < length xs → (time : ℕ) → start (slice_index_or xs 0 blank) ≤ time → (i : ℕ) × HoldsAt start blank xs i time
  some [] h time begun = absurd (omega arith)
  some (x ∷ xs) h time begun = some_from x xs time begun

  -- those that all start later than a time leave what there was
  too_late : (time other from : ℕ) (xs : List X) → time < from → list_all (λ x. nat_lt from (start x)) xs ≡ true → last_begun (λ x. nat_le (start x) time) value other xs ≡ other
  unfolding last_begun
  too_late time other from [] h later = refl
  too_late time other from (x ∷ xs) h later =
      let parts = and_parts (nat_lt from (start x)) _ later in
      let after : time < start x = omega (arith, ltb-true from (start x) parts.0) in
      rw (lt-leb (start x) time after) (too_late time other from xs h parts.1)

  -- those of which the first starts too late change nothing
  late_rest : (xs : List X) (time other : ℕ) → rising start xs ≡ true → (0 < length xs → time < start (slice_index_or xs 0 blank)) → last_begun (λ x. nat_le (start x) time) value other xs ≡ other
  unfolding last_begun
  late_rest [] time other rises h = refl
  late_rest (x ∷ xs) time other rises h =
      let late = h (omega arith) in
      rw (lt-leb (start x) time late) (too_late time other (start x) xs late (rising_parts x xs rises).0)

  told : (xs : List X) (time i other : ℕ) → rising start xs ≡ true → HoldsAt start blank xs i time → last_begun (λ x. nat_le (start x) time) value other xs ≡ value (slice_index_or xs i blank)
  unfolding last_begun
  told [] time i other rises h = absurd (omega (arith, h.within))
  told (x ∷ xs) time zero other rises h =
      rw (le-leb (start x) time h.started)
      (late_rest xs time (value x) (rising_parts x xs rises).1 (λ more. h.next_not (omega arith)))
  told (x ∷ xs) time (suc i) other rises h =
      told xs time i _ (rising_parts x xs rises).1
      (record { within = omega (arith, h.within); started = h.started; next_not = λ more. h.next_not (omega arith) })

  in_turn : (xs : List X) (other : ℕ) → 0 < length xs → rising start xs ≡ true → InTurn start value blank xs (λ time. last_begun (λ x. nat_le (start x) time) value other xs)
  in_turn xs other h rises = record { some = some xs h; one = one xs rises; told = λ time i at. told xs time i other rises at }

-- one more is looked at, which has begun or has not
module _ {X : Type 0} (begun : X → Bool) (value : X → ℕ) (other : ℕ) (xs : List X) (i : ℕ) (d : X) (h : i < length xs) where
  last_more : last_begun begun value other (drop i xs) ≡ last_begun begun value (cond (begun (slice_index_or xs i d)) (value (slice_index_or xs i d)) other) (drop (i + 1) xs)
  unfolding last_begun
  last_more = at_drop_more (last_begun begun value other) xs i d h

  pub last_yes : begun (slice_index_or xs i d) ≡ true → last_begun begun value other (drop i xs) ≡ last_begun begun value (value (slice_index_or xs i d)) (drop (i + 1) xs)
  last_yes e = last_more ∙ rw e

  last_no : begun (slice_index_or xs i d) ≡ false → last_begun begun value other (drop i xs) ≡ last_begun begun value other (drop (i + 1) xs)
  last_no e = last_more ∙ rw e

-- all are looked at
pub last_all : {X : Type 0} (begun : X → Bool) (value : X → ℕ) (other : ℕ) (xs : List X) (i : ℕ) → length xs ≤ i → last_begun begun value other (drop i xs) ≡ other
unfolding last_begun
last_all begun value other xs i h = at_drop_all (last_begun begun value other) xs i h

module _ {X : Type 0} (start value : X → ℕ) (xs : List X) (i : ℕ) (d : X) (h : i < length xs) (rises : rising start (drop i xs) ≡ true) where
  -- what those that rise keep from one to the next
  pub rising_more : (list_all (λ x. nat_lt (start (slice_index_or xs i d)) (start x)) (drop (i + 1) xs) ≡ true) × (rising start (drop (i + 1) xs) ≡ true)
  unfolding rising
  rising_more =
      and_parts (list_all (λ x. nat_lt (start (slice_index_or xs i d)) (start x)) (drop (i + 1) xs)) _ (sym (at_drop_more (rising start) xs i d h) ∙ rises)

  -- the first that starts too late decides
  pub late_stop : (time other : ℕ) → time < start (slice_index_or xs i d) → last_begun (λ x. nat_le (start x) time) value other (drop i xs) ≡ other
  late_stop time other late =
      last_no (λ x. nat_le (start x) time) value other xs i d h (lt-leb (start (slice_index_or xs i d)) time late)
      ∙ too_late start value d time other (start (slice_index_or xs i d)) (drop (i + 1) xs) late rising_more.0

-- what begins with the day is not empty, and begins at 0
midnight : (slots : List Slot) → from_midnight slots ≡ true → (0 < length slots) × ((slice_index_or slots 0 blank_slot).start ≡ 0)
unfolding from_midnight
midnight [] e = cc
midnight (s ∷ ss) e = (omega arith, eqb-true s.start 0 e)

slots_fill : (slots : List Slot) → from_midnight slots ≡ true → rising (λ slot. slot.start) slots ≡ true → SlotsFill slots
unfolding period_of
slots_fill slots begins rises =
    let first = midnight slots begins in
    record { from_midnight = first.1; in_turn = in_turn (λ slot. slot.start) (λ slot. slot.period) blank_slot slots 1 first.0 rises }

-- what is read has no wrong field
read_none : (form : Option ℕ) (fields : List Field) (x plan : Plan) → judged form fields x ≡ reads plan → first_wrong fields ≡ None
read_none None fields x plan e = by (first_wrong fields) e
  where
    by : (o : Option ℕ) → passed x o ≡ reads plan → o ≡ None
    by None h = refl
    by (Some k) h = cc
read_none (Some n) fields x plan e = cc

day_fills : (bytes : List ℕ) (labels n first days k : ℕ) → first_wrong (parts (day_at bytes labels n first) 0 days) ≡ None → k < days → SlotsFill (used (profile_in bytes n (first + (1 + 3 * n) * k)))
unfolding day_at
day_fills bytes labels n first days k e h =
    let sound = profile_parts _ (profile_sound_lem bytes labels n (first + (1 + 3 * n) * k) (parts_none (day_at bytes labels n first) days e k h)) in
    slots_fill _ sound.begins sound.rises

-- seasons of which the first `count` rise
seasons_fill : (seasons : List Season) (count : ℕ) → 1 ≤ count → count ≤ length seasons → rising date_of (take count seasons) ≡ true → SeasonsFill (take count seasons) (week_of seasons count)
unfolding week_of week_among
seasons_fill seasons count from to rises =
    let long = length-take-le count seasons to in
    let last : slice_index_or (take count seasons) (count - 1) blank_season ≡ slice_index_or seasons (count - 1) blank_season = get_or-take count seasons (count - 1) blank_season (omega arith) in
    record {
      in_turn = in_turn date_of (λ season. season.week) blank_season (take count seasons) (slice_index_or seasons (count - 1) blank_season).week (omega (arith, long)) rises;
      before = λ date early. late_rest date_of (λ season. season.week) blank_season (take count seasons) date _ rises (λ more. early) ∙ rw (long, last);
    }

pub slots_fill_the_day : SlotsFillTheDay
unfolding month_reading date_reading
slots_fill_the_day =
    record {
      of_month = λ bytes plan e k h. day_fills bytes 142 10 49 3 k (month_none bytes (read_none _ (month_fields bytes) (month_plan (month_tables bytes)) plan e)).profiles h;
      of_date = λ bytes plan e k h. day_fills bytes 336 11 98 7 k (date_none bytes (read_none _ (date_fields bytes) (date_plan (date_tables bytes)) plan e)).profiles h;
    }

pub seasons_fill_the_year : SeasonsFillTheYear
unfolding date_reading date_tables
seasons_fill_the_year bytes plan e =
    let none = date_none bytes (read_none _ (date_fields bytes) (date_plan (date_tables bytes)) plan e) in
    let count = up_to_lem 12 _ none.count in
    seasons_fill (row (λ k. season_in bytes (6 + 3 * k)) 12) (byte_at bytes 5) count.0 count.1 (seasons_rise bytes count.1 none.seasons)
