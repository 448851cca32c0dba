-- The laws of legal time.
use Rattle.std.proofs.Common.{◌≡◌, ℕ, suc, ◌+◌, ◌-◌, ◌/◌, ◌<◌, ◌≤◌, sym, ap, ◌∙◌, arith}
use denote.Struct.Cover.{Cover-one}
use Rattle.std.proofs.lemmas.Bool.Decides.{nat_tests}
use Rattle.legal_time.specs.Days.{year_length, month_length, year_start, month_start, day_number, last_started, year_of, day_of_year, month_of, day_of_month, last_sunday, Valid}
use Rattle.legal_time.specs.Laws.{OneDate, LastSunday, LastSundays, SummerIntervals, InSummer, OneMoment}
use Rattle.legal_time.specs.Moments.{moment_of}
use Rattle.legal_time.specs.Summer.{summer_from, summer_until, summer_at, day_of, minute_of}
use Rattle.legal_time.specs.contracts.moments.Moment.{the_type, the_propositions}
use Rattle.legal_time.specs.declared.moments.Moment.{Moment}
use Rattle.legal_time.proofs.Started.{last_is}
use Rattle.legal_time.proofs.Years.{year_start_lem, year_is, month_is, month_more, months_fill, months_rise, date_valid, date_number_lem}

-- a day between the starts of two years lies in the first
year_between : (n j : ℕ) → j ≤ 99 → year_start j ≤ n → n < year_start (suc j) → year_of n ≡ 2000 + j
unfolding year_of
year_between n j to from before =
    ap (λ k. 2000 + k)
    (last_is year_start 99 n j to from
    (λ i a b. omega (arith, year_start_lem i (omega arith), year_start_lem (suc j) (omega arith))))

month_at_least : (y m : ℕ) → 28 ≤ month_length y m
unfolding month_length
month_at_least y m = grind (arith, nat_tests)

module _ (y m d : ℕ) (v : Valid y m d) where
  -- the months up to this date's fit the year
  months_fit : month_start y (m - 1) + (d - 1) < year_length y
  months_fit = omega (arith, v.day_from, v.day_to, month_more y m v.month_from, months_rise y m 12 v.month_to, months_fill y)

  next_year : year_start (suc (y - 2000)) ≡ year_start (y - 2000) + year_length y
  unfolding year_start
  next_year = let back : 2000 + (y - 2000) ≡ y = omega (arith, v.year_from) in rw back

  pub date_in_year : (year_start (y - 2000) ≤ day_number y m d) × (day_number y m d < year_start (suc (y - 2000)))
  unfolding day_number
  date_in_year = (omega arith, omega (arith, next_year, months_fit))

  year_of_date : year_of (day_number y m d) ≡ y
  year_of_date =
      let j : y - 2000 ≤ 99 = omega (arith, v.year_to) in
      omega (arith, v.year_from, year_between (day_number y m d) (y - 2000) j date_in_year.0 date_in_year.1)

  day_of_date : day_of_year (day_number y m d) ≡ month_start y (m - 1) + (d - 1)
  unfolding day_of_year day_number
  day_of_date = rw year_of_date (omega arith)

  month_of_date : month_of (day_number y m d) ≡ m
  unfolding month_of
  month_of_date =
      let next : suc (m - 1) ≡ m = omega (arith, v.month_from) in
      let inside : d - 1 < month_length y (suc (m - 1)) = rw next (omega (arith, v.day_from, v.day_to)) in
      let months : last_started (month_start (year_of (day_number y m d))) 11 (day_of_year (day_number y m d)) ≡ m - 1 =
      rw (year_of_date, day_of_date) (month_is y _ (m - 1) (d - 1) (omega (arith, v.month_to)) (omega arith) inside) in
      omega (arith, v.month_from)

  month_day_of_date : day_of_month (day_number y m d) ≡ d
  unfolding day_of_month
  month_day_of_date = rw (month_of_date, year_of_date, day_of_date) (omega (arith, v.day_from))

  date_below : day_number y m d < 36525
  date_below =
      let j : y - 2000 ≤ 99 = omega (arith, v.year_to) in
      omega (arith, date_in_year.1, year_start_lem (suc (y - 2000)) (omega arith))

pub one_date : OneDate
one_date =
    record {
      of_day = λ n h. (date_valid n (omega arith), date_number_lem n (omega arith));
      of_date = λ y m d v. (date_below y m d v, year_of_date y m d v, month_of_date y m d v, month_day_of_date y m d v);
    }

last_sunday_lem : (y m : ℕ) → LastSunday y m
unfolding last_sunday day_number
last_sunday_lem y m =
    let long = month_at_least y m in
    record { sunday = omega arith; inside = (omega arith, omega arith); last = λ h. omega (arith, h.1) }

pub last_sundays : LastSundays
last_sundays y m a b c d = last_sunday_lem y m

-- a stamp in the summer time of a year lies in that year
summer_year : (s y : ℕ) → InSummer y s → year_of (s / 1440) ≡ y
unfolding summer_from summer_until
summer_year s y h =
    let march : Valid y 3 1 = record { year_from = h.0; year_to = h.1; month_from = omega arith; month_to = omega arith; day_from = omega arith; day_to = omega (arith, month_at_least y 3) } in
    let october : Valid y 10 (month_length y 10) = record { year_from = h.0; year_to = h.1; month_from = omega arith; month_to = omega arith; day_from = omega (arith, month_at_least y 10); day_to = omega arith } in
    let spring = last_sunday_lem y 3 in
    let autumn = last_sunday_lem y 10 in
    let from = date_in_year y 3 1 march in
    let to = date_in_year y 10 (month_length y 10) october in
    let j : y - 2000 ≤ 99 = omega (arith, h.1) in
    omega (arith, h.0, year_between (s / 1440) (y - 2000) j (omega (arith, h.2, from.0, spring.inside.0)) (omega (arith, h.3, to.1, autumn.inside.1)))

pub summer_intervals : SummerIntervals
unfolding summer_at
summer_intervals =
    record {
      within = λ s h t. (year_of (s / 1440), (omega (arith, year_is (s / 1440) (omega arith)), omega (arith, year_is (s / 1440) (omega arith)), grind (arith, nat_tests), grind (arith, nat_tests)));
      holds = λ s y h. rw (summer_year s y h) (let from = h.2 in let to = h.3 in grind (arith, nat_tests));
    }

pub known_by : (m n : Moment) → m.stamp ≡ n.stamp → m.weekday ≡ n.weekday → m ≡ n
known_by m n stamps weekdays =
    let days = m.timed.1 ∙ ap (λ s. day_of s) stamps ∙ sym n.timed.1 in
    let minutes = m.timed.2 ∙ ap (λ s. minute_of s) stamps ∙ sym n.timed.2 in
    let summers = m.timed.3 ∙ ap summer_at stamps ∙ sym n.timed.3 in
    let months = m.dated.0 ∙ ap month_of days ∙ sym n.dated.0 in
    let dates = m.dated.1 ∙ ap day_of_month days ∙ sym n.dated.1 in
    Cover-one the_type.cover the_propositions m n
    (λ i. (stamps i, (days i, (minutes i, (months i, (dates i, (weekdays i, (summers i, tt))))))))

pub one_moment : OneMoment
unfolding moment_of
one_moment = record { known_by = known_by; of_stamp = λ s h m is. known_by m (moment_of s h) is.stamp_is is.weekday_is }
