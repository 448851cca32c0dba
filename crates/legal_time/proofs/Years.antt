-- Years and months of a day number, from 2000 to 2099.
use Rattle.std.proofs.Common.{◌≡◌, ℕ, zero, suc, ◌+◌, ◌-◌, ◌*◌, ◌/◌, ◌<◌, ◌≤◌, Bool, true, false, cond, ◌&&◌, eqb, sym, refl, ap, ◌∙◌, inl, inr, arith}
use Rattle.std.proofs.lemmas.Bool.{cases_eq}
use Rattle.std.proofs.lemmas.Bool.Decides.{nat_tests, Decides-below_and, Decides-eqb}
use Rattle.legal_time.specs.Days.{leap_year, year_length, month_length, year_start, month_start, day_number, last_started, year_of, day_of_year, month_of, day_of_month, Valid}
use Rattle.legal_time.proofs.Started.{last_is, last_within, last_started_lem, last_next}

-- a test that passes at every number below n
abbrev pub all : (ℕ → Bool) → ℕ → Bool
all test zero = true
all test (suc k) = test k && all test k

pub all_equal : (f g : ℕ → ℕ) (n : ℕ) → all (λ k. eqb (f k) (g k)) n ≡ true → (k : ℕ) → k < n → f k ≡ g k
all_equal f g n t = (Decides-below_and (λ k. eqb (f k) (g k)) (λ k. f k ≡ g k) (all (λ k. eqb (f k) (g k))) (λ k. Decides-eqb (f k) (g k)) refl (λ _. refl) n).0 t

-- the start of a year in closed form, computed at each of the 101 places
pub year_start_lem : (k : ℕ) → k < 101 → year_start k ≡ (1461 * k + 3) / 4
unfolding year_start year_length leap_year
year_start_lem = all_equal year_start (λ k. (1461 * k + 3) / 4) 101 refl

pub years_is : (n : ℕ) → n < 36525 → last_started year_start 99 n ≡ 4 * n / 1461
years_is n h =
    last_is year_start 99 n (4 * n / 1461) (omega arith) (omega (arith, year_start_lem (4 * n / 1461) (omega arith)))
    (λ i a b. omega (arith, year_start_lem i (omega arith)))

pub year_is : (n : ℕ) → n < 36525 → year_of n ≡ 2000 + 4 * n / 1461
unfolding year_of
year_is n h = ap (λ k. 2000 + k) (years_is n h)

pub month_more : (y m : ℕ) → 1 ≤ m → month_start y m ≡ month_start y (m - 1) + month_length y m
unfolding month_start
month_more y zero h = omega arith
month_more y (suc k) h = let before : suc k - 1 ≡ k = omega arith in rw before

-- twelve months make the year
pub months_fill : (y : ℕ) → month_start y 12 ≡ year_length y
unfolding month_start month_length year_length
months_fill y = elim (leap_year y) as (λ b. 0 + 31 + cond b 29 28 + 31 + 30 + 31 + 30 + 31 + 31 + 30 + 31 + 30 + 31 ≡ cond b 366 365) [ true ↦ refl | false ↦ refl ]

pub months_rise : (y i k : ℕ) → i ≤ k → month_start y i ≤ month_start y k
unfolding month_start
months_rise y zero zero h = omega arith
months_rise y (suc i) zero h = omega arith
months_rise y i (suc k) h =
    elim (cases_eq i (suc k)) [
      | inl e ↦ omega (arith, ap (month_start y) e)
      | inr ne ↦ omega (arith, months_rise y i k (omega arith))
    ]

-- a day of the year that lies in the month k + 1
pub month_is : (y n k left : ℕ) → k ≤ 11 → left + month_start y k ≡ n → left < month_length y (suc k) → last_started (month_start y) 11 n ≡ k
unfolding month_start
month_is y n k left to e h =
    last_is (month_start y) 11 n k to (omega arith)
    (λ i a b. omega (arith, months_rise y (suc k) i a))

pub month_at_most : (y m : ℕ) → month_length y m ≤ 31
unfolding month_length
month_at_most y m = grind (arith, nat_tests)

-- a day n whose year is 2000 + k
module _ (n k : ℕ) (h : n < 36525) (year : 2000 + k ≡ year_of n) where
  place : k ≡ 4 * n / 1461
  place = omega (arith, year_is n h)

  pub year_started : (1461 * k + 3) / 4 ≤ n
  year_started = omega (arith, place)

  day_of_year_is : day_of_year n ≡ n - (1461 * k + 3) / 4
  unfolding day_of_year
  day_of_year_is =
      let years : year_of n - 2000 ≡ k = omega arith in
      simp years (omega (arith, year_start_lem k (omega (arith, place))))

  year_holds : n - (1461 * k + 3) / 4 < year_length (2000 + k)
  unfolding year_start
  year_holds = omega (arith, place, year_start_lem k (omega (arith, place)), year_start_lem (suc k) (omega (arith, place)))

  -- what the eleven months before leave lies in December
  pub december : (left : ℕ) → left + month_start (2000 + k) 11 ≡ n - (1461 * k + 3) / 4 → left < 31
  unfolding month_start month_length
  december left e = omega (arith, months_fill (2000 + k), year_holds)

  -- month and day of the month, by the days that are left of the year in the month m
  pub dated : (m left : ℕ) → 1 ≤ m → m ≤ 12 → left + month_start (2000 + k) (m - 1) ≡ n - (1461 * k + 3) / 4 → left < month_length (2000 + k) m → (m ≡ month_of n) × (left + 1 ≡ day_of_month n)
  unfolding month_of day_of_month
  dated zero left from to e l = omega arith
  dated (suc i) left from to e l =
      let before : suc i - 1 ≡ i = omega arith in
      let passed : left + month_start (2000 + k) i ≡ n - (1461 * k + 3) / 4 = rw before at e in
      let found : last_started (month_start (year_of n)) 11 (day_of_year n) ≡ i =
      simp (← year, day_of_year_is) (month_is _ _ i left (omega arith) passed l) in
      let months : 1 + last_started (month_start (year_of n)) 11 (day_of_year n) - 1 ≡ i = omega arith in
      let start : month_start (year_of n) (1 + last_started (month_start (year_of n)) 11 (day_of_year n) - 1) ≡ month_start (2000 + k) i =
      ap (month_start (year_of n)) months ∙ ap (λ y. month_start y i) (sym year) in
      (omega arith, omega (arith, day_of_year_is))

january_first : (y n : ℕ) → month_start y 0 ≤ n
unfolding month_start
january_first y n = omega arith

-- the month that is found holds the day of the year
in_month : (y n m : ℕ) → n < year_length y → m ≡ 1 + last_started (month_start y) 11 n → (month_start y (m - 1) ≤ n) × (n < month_start y m)
in_month y n m h e =
    let k : m - 1 ≡ last_started (month_start y) 11 n = omega arith in
    let next : m ≡ suc (last_started (month_start y) 11 n) = omega arith in (
      rw k (last_started_lem (month_start y) 11 n (january_first y n)),
      rw next (elim (cases_eq (last_started (month_start y) 11 n) 11) [
        | inl e ↦ rw (e, months_fill y) h
        | inr ne ↦ last_next (month_start y) 11 n (omega (arith, last_within (month_start y) 11 n))
      ]),
    )

day_in_year : (n : ℕ) → n < 36525 → day_of_year n < year_length (year_of n)
day_in_year n h =
    let year : 2000 + 4 * n / 1461 ≡ year_of n = sym (year_is n h) in
    simp (day_of_year_is n (4 * n / 1461) h year, year_is n h) (year_holds n (4 * n / 1461) h year)

day_in_month : (n : ℕ) → n < 36525 → (month_start (year_of n) (month_of n - 1) ≤ day_of_year n) × (day_of_year n < month_start (year_of n) (month_of n))
unfolding month_of
day_in_month n h = in_month (year_of n) (day_of_year n) (month_of n) (day_in_year n h) refl

pub month_bound : (n : ℕ) → (1 ≤ month_of n) × (month_of n ≤ 12)
unfolding month_of
month_bound n = (omega arith, omega (arith, last_within (month_start (year_of n)) 11 (day_of_year n)))

-- every day has a date ..
pub date_valid : (n : ℕ) → n < 36525 → Valid (year_of n) (month_of n) (day_of_month n)
unfolding day_of_month
date_valid n h =
    let y = year_is n h in
    let m = month_bound n in
    let held = day_in_month n h in
    let more = month_more (year_of n) (month_of n) m.0 in
    record { year_from = omega arith; year_to = omega arith; month_from = m.0; month_to = m.1; day_from = omega arith; day_to = omega arith }

-- .. whose day number it is
pub date_number_lem : (n : ℕ) → n < 36525 → day_number (year_of n) (month_of n) (day_of_month n) ≡ n
unfolding day_number day_of_month day_of_year
date_number_lem n h =
    let held = day_in_month n h in
    let years : year_of n - 2000 ≡ 4 * n / 1461 = omega (arith, year_is n h) in
    omega (arith, ap year_start years, year_start_lem (4 * n / 1461) (omega arith))

pub day_of_month_bound : (n : ℕ) → n < 36525 → (1 ≤ day_of_month n) × (day_of_month n ≤ 31)
day_of_month_bound n h =
    let v = date_valid n h in
    (v.day_from, omega (arith, v.day_to, month_at_most (year_of n) (month_of n)))
