-- Summer time by the change days, and within an hour and a year.
use Rattle.std.proofs.Common.{◌≡◌, ℕ, ◌+◌, ◌*◌, ◌/◌, ◌%◌, ◌<◌, ◌≤◌, Bool, true, false, cond, ◌&&◌, ltb, leb, inl, inr, arith}
use Rattle.std.proofs.lemmas.Bool.{cases_lt}
use Rattle.std.proofs.lemmas.Bool.Decides.{nat_tests}
use Rattle.legal_time.specs.Days.{leap_year, year_length, month_length, year_start, month_start, day_number, year_of, last_sunday}
use Rattle.legal_time.specs.Summer.{summer_from, summer_until, summer_at, local_of, day_of, minute_of}
use Rattle.legal_time.proofs.Years.{year_is}

-- summer time lies between the two changes of the stamp's year
pub summer_between : (s k spring autumn : ℕ) → 2000 + k ≡ year_of (s / 1440) → spring ≡ last_sunday (2000 + k) 3 → autumn ≡ last_sunday (2000 + k) 10 → summer_at s ≡ (leb (spring * 1440 + 60) s && ltb s (autumn * 1440 + 60))
unfolding summer_at summer_from summer_until
summer_between s k spring autumn year p q = simp (← year, p, q)

-- summer time is over before the last hour, so local time never passes the last day
summer_over : (s : ℕ) → 52595880 ≤ s → s ≤ 52595939 → summer_at s ≡ false
unfolding summer_at summer_from summer_until last_sunday day_number month_start month_length year_start year_length leap_year
summer_over s from to =
    let last : year_of (s / 1440) ≡ 2099 = omega (arith, year_is (s / 1440) (omega arith)) in
    rw last (grind (arith, nat_tests))

ahead : (s offset : ℕ) (summer : Bool) → summer ≡ summer_at s → offset ≡ cond summer 120 60 → s + offset ≡ local_of s
unfolding local_of
ahead s offset summer e o = rw (o, e)

pub day_bound : (s : ℕ) → s ≤ 52595939 → day_of s < 36525
unfolding local_of
day_bound s h =
    elim (cases_lt s 52595880) [
      | inl before ↦ grind (arith, nat_tests)
      | inr after ↦ rw (summer_over s after h) (omega arith)
    ]

-- the offset makes local time of a stamp, within the last day
pub local_is : (s offset : ℕ) (summer : Bool) → s ≤ 52595939 → summer ≡ summer_at s → offset ≡ cond summer 120 60 → (s + offset ≡ local_of s) × (day_of s < 36525)
local_is s offset summer h e o = (ahead s offset summer e o, day_bound s h)

-- within an hour summer time neither begins nor ends
same_summer : (s : ℕ) → s < 52595939 → (s % 60 ≡ 59 → ⊥) → summer_at (s + 1) ≡ summer_at s
unfolding summer_at summer_from summer_until
same_summer s h inside =
    let day : (s + 1) / 1440 ≡ s / 1440 = omega arith in
    rw day (grind (arith, nat_tests))

-- the minutes of an hour are those of its stamps
same_hour : (s : ℕ) → local_of s % 60 ≡ s % 60
unfolding local_of
same_hour s = elim (summer_at s) as (λ b. (s + cond b 120 60) % 60 ≡ s % 60) [ true ↦ omega arith | false ↦ omega arith ]

local_next : (s : ℕ) → summer_at (s + 1) ≡ summer_at s → local_of (s + 1) ≡ local_of s + 1
unfolding local_of
local_next s same = rw same (omega arith)

-- within an hour only the minute moves
pub within_hour : (s : ℕ) → s ≤ 52595939 → (minute_of s % 60 ≡ 59 → ⊥) → (s + 1 ≤ 52595939) × (day_of (s + 1) ≡ day_of s) × (minute_of (s + 1) ≡ minute_of s + 1) × (summer_at (s + 1) ≡ summer_at s)
within_hour s h inside =
    let hour = same_hour s in
    let before : s < 52595939 = omega arith in
    let same = same_summer s before (omega arith) in
    let next = local_next s same in
    (omega arith, omega arith, omega arith, same)
