-- The edges: the minutes around the changes of 2024.
use Rattle.std.proofs.Common.{◌≡◌, ℕ, ◌≤◌, true, false, eqb, Ok, Err, sym, refl, ap, ◌∙◌, inl, inr, arith}
use Rattle.std.proofs.lemmas.Bool.{cases_Bool, both_ways}
use Rattle.legal_time.specs.Days.{leap_year, year_length, month_length, year_start, month_start, day_number, last_started, year_of, day_of_year, month_of, day_of_month, last_sunday}
use Rattle.legal_time.specs.Laws.{Edges, Tells, TellsNone}
use Rattle.legal_time.specs.Summer.{summer_from, summer_until, summer_at, local_of, day_of, minute_of, mark_of, HasLabel}
use Rattle.legal_time.proofs.Labels.{label_summer, label_local}

-- an answer is what its definition computes to
told : (s y m d minute mark : ℕ) → s ≤ 52595939 → day_of s ≡ day_number y m d → month_of (day_of s) ≡ m → day_of_month (day_of s) ≡ d → minute_of s ≡ minute → mark_of (summer_at s) ≡ mark → Tells s (y, m, d) minute mark
told s y m d minute mark within day month date time summer (Ok x) h = (
  h.day_is ∙ day,
  h.month_is ∙ month,
  h.day_of_month_is ∙ date,
  h.minute_is ∙ time,
  ap (λ b. mark_of b) h.summer_is ∙ summer,
)
told s y m d minute mark within day month date time summer (Err e) h = omega (arith, h.1)

spring_winter : summer_at 12752670 ≡ false
unfolding summer_at summer_from summer_until last_sunday day_number month_start month_length year_start year_length leap_year year_of last_started
spring_winter = refl

spring_summer : summer_at 12752730 ≡ true
unfolding summer_at summer_from summer_until last_sunday day_number month_start month_length year_start year_length leap_year year_of last_started
spring_summer = refl

-- neither the winter nor the summer stamp of 02:30 has its label
no_stamp : (s mark : ℕ) → HasLabel s 8856 150 mark → ⊥
no_stamp s mark h =
    let marked = label_summer s 8856 150 mark h in
    let local = label_local s 8856 150 mark h in
    elim (cases_Bool (eqb mark 1)) [
      | inl e ↦
          let at : s ≡ 12752670 = omega (arith, rw e at local) in
          both_ways true (sym (sym (ap summer_at at ∙ spring_winter) ∙ (marked ∙ e))) refl
      | inr e ↦
          let at : s ≡ 12752730 = omega (arith, rw e at local) in
          both_ways true (sym (ap summer_at at ∙ spring_summer) ∙ (marked ∙ e)) refl
    ]

left_out : (mark : ℕ) → TellsNone 8856 150 mark
left_out mark (Ok s) h = no_stamp s mark h.0
left_out mark (Err e) h = h.0

pub edges : Edges
unfolding summer_at summer_from summer_until last_sunday day_number month_start month_length year_start year_length leap_year year_of last_started local_of day_of_year month_of day_of_month
edges =
    record {
      before_spring = told 12752699 2024 3 31 _ _ (omega arith) refl refl refl refl refl;
      from_spring = told 12752700 2024 3 31 _ _ (omega arith) refl refl refl refl refl;
      before_autumn = told 13055099 2024 10 27 _ _ (omega arith) refl refl refl refl refl;
      from_autumn = told 13055100 2024 10 27 _ _ (omega arith) refl refl refl refl refl;
      left_out = left_out;
    }
