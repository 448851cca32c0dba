-- The one stamp of a label.
use Rattle.std.proofs.Common.{◌≡◌, ℕ, ◌+◌, ◌*◌, ◌<◌, ◌≤◌, true, false, cond, eqb, refl, arith}
use Rattle.std.proofs.lemmas.Bool.Decides.{nat_tests}
use Rattle.legal_time.specs.Summer.{summer_at, local_of, HasLabel}
use Rattle.legal_time.proofs.Summer.{day_bound}

module _ (s day minute mark : ℕ) (h : HasLabel s day minute mark) where
  pub label_summer : summer_at s ≡ eqb mark 1
  label_summer = rw (← h.3) (elim (summer_at s) as (λ b. b ≡ eqb (cond b 1 0) 1) [ true ↦ refl | false ↦ refl ])

  -- local time, less what the mark says that it is ahead
  pub label_local : s + cond (eqb mark 1) 120 60 ≡ day * 1440 + minute
  unfolding local_of
  label_local = rw (← label_summer) (omega (arith, h.1, h.2))

  pub label_bounds : (day ≤ 36524) × (minute < 1440) × (mark ≤ 1)
  label_bounds = (
    rw (← h.1) (omega (arith, day_bound s h.0)),
    omega (arith, h.2),
    rw (← h.3) (elim (summer_at s) as (λ b. cond b 1 0 ≤ 1) [ true ↦ omega arith | false ↦ omega arith ]),
  )

-- a stamp found from a label has it
pub label_found : (s day minute mark : ℕ) → day ≤ 36524 → minute < 1440 → mark ≤ 1 → s + cond (eqb mark 1) 120 60 ≡ day * 1440 + minute → summer_at s ≡ eqb mark 1 → HasLabel s day minute mark
unfolding local_of
label_found s day minute mark d mi ma e summer = (
  grind (arith, nat_tests),
  rw (summer, e) (omega arith),
  rw (summer, e) (omega arith),
  rw summer (grind (arith, nat_tests)),
)

-- no other stamp has the label
pub one_stamp : (s t day minute mark : ℕ) → HasLabel s day minute mark → HasLabel t day minute mark → s ≡ t
one_stamp s t day minute mark h k = omega (arith, label_local s day minute mark h, label_local t day minute mark k)
