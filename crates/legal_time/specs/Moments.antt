-- What the calls of legal time answer.
use Rattle.std.specs.Prelude.{◌≡◌, ℕ, ◌<◌, ◌≤◌, Result, MatchResult, refl}
use Rattle.legal_time.specs.Days.{month_of, day_of_month, weekday_of}
use Rattle.legal_time.specs.Refusals.{Refused}
use Rattle.legal_time.specs.Summer.{day_of, minute_of, summer_at, HasLabel}
use Rattle.legal_time.specs.declared.moments.Moment.{Moment}
use Rattle.legal_time.specs.declared.refusals.Refusal.{Refusal}

-- the moment of a stamp
unfoldable pub moment_of : (s : ℕ) → s ≤ 52595939 → Moment
moment_of s h =
    record {
      stamp = s;
      day = day_of s;
      minute = minute_of s;
      month = month_of (day_of s);
      day_of_month = day_of_month (day_of s);
      weekday = weekday_of (day_of s);
      summer = summer_at s;
      timed = (h, refl, refl, refl);
      dated = (refl, refl, λ _. refl);
    }

-- m is the moment of the stamp s
pub record MomentOf (s : ℕ) (m : Moment) : Type 0 where
  pub in_range : s ≤ 52595939
  pub stamp_is : m.stamp ≡ s
  pub day_is : m.day ≡ day_of s
  pub month_is : m.month ≡ month_of (day_of s)
  pub day_of_month_is : m.day_of_month ≡ day_of_month (day_of s)
  pub weekday_is : m.weekday ≡ weekday_of (day_of s)
  pub minute_is : m.minute ≡ minute_of s
  pub summer_is : m.summer ≡ summer_at s

-- the moment of a stamp, or 4 past the last stamp
abbrev pub MomentAnswer : ℕ → Result Moment Refusal → Type 0
MomentAnswer s r = MatchResult r (λ m. MomentOf s m) (λ e. Refused e 4 0 0 × (52595939 < s))

-- the one stamp with this label, or 16 where no stamp has it
abbrev pub StampAnswer : ℕ → ℕ → ℕ → Result ℕ Refusal → Type 0
StampAnswer day minute mark r =
    MatchResult r (λ s. HasLabel s day minute mark × ((t : ℕ) → HasLabel t day minute mark → t ≡ s)) (λ e. Refused e 16 0 0 × ((s : ℕ) → HasLabel s day minute mark → ⊥))

-- n is the moment m with its weekday replaced by 7
pub record SundayOf (m n : Moment) : Type 0 where
  pub stamp_same : n.stamp ≡ m.stamp
  pub day_same : n.day ≡ m.day
  pub month_same : n.month ≡ m.month
  pub day_of_month_same : n.day_of_month ≡ m.day_of_month
  pub weekday_is : n.weekday ≡ 7
  pub minute_same : n.minute ≡ m.minute
  pub summer_same : n.summer ≡ m.summer
