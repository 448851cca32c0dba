-- What a calendar without orders tells.
use Rattle.std.proofs.Common.{◌≡◌, ℕ, [], Ok, ap, ◌∙◌, arith}
use Rattle.legal_time.specs.Moments.{MomentOf}
use Rattle.legal_time.specs.Refusals.{gives}
use Rattle.legal_time.specs.declared.Moment.{Moment}
use Rattle.calendars.specs.Meanings.{Plan, Verdict, reads, faults, checked, staged}
use Rattle.calendars.specs.Orders.{laid}
use Rattle.golimeruth.specs.Performed.{PlanAnswer}

-- what it tells once its programme is staged and active
pub told : (v : Verdict Plan) (before current : Plan) (s p : ℕ) (m : Moment) → gives tt ≡ checked v → current ≡ staged v before → MomentOf s m → p ≡ laid [] current m → PlanAnswer v s (Ok p)
unfolding laid
told (reads plan) before current s p m taken is at tells = (m, at, tells ∙ ap (λ (f : Plan). f m) is)
told (faults number place) before current s p m taken is at tells = let z : ◌≡◌ {A = ℕ} 0 1 = cc in absurd (omega arith)
