-- What the commands of a script are answered.
use Rattle.std.specs.Prelude.{◌≡◌, ℕ, ◌<◌, List, Ok, Err, vec_items, Result, MatchResult}
use Rattle.legal_time.specs.Moments.{MomentOf, MomentAnswer, StampAnswer}
use Rattle.legal_time.specs.Refusals.{Refused, reply_of, refuses}
use Rattle.legal_time.specs.declared.Moment.{Moment}
use Rattle.legal_time.specs.declared.Refusal.{Refusal}
use Rattle.calendars.specs.Meanings.{Plan, Verdict, reads, faults, checked}
use Rattle.calendars.specs.Programmes.{month_reading, date_reading}
use Rattle.golimeruth.specs.declared.answers.Answer.{Answer}
use Rattle.golimeruth.specs.declared.answers.Answer.TheVariants.{Moment as TheMoment, Stamp as TheStamp, Lawful, Period}
use Rattle.golimeruth.specs.declared.commands.CalendarKind.{CalendarKind}
use Rattle.golimeruth.specs.declared.commands.CalendarKind.TheVariants.{Month, Date}
use Rattle.golimeruth.specs.declared.commands.Command.{Command}
use Rattle.golimeruth.specs.declared.commands.Command.TheVariants.{Time, Stamp, Check, Plan as ThePlan}

-- a library's answer as the console gives it
abbrev pub given : {A : Type 0} → (A → Answer) → Result A Refusal → Result Answer Refusal
given show (Ok x) = Ok (show x)
given show (Err e) = Err e

-- what bytes mean to a calendar of this kind
abbrev pub reading_of : CalendarKind → List ℕ → Verdict Plan
reading_of Month = month_reading
reading_of Date = date_reading

-- the programme's fault, else 4 past the last stamp, else the plan's period at the stamp's moment
abbrev pub PlanAnswer : Verdict Plan → ℕ → Result ℕ Refusal → Type 0
PlanAnswer (faults number place) stamp r = reply_of r ≡ refuses number 0 place
PlanAnswer (reads plan) stamp r =
    MatchResult r (λ period. (m : Moment) × MomentOf stamp m × (period ≡ plan m)) (λ e. Refused e 4 0 0 × (52595939 < stamp))

-- each command is answered by its call
abbrev pub Performed : Command → Result Answer Refusal → Type 0
Performed (Time s) r = (q : Result Moment Refusal) × MomentAnswer s q × (r ≡ given TheMoment q)
Performed (Stamp label) r = (q : Result ℕ Refusal) × StampAnswer label.day label.minute label.mark q × (r ≡ given TheStamp q)
Performed (Check offer) r =
    (q : Result (Unit {0}) Refusal) × (reply_of q ≡ checked (reading_of offer.kind (vec_items offer.bytes))) × (r ≡ given (λ _. Lawful) q)
Performed (ThePlan offer stamp) r =
    (q : Result ℕ Refusal) × PlanAnswer (reading_of offer.kind (vec_items offer.bytes)) stamp q × (r ≡ given Period q)
