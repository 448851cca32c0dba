-- What a calendar means, and what its calls make of it.
use Rattle.std.specs.Prelude.{ℕ, ◌≤◌, Bool, true, false, Some, None, Option, Ok, Err, Result}
use Rattle.legal_time.specs.Refusals.{Reply, gives, refuses, number_of}
use Rattle.legal_time.specs.declared.Cause.{Cause}
use Rattle.legal_time.specs.declared.Moment.{Moment}

-- a map gives every moment a period
abbrev pub Plan : Type 0
Plan = Moment → ℕ

-- a period is 1 to 8
abbrev pub IsPeriod : ℕ → Type 0
IsPeriod p = (1 ≤ p) × (p ≤ 8)

abbrev pub Lawful : Plan → Type 0
Lawful plan = (m : Moment) → IsPeriod (plan m)

-- the map of a calendar that was never programmed
unfoldable pub unprogrammed : Plan
unprogrammed m = 1

-- the map of a calendar that may have been programmed
abbrev pub planned : {P : Type 0} → (P → Plan) → Option P → Plan
planned plan None = unprogrammed
planned plan (Some p) = plan p

-- what bytes are read as: something, or a fault, a number with a place
pub data Verdict (X : Type 0) : Type 0 where
  reads : X → Verdict X
  faults : (number place : ℕ) → Verdict X

abbrev pub is_read : {X : Type 0} → Verdict X → Bool
is_read (reads x) = true
is_read (faults number place) = false

abbrev pub carried : {X Y : Type 0} → (X → Y) → Verdict X → Verdict Y
carried f (reads x) = reads (f x)
carried f (faults number place) = faults number place

abbrev pub LawfulVerdict : Verdict Plan → Type 0
LawfulVerdict (reads plan) = Lawful plan
LawfulVerdict (faults number place) = Unit {0}

-- the number of the question that was answered no, if there is one
abbrev pub no_of : Result (Unit {0}) Cause → Option ℕ
no_of (Ok u) = None
no_of (Err cause) = Some (number_of cause)

-- what a call answers whose first question with a no has this number, and which names no place
abbrev pub asked : Option ℕ → Reply (Unit {0})
asked None = gives tt
asked (Some number) = refuses number 0 0

-- a library used alone names no side
abbrev pub alone : {X : Type 0} → Verdict X → Reply X
alone (reads x) = gives x
alone (faults number place) = refuses number 0 place

-- what a staging answers: nothing but the fault
abbrev pub checked : {X : Type 0} → Verdict X → Reply (Unit {0})
checked (reads x) = gives tt
checked (faults number place) = refuses number 0 place

-- the map next after a staging
abbrev pub staged : Verdict Plan → Plan → Plan
staged (reads plan) before = plan
staged (faults number place) before = before
