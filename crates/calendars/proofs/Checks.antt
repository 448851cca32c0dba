-- The first wrong field, part by part.
use Rattle.std.proofs.Common.{◌≡◌, ℕ, suc, ◌+◌, ◌-◌, ◌<◌, ◌≤◌, Bool, true, false, cond, List, ◌++◌, Some, None, Option, refl, ◌∙◌, arith}
use Rattle.legal_time.specs.Refusals.{Reply, gives, refuses}
use Rattle.calendars.specs.Checks.{or_else, first_append}
use Rattle.calendars.specs.Fields.{Field, first_wrong, parts, found}

parts_more : (f : ℕ → List Field) (i m : ℕ) → first_wrong (parts f i (suc m)) ≡ or_else (first_wrong (f i)) (first_wrong (parts f (i + 1) m))
unfolding parts
parts_more f i m = first_append (f i) (parts f (i + 1) m)

pub more : (f : ℕ → List Field) (i n : ℕ) → i < n → first_wrong (parts f i (n - i)) ≡ or_else (first_wrong (f i)) (first_wrong (parts f (i + 1) (n - (i + 1))))
more f i n h = let e : n - i ≡ suc (n - (i + 1)) = omega arith in rw e (parts_more f i (n - (i + 1)))

-- a part that passes leaves the answer to the rest
pub goes_on : (x y : Option ℕ) → gives tt ≡ found x → or_else x y ≡ y
goes_on None y h = refl
goes_on (Some k) y h = cc

-- a part that does not pass decides
pub stops : (number side place : ℕ) (x y : Option ℕ) → refuses number side place ≡ found x → refuses number side place ≡ found (or_else x y)
stops number side place None y h = cc
stops number side place (Some k) y h = h

-- one field before others: where it is lawful they decide
pub field_stop : (number side place : ℕ) (lawful : Bool) (offset : ℕ) (rest : Option ℕ) → refuses number side place ≡ found (cond lawful None (Some offset)) → refuses number side place ≡ found (cond lawful rest (Some offset))
field_stop number side place true offset rest h = cc
field_stop number side place false offset rest h = h

pub field_on : (lawful : Bool) (offset : ℕ) (rest : Option ℕ) (r : Reply (Unit {0})) → gives tt ≡ found (cond lawful None (Some offset)) → r ≡ found rest → r ≡ found (cond lawful rest (Some offset))
field_on true offset rest r h more = more
field_on false offset rest r h more = cc

-- one part after another
module _ (fs gs : List Field) where
  pub then_stop : (number side place : ℕ) → refuses number side place ≡ found (first_wrong fs) → refuses number side place ≡ found (first_wrong (fs ++ gs))
  then_stop number side place h = rw (first_append fs gs) (stops number side place (first_wrong fs) _ h)

  pub then_on : (r : Reply (Unit {0})) → gives tt ≡ found (first_wrong fs) → r ≡ found (first_wrong gs) → r ≡ found (first_wrong (fs ++ gs))
  then_on r h rest = rw (first_append fs gs, goes_on (first_wrong fs) (first_wrong gs) h) rest

-- A loop over parts keeps that what is left decides.
module _ (f : ℕ → List Field) (n i : ℕ) (whole : first_wrong (parts f 0 n) ≡ first_wrong (parts f i (n - i))) where
  pub loop_more : i < n → gives tt ≡ found (first_wrong (f i)) → first_wrong (parts f 0 n) ≡ first_wrong (parts f (i + 1) (n - (i + 1)))
  loop_more h part = whole ∙ more f i n h ∙ goes_on (first_wrong (f i)) _ part

  pub loop_stop : (number side place : ℕ) → i < n → refuses number side place ≡ found (first_wrong (f i)) → refuses number side place ≡ found (first_wrong (parts f 0 n))
  loop_stop number side place h part = rw (whole ∙ more f i n h) (stops number side place (first_wrong (f i)) _ part)

  pub loop_all : n ≤ i → gives tt ≡ found (first_wrong (parts f 0 n))
  unfolding parts
  loop_all h = let none : n - i ≡ 0 = omega arith in rw (whole, none)

-- what the parts of a loop answer, and those that follow one another
pub ruleset looped = (loop_more, loop_stop, loop_all)

pub ruleset followed = (then_on, then_stop)
