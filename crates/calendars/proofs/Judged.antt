-- What the questions of a programme answer.
use Rattle.std.proofs.Common.{◌≡◌, ℕ, List, Some, None, Option, refl, sym}
use Rattle.legal_time.specs.Refusals.{gives, refuses}
use Rattle.calendars.specs.Fields.{Field, first_wrong, found, passed}
use Rattle.calendars.specs.Meanings.{alone}
use Rattle.calendars.specs.Programmes.{judged}

-- what a check found decides
found_fault : {X : Type 0} (x : X) (number side place : ℕ) (o : Option ℕ) → refuses number side place ≡ found o → alone (passed x o) ≡ refuses number side place
found_fault x number side place None h = cc
found_fault x number side place (Some k) h = let n : number ≡ 8 = cc in let s : side ≡ 0 = cc in let p : place ≡ k = cc in rw (n, s, p)

pub found_none : (o : Option ℕ) → gives tt ≡ found o → o ≡ None
found_none None h = refl
found_none (Some k) h = cc

module _ {X : Type 0} (form : Option ℕ) (fields : List Field) (x : X) where
  -- a fault of the form decides
  pub form_fault : (number : ℕ) → form ≡ Some number → refuses number 0 0 ≡ alone (judged form fields x)
  form_fault number e = rw e

  -- .. else that of a field ..
  pub field_fault : (number side place : ℕ) → form ≡ None → refuses number side place ≡ found (first_wrong fields) → refuses number side place ≡ alone (judged form fields x)
  field_fault number side place e h = rw e (sym (found_fault x number side place (first_wrong fields) h))

  -- .. else there is none
  pub no_fault : form ≡ None → gives tt ≡ found (first_wrong fields) → gives x ≡ alone (judged form fields x)
  no_fault e h = rw (e, found_none (first_wrong fields) h)

pub ruleset answered = (form_fault, field_fault, no_fault, found_none)
