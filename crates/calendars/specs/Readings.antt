-- What programmes are read as.
use Rattle.std.specs.Prelude.{◌≡◌, ℕ, List, Some, None, Option, refl}
use Rattle.calendars.specs.Fields.{Field, first_wrong, passed}
use Rattle.calendars.specs.Meanings.{Plan, Lawful, LawfulVerdict}
use Rattle.calendars.specs.Programmes.{judged}

-- a reading gives lawful plans, where lawful fields do
pub legible : (form : Option ℕ) (fields : List Field) (plan : Plan) → (first_wrong fields ≡ None → Lawful plan) → LawfulVerdict (judged form fields plan)
legible None fields plan h = by (first_wrong fields) h
  where
    by : (o : Option ℕ) → (o ≡ None → Lawful plan) → LawfulVerdict (passed plan o)
    by None lawful = lawful refl
    by (Some k) lawful = tt
legible (Some n) fields plan h = tt
