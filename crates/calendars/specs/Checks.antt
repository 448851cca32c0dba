-- The first wrong field of two parts.
use Rattle.std.specs.Prelude.{◌≡◌, ℕ, true, false, cond, List, [], ◌∷◌, ◌++◌, Some, None, Option, refl}
use Rattle.calendars.specs.Fields.{Field, first_wrong}

-- the first of two, if there is one, else the second
abbrev pub or_else : Option ℕ → Option ℕ → Option ℕ
or_else None y = y
or_else (Some k) y = Some k

pub first_append : (fs gs : List Field) → first_wrong (fs ++ gs) ≡ or_else (first_wrong fs) (first_wrong gs)
first_append [] gs = refl
first_append (f ∷ fs) gs =
    elim f.lawful as (λ b. cond b (first_wrong (fs ++ gs)) (Some f.offset) ≡ or_else (cond b (first_wrong fs) (Some f.offset)) (first_wrong gs)) [
      | true ↦ first_append fs gs
      | false ↦ refl
    ]
