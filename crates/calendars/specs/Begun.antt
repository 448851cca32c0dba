-- The last that has begun, of things that start one after the other.
use Rattle.std.specs.Prelude.{◌≡◌, ℕ, ◌<◌, ◌≤◌, Bool, true, nat_le, List, [], ◌∷◌, length, slice_index_or}
use Rattle.std.proofs.lemmas.List.Elements.{All-get_or}
use Rattle.std.proofs.lemmas.List.Sums.{AllPass-from_list_all}
use Rattle.std.proofs.lemmas.Bool.{and_parts, leb-true, cond_both}
use Rattle.calendars.specs.Fields.{up_to}
use Rattle.calendars.specs.Programmes.{last_begun, used}
use Rattle.std.specs.List.{list_all}
use Rattle.calendars.specs.Sound.{rising, from_midnight, profile_sound}
use Rattle.calendars.specs.declared.profiles.DayProfile.{DayProfile}

-- what a day type keeps
pub record ProfileParts {n : ℕ} (profile : DayProfile n) : Type 0 where
  pub count : (1 ≤ profile.count) × (profile.count ≤ n)
  pub begins : from_midnight (used profile) ≡ true
  pub rises : rising (λ slot. slot.start) (used profile) ≡ true
  pub periods : list_all (λ slot. up_to 8 slot.period) (used profile) ≡ true

pub profile_parts : {n : ℕ} (profile : DayProfile n) → profile_sound profile ≡ true → ProfileParts profile
unfolding profile_sound
profile_parts {n} profile sound =
    let a = and_parts (up_to n profile.count) _ sound in
    let bounds = and_parts (nat_le 1 profile.count) _ a.0 in
    let b = and_parts (from_midnight (used profile)) _ a.1 in
    let c = and_parts (rising (λ slot. slot.start) (used profile)) _ b.1 in
    record { count = (leb-true _ _ bounds.0, leb-true _ _ bounds.1); begins = b.0; rises = c.0; periods = c.1 }

-- what a test says of each, it says of one
pub every_at : {X : Type 0} (test : X → Bool) (xs : List X) (i : ℕ) (d : X) → i < length xs → list_all test xs ≡ true → test (slice_index_or xs i d) ≡ true
every_at test xs i d h e = All-get_or (λ x. test x ≡ true) xs i d h (AllPass-from_list_all test xs e)

pub up_to_lem : (n x : ℕ) → up_to n x ≡ true → (1 ≤ x) × (x ≤ n)
up_to_lem n x e = let parts = and_parts (nat_le 1 x) _ e in (leb-true _ _ parts.0, leb-true _ _ parts.1)

-- what every value keeps, the last that has begun keeps
pub last_keeps : {X : Type 0} (begun : X → Bool) (value : X → ℕ) (n other : ℕ) (xs : List X) → up_to n other ≡ true → list_all (λ x. up_to n (value x)) xs ≡ true → up_to n (last_begun begun value other xs) ≡ true
unfolding last_begun
last_keeps begun value n other [] h e = h
last_keeps begun value n other (x ∷ xs) h e =
    let parts = and_parts (up_to n (value x)) _ e in
    last_keeps begun value n _ xs (cond_both (begun x) (value x) other (λ y. up_to n y ≡ true) (λ _. parts.0) (λ _. h)) parts.1
