-- Periods of sound tables are 1 to 8.
use Rattle.std.specs.Prelude.{◌≡◌, ℕ, zero, suc, Bool, true, List, [], ◌∷◌, slice_index_or, refl}
use Rattle.std.proofs.lemmas.Bool.{and_parts}
use Rattle.calendars.specs.Fields.{up_to}
use Rattle.calendars.specs.Meanings.{Lawful}
use Rattle.calendars.specs.Programmes.{used, period_of, period_on, month_plan, date_plan}
use Rattle.std.specs.List.{list_all}
use Rattle.calendars.specs.Sound.{profile_sound, month_sound, date_sound}
use Rattle.calendars.specs.declared.profiles.DayProfile.{DayProfile}
use Rattle.calendars.specs.declared.profiles.Slot.{Slot}
use Rattle.calendars.specs.declared.tables.DateTables.{DateTables}
use Rattle.calendars.specs.declared.tables.MonthTables.{MonthTables}
use Rattle.calendars.specs.Begun.{up_to_lem, last_keeps, profile_parts}
use Rattle.calendars.specs.Kept.{month_parts, date_parts}

-- what follows of each and of the default, follows of what stands at any place
kept_anywhere : {X : Type 0} (test : X → Bool) (P : X → Type 0) → ((x : X) → test x ≡ true → P x) → (xs : List X) (i : ℕ) (d : X) → P d → list_all test xs ≡ true → P (slice_index_or xs i d)
kept_anywhere test P one [] i d h e = h
kept_anywhere test P one (x ∷ xs) zero d h e = one x (and_parts (test x) _ e).0
kept_anywhere test P one (x ∷ xs) (suc i) d h e = kept_anywhere test P one xs i d h (and_parts (test x) _ e).1

-- a blank day type uses no slot
blank_kept : list_all {X = Slot} (λ slot. up_to 8 slot.period) [] ≡ true
blank_kept = refl

period_kept : {n : ℕ} (days : List (List ℕ)) (profiles : List (DayProfile n)) (week : ℕ) → list_all profile_sound profiles ≡ true → Lawful (period_on days profiles week)
unfolding period_on period_of
period_kept days profiles week sound m =
    up_to_lem 8 _
    (last_keeps _ _ 8 1 _ refl
    (kept_anywhere profile_sound (λ profile. list_all (λ slot. up_to 8 slot.period) (used profile) ≡ true) (λ profile e. (profile_parts profile e).periods) profiles _ _ blank_kept sound))

pub month_lawful : (t : MonthTables) → month_sound t ≡ true → Lawful (month_plan t)
unfolding month_plan
month_lawful t sound m = period_kept t.days t.profiles _ (month_parts t sound).profiles m

pub date_lawful_lem : (t : DateTables) → date_sound t ≡ true → Lawful (date_plan t)
unfolding date_plan
date_lawful_lem t sound m = period_kept t.days t.profiles _ (date_parts t sound).profiles m
