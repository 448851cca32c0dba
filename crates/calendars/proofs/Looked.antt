-- Look-ups in sound tables.
use Rattle.std.proofs.Common.{◌≡◌, ℕ, ◌-◌, ◌<◌, true, List, [], length, slice_index, slice_index_or, ap, ◌∙◌}
use Rattle.std.proofs.lemmas.List.{get_or_read}
use Rattle.legal_time.specs.declared.Moment.{Moment}
use Rattle.calendars.specs.Begun.{every_at}
use Rattle.calendars.specs.Programmes.{used, period_of, period_on}
use Rattle.std.specs.List.{list_all}
use Rattle.calendars.specs.Sound.{profile_sound}
use Rattle.calendars.specs.declared.profiles.DayProfile.{DayProfile}

-- a day type that is read from a row of sound ones
module _ {n : ℕ} (profiles : List (DayProfile n)) (i : ℕ) (profile : DayProfile n) (h : i < length profiles) (read : profile ≡ slice_index_or profiles i profile) where
  pub sound_there : list_all profile_sound profiles ≡ true → profile_sound profile ≡ true
  sound_there all = rw (← read) at (every_at profile_sound profiles i profile h all)

  pub told_there : (days : List (List ℕ)) (week : ℕ) (m : Moment) → i ≡ slice_index (slice_index_or days (week - 1) []) (m.weekday - 1) - 1 → period_of (used profile) m.minute ≡ period_on days profiles week m
  unfolding period_on
  told_there days week m place =
      let blank : DayProfile n = record { count = 0; slots = [] } in
      ap (λ x. period_of (used x) m.minute) (get_or_read profiles i profile h read blank ∙ ap (λ k. slice_index_or profiles k blank) place)
