use Rattle.std.proofs.Common.{◌≡◌, true, nat_le, drop}
use Rattle.calendars.specs.Programmes.{last_begun, period_of}
use Rattle.calendars.specs.Sound.{rising}
use Rattle.calendars.proofs.profiles.period_in.Given as goal

-- what is left of the slots decides
abbrev pub invariant-loop-slot : goal.invariant-loop-slot
invariant-loop-slot l =
    (period_of l.slots l.minute ≡ last_begun (λ slot. nat_le slot.start l.minute) (λ slot. slot.period) l.period (drop l.slot-index l.slots))
    × (rising (λ slot. slot.start) (drop l.slot-index l.slots) ≡ true)
