use Rattle.std.proofs.Common.{◌<◌, ◌≤◌, nat_le, length, sym, refl, ◌∙◌, arith}
use Rattle.std.proofs.lemmas.Bool.{le-leb}
use Rattle.calendars.specs.Programmes.{blank_slot, period_of}
use Rattle.calendars.proofs.InTurn.{last_yes, last_all, rising_more, late_stop}
use Rattle.calendars.proofs.profiles.period_in.Goals as goal

pub loop-slot-init : goal.loop-slot-init
unfolding period_of
loop-slot-init c = (refl, c.requires)

pub loop-slot-preserved : goal.loop-slot-preserved
loop-slot-preserved c =
    let h : c.loop-slot.slot-index < length c.args.slots.now = omega arith in (
      c.loop-slot.invariant.0
          ∙ last_yes (λ slot. nat_le slot.start c.args.minute) (λ slot. slot.period) _ _ _ blank_slot h (le-leb _ _ c.if-slot-minute.false),
      (rising_more (λ slot. slot.start) (λ slot. slot.period) _ _ blank_slot h c.loop-slot.invariant.1).1,
    )

pub returns-then-slot-minute : goal.returns-then-slot-minute
returns-then-slot-minute c =
    let h : c.loop-slot.slot-index < length c.args.slots.now = omega arith in
    sym (c.loop-slot.invariant.0 ∙ late_stop (λ slot. slot.start) (λ slot. slot.period) _ _ blank_slot h c.loop-slot.invariant.1 _ _ c.if-slot-minute.true)

pub returns : goal.returns
returns c =
    let h : length c.args.slots.now ≤ c.loop-slot.slot-index = omega arith in
    sym (c.loop-slot.invariant.0 ∙ last_all _ _ _ _ _ h)
