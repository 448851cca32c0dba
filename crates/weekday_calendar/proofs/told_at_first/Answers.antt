use Rattle.std.proofs.Common.{◌≡◌, ℕ, List, [], refl, ◌∙◌}
use Rattle.legal_time.specs.declared.Moment.{Moment}
use Rattle.calendars.specs.Meanings.{Plan, unprogrammed}
use Rattle.calendars.specs.Orders.{laid}
use Rattle.calendars.specs.declared.Order.{Order}
use Rattle.weekday_calendar.proofs.told_at_first.Goals as goal

-- where there are no orders, the map tells the period
bare : (period : ℕ) (os : List Order) (plan : Plan) (m : Moment) → period ≡ laid os plan m → os ≡ [] → plan m ≡ 1 → period ≡ 1
unfolding laid
bare period os plan m e none h = e ∙ rw none h

-- a map that was never programmed tells 1
one : (plan : Plan) (m : Moment) → plan ≡ unprogrammed → laid [] plan m ≡ 1
unfolding laid unprogrammed
one plan m e = rw e

pub returns : goal.returns
returns c =
    let m = c.args.moment in
    let own = bare _ _ _ m c.told.ensures c.with_orders-own.ensures.orders (one _ m c.with_orders-own.ensures.current) in
    let below = bare _ _ _ m refl (rw c.new-piled.ensures.below c.new-2.ensures.orders) (one _ m (rw (c.new-piled.ensures.below, c.new-2.ensures.below) c.new.ensures.current)) in
    let piled = bare _ _ _ m c.told-2.ensures c.new-piled.ensures.orders below in
    rw (own, piled)
