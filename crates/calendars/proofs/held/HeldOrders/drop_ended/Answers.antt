use Rattle.std.proofs.Common.{rules}
use Rattle.calendars.specs.Orders.{unended}
use Rattle.calendars.specs.Compatible.{compatible_kept}
use Rattle.calendars.proofs.HeldTogether.{retain_same}
use Rattle.calendars.proofs.held.HeldOrders.drop_ended.Goals as goal

pub invariant_of-self : goal.invariant_of-self
invariant_of-self c =
    let kept = retain_same _ (unended c.args.clock) _ (λ x b f' y k. search rules) _ _ c.retain.ensures.filtered in
    let sound = compatible_kept (unended c.args.clock) c.args.self.now.orders.items c.args.self.now.sound in
    record { sound = cc }

pub returns : goal.returns
returns c = retain_same _ (unended c.args.clock) _ (λ x b f' y k. search rules) _ _ c.retain.ensures.filtered
