use Rattle.std.proofs.Common.{arith}
use Rattle.legal_time.proofs.Summer.{local_is}
use Rattle.legal_time.proofs.stamps.moment.Goals as goal

pub invariant_of-day : goal.invariant_of-day
invariant_of-day c =
    let local = local_is c.args.stamp _ _ (omega arith) c.is_summer-summer.ensures c.offset_of.ensures in
    record { in_range = omega arith }
