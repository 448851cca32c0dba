use Rattle.std.proofs.Common.{arith}
use Rattle.legal_time.proofs.Fields.{day_within}
use Rattle.legal_time.proofs.moments.Moment.date.Goals as goal

pub invariant_of-date : goal.invariant_of-date
invariant_of-date c =
    let within = day_within c.args.self.now in
    record { in_range = omega (arith, c.args.self.now.timed.0) }
