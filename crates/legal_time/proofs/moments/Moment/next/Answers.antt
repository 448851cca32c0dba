use Rattle.std.proofs.Common.{sym, ◌∙◌, arith}
use Rattle.legal_time.proofs.Fields.{day_within}
use Rattle.legal_time.proofs.Summer.{within_hour}
use Rattle.legal_time.proofs.moments.Moment.next.Goals as goal

pub invariant_of-weekday : goal.invariant_of-weekday
invariant_of-weekday c = record { in_range = day_within c.args.self.now }

pub invariant_of-next : goal.invariant_of-next
invariant_of-next c =
    let m = c.args.self.now in
    let hour = within_hour m.stamp m.timed.0 (omega (arith, m.timed.2)) in
    record {
      timed = (omega arith, omega (arith, m.timed.1), omega (arith, m.timed.2), m.timed.3 ∙ sym hour.3);
      dated = (m.dated.0, m.dated.1, λ _. omega arith);
    }
