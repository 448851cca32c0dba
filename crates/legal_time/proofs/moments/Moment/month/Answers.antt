use Rattle.std.proofs.Common.{arith}
use Rattle.legal_time.proofs.Fields.{month_within}
use Rattle.legal_time.proofs.moments.Moment.month.Goals as goal

pub returns : goal.returns
returns c = let within = month_within c.args.self.now in omega arith
