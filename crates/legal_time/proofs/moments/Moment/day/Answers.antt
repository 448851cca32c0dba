use Rattle.std.proofs.Common.{arith}
use Rattle.legal_time.proofs.Fields.{day_within}
use Rattle.legal_time.proofs.moments.Moment.day.Goals as goal

pub returns : goal.returns
returns c = let within = day_within c.args.self.now in omega arith
