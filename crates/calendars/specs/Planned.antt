use Rattle.std.proofs.Common.{arith}
use Rattle.std.specs.Prelude.{Some, None, Option}
use Rattle.calendars.specs.Meanings.{Plan, Lawful, planned, unprogrammed}

pub planned_lawful : {P : Type 0} (plan : P → Plan) → ((p : P) → Lawful (plan p)) → (o : Option P) → Lawful (planned plan o)
unfolding unprogrammed
planned_lawful plan lawful None m = (omega arith, omega arith)
planned_lawful plan lawful (Some p) m = lawful p m
