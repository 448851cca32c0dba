use Rattle.legal_time.proofs.Theorems.{last_sundays}
use Rattle.legal_time.proofs.laws.last_sundays.Goals as goal

pub returns : goal.returns
returns c = last_sundays
