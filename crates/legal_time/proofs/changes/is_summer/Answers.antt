use Rattle.std.proofs.Common.{arith}
use Rattle.std.proofs.lemmas.Bool.Decides.{nat_tests}
use Rattle.legal_time.proofs.Summer.{summer_between}
use Rattle.legal_time.proofs.changes.is_summer.Goals as goal

pub returns : goal.returns
returns c =
    let changes = c.change_days-spring.ensures in
    let between = summer_between c.args.stamp _ _ _ c.years.ensures.year changes.spring changes.autumn in
    grind (arith, nat_tests, c.contains.ensures)
