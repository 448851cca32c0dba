use Rattle.std.proofs.Common.{arith}
use Rattle.std.proofs.lemmas.Result.{err_from_is_err_and}
use Rattle.calendars.specs.Fields.{day_at}
use Rattle.calendars.proofs.Checks.{loop_stop}
use Rattle.calendars.proofs.fields.Layout.check_days.Goals as goal

pub returns-in_err-check : goal.returns-in_err-check
unfolding day_at
returns-in_err-check c =
    let p = err_from_is_err_and c.from_residual.result c.from_residual.ensures.1 in
    rw (p.1, p.2) (loop_stop _ _ _ c.loop-k.invariant _ _ _ (omega arith) (rw c.from.ensures at c.in_err-check.ensures))
