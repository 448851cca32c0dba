use Rattle.std.proofs.Common.{arith}
use Rattle.std.proofs.lemmas.Result.{err_from_is_err_and}
use Rattle.calendars.specs.Fields.{choice}
use Rattle.calendars.proofs.Checks.{loop_stop}
use Rattle.calendars.proofs.fields.Layout.check_choices.Goals as goal

pub returns-in_err-check_field : goal.returns-in_err-check_field
unfolding choice
returns-in_err-check_field c =
    let p = err_from_is_err_and c.from_residual.result c.from_residual.ensures.1 in
    rw (p.1, p.2) (loop_stop _ _ _ c.loop-k.invariant _ _ _ (omega arith) (rw c.up_to.ensures at c.in_err-check_field.ensures))
