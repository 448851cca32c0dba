use Rattle.std.proofs.Common.{rules}
use Rattle.calendars.specs.Layouts.{month_tables}
use Rattle.calendars.proofs.Rows.{profiles_from_fn}
use Rattle.calendars.proofs.decoding.month_tables.Goals as goal

pub returns : goal.returns
unfolding month_tables
returns c =
    let profiles = profiles_from_fn c.args.bytes.now 10 3 49 _ _ (λ k x f' call. search rules) _ c.from_fn.ensures.items in
    rw profiles (search rules)
