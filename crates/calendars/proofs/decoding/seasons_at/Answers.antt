use Rattle.std.proofs.Common.{◌+◌, ◌*◌, rules}
use Rattle.calendars.specs.Layouts.{season_in}
use Rattle.calendars.proofs.Rows.{row_from_fn}
use Rattle.calendars.proofs.decoding.seasons_at.Goals as goal

pub returns : goal.returns
returns c = row_from_fn _ (λ k. season_in c.args.bytes.now (6 + 3 * k)) _ (λ k x f' call. search rules) _ _ c.from_fn.ensures.items
