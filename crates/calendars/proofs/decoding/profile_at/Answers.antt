use Rattle.std.proofs.Common.{◌+◌, ◌*◌, rules}
use Rattle.calendars.specs.Layouts.{slot_in, profile_in}
use Rattle.calendars.proofs.Rows.{row_from_fn}
use Rattle.calendars.proofs.decoding.profile_at.Goals as goal

pub returns : goal.returns
unfolding profile_in
returns g c = let slots = row_from_fn _ (λ k. slot_in c.args.bytes.now (c.args.base + 1 + 3 * k)) _ (λ k x f' call. search rules) _ _ c.from_fn.ensures.items in rw slots
