use Rattle.std.proofs.Common.{◌≡◌, ◌-◌}
use Rattle.calendars.specs.Fields.{first_wrong, parts}
use Rattle.calendars.specs.Programmes.{season_fields}
use Rattle.calendars.proofs.dates.check_seasons.Given as goal

abbrev pub invariant-loop-k : goal.invariant-loop-k
invariant-loop-k l =
    first_wrong (parts (season_fields l.bytes) 0 12) ≡ first_wrong (parts (season_fields l.bytes) l.k (12 - l.k))
