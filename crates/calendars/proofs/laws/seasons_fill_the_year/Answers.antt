use Rattle.calendars.proofs.InTurn.{seasons_fill_the_year}
use Rattle.calendars.proofs.laws.seasons_fill_the_year.Goals as goal

pub returns : goal.returns
returns c = seasons_fill_the_year
