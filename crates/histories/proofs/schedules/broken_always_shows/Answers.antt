use Rattle.histories.proofs.Dependences.{broken_always_shows_lem}
use Rattle.histories.proofs.schedules.broken_always_shows.Goals as goal

pub returns : goal.returns
returns c = broken_always_shows_lem
