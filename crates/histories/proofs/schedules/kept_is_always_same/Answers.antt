use Rattle.histories.proofs.Dependences.{kept_is_always_same_lem}
use Rattle.histories.proofs.schedules.kept_is_always_same.Goals as goal

pub returns : goal.returns
returns c = kept_is_always_same_lem
