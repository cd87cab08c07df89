use Rattle.operations.proofs.Exact.{exactly}
use Rattle.operations.proofs.raw.RawOperation.typed.Goals as goal

pub returns : goal.returns
returns c = record { value = c.operation.ensures; exact = exactly c.args.self c.operation.result c.operation.ensures }
