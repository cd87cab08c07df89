use Rattle.std.proofs.Common.{◌≡◌, ◌≤◌, length, vec_len}
use Rattle.blockcheck.proofs.input.read.Given as goal

abbrev pub invariant-loop : goal.invariant-loop
invariant-loop l = (length l.chunk ≡ 4096) × (vec_len l.all ≤ 131078)
