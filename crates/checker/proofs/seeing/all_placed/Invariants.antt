use Rattle.std.proofs.Common.{◌≡◌, length}
use Rattle.checker.specs.Seen.{SeenTo}
use Rattle.checker.proofs.seeing.all_placed.Given as goal

abbrev pub invariant-loop-i : goal.invariant-loop-i
invariant-loop-i l = (length l.all ≡ 64) × SeenTo l.description l.entries l.i l.all
