use Rattle.std.proofs.Common.{◌≡◌, ◌∷◌, length, take, vec_items}
use Rattle.std.specs.List.{flat_map}
use Rattle.blockcheck_c.specs.Numbers.{row_of}
use Rattle.blockcheck_c.proofs.numbers.numbers.Given as goal

abbrev pub invariant-loop-verdict : goal.invariant-loop-verdict
invariant-loop-verdict l = vec_items l.numbers ≡ length l.all ∷ flat_map row_of (take l.verdict-index l.all)
