-- A printed exit is read back as it was. Assumes nothing.
use Rattle.std.proofs.Common.{◌≡◌, ℕ, false, ◌&&◌, leb, Some, sym, refl, arith}
use Rattle.operations.proofs.Exact.{name_back}
use Rattle.blocks.specs.declared.exit.Exit.{Exit}
use Rattle.blocks.specs.declared.exit.Exit.TheVariants.{Halt, Next, Goto, If, Loop}
use Rattle.blocks.specs.Exits.{BlockNumber, block_numbered, exit_named, raw_goes_on, goes_on, exit_for}
use Rattle.blocks.proofs.Numbers.{block_there}
use Rattle.lines.specs.Lines.{ShortExit}
use Rattle.lines.specs.Raw.{raw_exit}
use Rattle.registers.specs.Names.{handed}
use Rattle.printing.specs.Written.{written_exit}
use Rattle.printing.proofs.Operations.{handed_same, predicate_raw, short_predicate}

block_back : (t : BlockNumber) → block_numbered t.number ≡ Some t
block_back t = sym (block_there t.number t.below)

handed_target : (t : BlockNumber) → handed t.number ≡ t.number
handed_target t = handed_same t.number (omega (arith, t.below))

named_back : (x : Exit) → exit_named (raw_exit (written_exit x)) ≡ Some x
named_back Halt = refl
named_back Next = refl
named_back (Goto t) = simp (handed_target t, block_back t)
named_back (If p t) = simp (predicate_raw p, name_back p, handed_target t, block_back t)
named_back (Loop t) = simp (handed_target t, block_back t)

goes_same : (x : Exit) → raw_goes_on (raw_exit (written_exit x)) ≡ goes_on x
goes_same x = grind arith

pub exit_back : (n : ℕ) (x : Exit) → (leb 15 n && goes_on x) ≡ false → exit_for n (raw_exit (written_exit x)) ≡ Some x
exit_back n x h = simp (goes_same x, h, named_back x)

pub short_exit : (x : Exit) → ShortExit (written_exit x)
short_exit Halt = tt
short_exit Next = tt
short_exit (Goto t) = omega (arith, t.below)
short_exit (If p t) = (short_predicate p, omega (arith, t.below))
short_exit (Loop t) = omega (arith, t.below)
