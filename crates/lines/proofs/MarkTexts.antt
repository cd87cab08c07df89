-- Marks are told apart by their texts. Assumes nothing.
use Rattle.std.proofs.Common.{◌≡◌, ℕ, List, [], ◌∷◌, ◌++◌, Some, refl}
use Rattle.lines.specs.declared.mark.Latency.TheVariants.{Integer, Load, Compare}
use Rattle.lines.specs.declared.mark.Mark.{Mark}
use Rattle.lines.specs.declared.mark.Mark.TheVariants as mark
use Rattle.lines.specs.declared.mark.Mark.TheVariants.{Space, Equals, Comma, Open, Close, Colon, Unplaced, If, Exit, Halt, Next, Goto, Loop, Block, Slot}
use Rattle.lines.specs.Marks.{mark_text}
use Rattle.lines.proofs.Beginnings.{worded}

abbrev pub marks : List Mark
marks = Space ∷ Equals ∷ Comma ∷ Open ∷ Close ∷ Colon ∷ Unplaced ∷ If ∷ Exit ∷ Halt ∷ Next ∷ Goto ∷ Loop ∷ Block ∷ Slot ∷ mark.Latency Integer ∷ mark.Latency Load ∷ mark.Latency Compare ∷ []

pub each_mark : (m : Mark) (rest : List ℕ) → worded mark_text marks (mark_text m ++ rest) ≡ Some (m, rest)
each_mark Space rest = refl
each_mark Equals rest = refl
each_mark Comma rest = refl
each_mark Open rest = refl
each_mark Close rest = refl
each_mark Colon rest = refl
each_mark Unplaced rest = refl
each_mark If rest = refl
each_mark Exit rest = refl
each_mark Halt rest = refl
each_mark Next rest = refl
each_mark Goto rest = refl
each_mark Loop rest = refl
each_mark Block rest = refl
each_mark Slot rest = refl
each_mark (mark.Latency Integer) rest = refl
each_mark (mark.Latency Load) rest = refl
each_mark (mark.Latency Compare) rest = refl
