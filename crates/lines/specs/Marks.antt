-- Marks as text. Assumes nothing.
use Rattle.std.specs.Prelude.{ℕ, List, [], ◌∷◌, ◌++◌, codes}
use Rattle.lines.specs.declared.mark.Latency.{Latency}
use Rattle.lines.specs.declared.mark.Latency.TheVariants as latency
use Rattle.lines.specs.declared.mark.Mark.{Mark}
use Rattle.lines.specs.declared.mark.Mark.TheVariants as mark
use Rattle.lines.specs.declared.mark.Mark.TheVariants.{Space, Equals, Comma, Open, Close, Colon, Unplaced, If, Exit, Halt, Next, Goto, Loop, Block, Slot}

abbrev pub latency_text : Latency → List ℕ
latency_text latency.Integer = codes "integer"
latency_text latency.Load = codes "load"
latency_text latency.Compare = codes "compare"

abbrev pub mark_text : Mark → List ℕ
mark_text Space = codes " "
mark_text Equals = codes "="
mark_text Comma = codes ","
mark_text Open = codes "("
mark_text Close = codes ")"
mark_text Colon = codes ":"
mark_text Unplaced = codes "- "
mark_text If = codes "if"
mark_text Exit = codes "exit"
mark_text Halt = codes "halt"
mark_text Next = codes "next"
mark_text Goto = codes "goto"
mark_text Loop = codes "loop"
mark_text Block = codes "block"
mark_text Slot = codes "slot"
mark_text (mark.Latency l) = latency_text l

-- several marks, one behind the other
abbrev pub marks_text : List Mark → List ℕ
marks_text [] = []
marks_text (m ∷ ms) = mark_text m ++ marks_text ms
