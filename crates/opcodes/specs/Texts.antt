-- Opcodes, conditions and actions as text. Assumes nothing.
use Rattle.std.specs.Prelude.{ℕ, List, codes}
use Rattle.opcodes.specs.declared.integer.BinaryOpcode.{BinaryOpcode}
use Rattle.opcodes.specs.declared.integer.BinaryOpcode.TheVariants.{Add, Sub, And, Or, Xor, Shl, Shr, Shra, Min, Max, Minl, Maxl}
use Rattle.opcodes.specs.declared.integer.UnaryOpcode.{UnaryOpcode}
use Rattle.opcodes.specs.declared.integer.UnaryOpcode.TheVariants.{Abs, Move}
use Rattle.opcodes.specs.declared.compare.Condition.{Condition}
use Rattle.opcodes.specs.declared.compare.Condition.TheVariants.{Never, Equal, Less, LessEqual, LogicalLess, LogicalLessEqual, Always, NotEqual, GreaterEqual, Greater, LogicalGreaterEqual, LogicalGreater}
use Rattle.opcodes.specs.declared.compare.Action.{Action}
use Rattle.opcodes.specs.declared.compare.Action.TheVariants.{Un, Uc, Cn, Cc, On, Oc, An, Ac}

abbrev pub binary_text : BinaryOpcode → List ℕ
binary_text Add = codes "ADD"
binary_text Sub = codes "SUB"
binary_text And = codes "AND"
binary_text Or = codes "OR"
binary_text Xor = codes "XOR"
binary_text Shl = codes "SHL"
binary_text Shr = codes "SHR"
binary_text Shra = codes "SHRA"
binary_text Min = codes "MIN"
binary_text Max = codes "MAX"
binary_text Minl = codes "MINL"
binary_text Maxl = codes "MAXL"

abbrev pub unary_text : UnaryOpcode → List ℕ
unary_text Abs = codes "ABS"
unary_text Move = codes "MOVE"

abbrev pub condition_text : Condition → List ℕ
condition_text Never = codes "FA"
condition_text Equal = codes "="
condition_text Less = codes "<"
condition_text LessEqual = codes "<="
condition_text LogicalLess = codes "<<"
condition_text LogicalLessEqual = codes "<<="
condition_text Always = codes "TR"
condition_text NotEqual = codes "<>"
condition_text GreaterEqual = codes ">="
condition_text Greater = codes ">"
condition_text LogicalGreaterEqual = codes ">>="
condition_text LogicalGreater = codes ">>"

abbrev pub action_text : Action → List ℕ
action_text Un = codes "UN"
action_text Uc = codes "UC"
action_text Cn = codes "CN"
action_text Cc = codes "CC"
action_text On = codes "ON"
action_text Oc = codes "OC"
action_text An = codes "AN"
action_text Ac = codes "AC"
