-- The items of a line. Assumes nothing.
use Rattle.std.specs.Prelude.{◌≡◌, ℕ, List, ◌∷◌, ◌++◌}
use Rattle.std.specs.Fmt.{signed_decimal}
use Rattle.lines.specs.declared.written.Token.{Token}
use Rattle.lines.specs.declared.written.Token.TheVariants as token
use Rattle.lines.specs.Numbers.{ShortLiteral, NoDigit}
use Rattle.lines.specs.Marks.{mark_text}
use Rattle.lines.specs.Written.{name_text, opcode_text, ShortName}

abbrev pub token_text : Token → List ℕ
token_text (token.Register x) = name_text x
token_text (token.Literal z) = signed_decimal z
token_text (token.Opcode o) = opcode_text o
token_text (token.Mark m) = mark_text m

-- an opening bracket comes next
abbrev pub Bracket : List ℕ → Type 0
Bracket rest = (after : List ℕ) × (rest ≡ 40 ∷ after)

-- what may stand behind it: no further digit behind a number, the bracket behind an opcode
abbrev pub Ends : Token → List ℕ → Type 0
Ends (token.Register x) rest = NoDigit rest
Ends (token.Literal z) rest = NoDigit rest
Ends (token.Opcode o) rest = Bracket rest
Ends (token.Mark m) rest = Unit {0}

abbrev pub ShortToken : Token → Type 0
ShortToken (token.Register x) = ShortName x
ShortToken (token.Literal z) = ShortLiteral z
ShortToken (token.Opcode o) = Unit {0}
ShortToken (token.Mark m) = Unit {0}

-- text is the token, and then rest
pub record TokenAt (text : List ℕ) (k : Token) (rest : List ℕ) : Type 0 where
  pub short : ShortToken k
  pub whole : text ≡ token_text k ++ rest
  pub ends : Ends k rest
