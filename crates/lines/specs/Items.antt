-- The items that a reader hands out. Assumes nothing.
use Rattle.std.specs.Prelude.{◌≡◌, ℕ, ◌-◌, ◌≤◌, List, length, take, drop}
use Rattle.lines.specs.declared.item.Item.{Item}
use Rattle.lines.specs.declared.item.Item.TheVariants.{Register, Literal, Opcode, Mark}
use Rattle.lines.specs.declared.place.Reader.{Reader}
use Rattle.lines.specs.declared.written.Token.{Token}
use Rattle.lines.specs.declared.written.Token.TheVariants as token

abbrev pub item_token : Item → Token
item_token (Register x text at) = token.Register x
item_token (Literal z text at) = token.Literal z
item_token (Opcode o text at) = token.Opcode o
item_token (Mark m text at) = token.Mark m

abbrev pub item_text : Item → List ℕ
item_text (Register x text at) = text.now
item_text (Literal z text at) = text.now
item_text (Opcode o text at) = text.now
item_text (Mark m text at) = text.now

abbrev pub item_place : Item → ℕ
item_place (Register x text at) = at
item_place (Literal z text at) = at
item_place (Opcode o text at) = at
item_place (Mark m text at) = at

-- what a reader has not handed out
abbrev pub left : Reader → List ℕ
left r = drop r.at r.line.now

-- the item is the part of the line from one place to another
pub record Handed (i : Item) (line : List ℕ) (from to : ℕ) : Type 0 where
  pub begins : item_place i ≡ from
  pub part : item_text i ≡ take (to - from) (drop from line)
  pub onward : from ≤ to
  pub within : to ≤ length line
