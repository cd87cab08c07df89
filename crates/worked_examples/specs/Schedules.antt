-- The scheduled blocks of the table, and what its rows say of them. Assumes nothing.
use Rattle.std.specs.Prelude.{◌≡◌, ℕ, true, List, [], ◌∷◌, replicate, pos, Ok, Err, Result, refl}
use Rattle.std.proofs.Common.{lit<, lit≤}
use Rattle.opcodes.specs.declared.compare.Action.{Action}
use Rattle.opcodes.specs.declared.compare.Action.TheVariants.{Un, On}
use Rattle.opcodes.specs.declared.compare.Condition.{Condition}
use Rattle.opcodes.specs.declared.compare.Condition.TheVariants.{Less, Equal}
use Rattle.opcodes.specs.declared.integer.BinaryOpcode.TheVariants.{Add, Sub}
use Rattle.registers.specs.declared.banked.Banked.TheVariants as banked
use Rattle.registers.specs.Names.{PredicateName}
use Rattle.registers.specs.declared.names.RegisterName.{RegisterName}
use Rattle.registers.specs.declared.names.RegisterName.TheVariants as register_name
use Rattle.registers.specs.declared.register.Register.TheVariants as register
use Rattle.registers.specs.declared.register.Place.{Place}
use Rattle.registers.specs.declared.register.Place.TheVariants as place
use Rattle.operations.specs.declared.raw.Opcode.TheVariants.{Binary, Compare, Load, Store}
use Rattle.operations.specs.declared.raw.Operand.{Operand}
use Rattle.operations.specs.declared.raw.Operand.TheVariants as operand
use Rattle.operations.specs.declared.raw.UpToTwo.TheVariants.{Zero, One, Two}
use Rattle.operations.specs.declared.raw.RawOperation.{RawOperation}
use Rattle.operations.specs.declared.refusal.Refusal.{Refusal}
use Rattle.operations.specs.declared.refusal.Violation.{Violation}
use Rattle.histories.specs.Schedule.{AlwaysSame}
use Rattle.blocks.specs.declared.description.Description.{Description}
use Rattle.blocks.specs.declared.description.Slot.{Slot}
use Rattle.blocks.specs.declared.position.Entry.{Entry}
use Rattle.blocks.specs.Calls.{State, fresh, body_at, add_call, place_call}
use Rattle.blocks.specs.Steps.{Outcome}
use Rattle.checker.specs.Programs.{program_of, schedule_of}
use Rattle.checker.specs.Verdicts.{Shows}

-- takes integer, memory and compare operations
abbrev any_class : Slot
any_class = record { integer = true; memory = true; compare = true; some = refl }

-- two slots that take all classes; an integer result takes 1 cycle, a load 2 to 4, a compare 1 to 2
abbrev pub machine : Description
machine = record {
  slots = record { slots = replicate 8 any_class; count = 2; whole = refl; one = lit≤ tt; few = lit≤ tt };
  integer = record { shortest = 1; longest = 1; positive = lit≤ tt; ordered = lit≤ tt; few = lit≤ tt };
  load = record { shortest = 2; longest = 4; positive = lit≤ tt; ordered = lit≤ tt; few = lit≤ tt };
  compare = record { shortest = 1; longest = 2; positive = lit≤ tt; ordered = lit≤ tt; few = lit≤ tt };
}

-- an operation, and where it is placed
pub record Line : Type 0 where
  pub operation : RawOperation
  pub cycle : ℕ
  pub slot : ℕ

abbrev pub line : RawOperation → ℕ → ℕ → Line
line q c k = record { operation = q; cycle = c; slot = k }

-- goes on from the answer and the state after it; a refusal ends it
abbrev then : {X Y : Type 0} → Outcome X State → (X → State → Result Y Refusal) → Result Y Refusal
then (Ok p) f = f p.0 p.1
then (Err e) f = Err e

-- each operation in turn is added to block 0 and placed; then what block 0 holds
abbrev entered : State → List Line → Result (List Entry) Refusal
entered s [] = Ok (body_at s 0).entries
entered s (x ∷ xs) = then (add_call s 0 x.operation) (λ i t. then (place_call t 0 i x.cycle x.slot) (λ _ u. entered u xs))

-- the block of these lines, if no call is refused
abbrev pub block_of : List Line → Result (List Entry) Refusal
block_of xs = entered (fresh machine) xs

-- no call is refused, and at every timing and every choice of withheld writes each place has its history in written order
pub record Keeps (xs : List Line) : Type 0 where
  pub entries : List Entry
  pub taken : block_of xs ≡ Ok entries
  pub same : AlwaysSame (program_of machine entries) (schedule_of entries)

-- no call is refused, and this violation is there and shows
pub record Violates (xs : List Line) (v : Violation) : Type 0 where
  pub entries : List Entry
  pub taken : block_of xs ≡ Ok entries
  pub shows : Shows (program_of machine entries) (schedule_of entries) 2 v
  -- so not all histories are those of written order
  pub not_same : ¬ AlwaysSame (program_of machine entries) (schedule_of entries)

-- registers as they are named
abbrev general_named : ℕ → RegisterName
general_named n = register_name.General (banked.Static n)

abbrev predicate_named : ℕ → RegisterName
predicate_named n = register_name.Predicate (banked.Static n)

abbrev from : ℕ → Operand
from n = operand.Register (general_named n)

abbrev literal : ℕ → Operand
literal n = operand.Literal (pos n)

-- p1 reads 1
abbrev always : PredicateName
always = banked.Static 1

-- the places of the table
abbrev pub r1 : Place
r1 = place.Register (register.General (banked.Static (record { number = 1; below = lit< tt })))

abbrev pub p2 : Place
p2 = place.Register (register.Predicate (banked.Static (record { number = 2; below = lit< tt })))

-- rN = L(rA)
abbrev load : ℕ → ℕ → RawOperation
load n a = record { opcode = Load; guard = always; destinations = One (general_named n); sources = One (from a) }

-- S(rA, rV)
abbrev store : ℕ → ℕ → RawOperation
store a v = record { opcode = Store; guard = always; destinations = Zero; sources = Two (from a) (from v) }

-- pN, p0 = CMPP.W.CONDITION.ACTION.UN(a, b)
abbrev compare : ℕ → Condition → Action → Operand → Operand → RawOperation
compare n c x a b = record { opcode = Compare c x Un; guard = always; destinations = Two (predicate_named n) (predicate_named 0); sources = Two a b }

-- r3 = ADD.W(r1, 1)
abbrev add_one : RawOperation
add_one = record { opcode = Binary Add; guard = always; destinations = One (general_named 3); sources = Two (from 1) (literal 1) }

-- r5 = SUB.W(0, r5) if p2
abbrev negate : RawOperation
negate = record { opcode = Binary Sub; guard = banked.Static 2; destinations = One (general_named 5); sources = Two (literal 0) (from 5) }

-- 0: r1 = L(r2) in cycle 0
-- 1: r3 = ADD.W(r1, 1) in cycle c
abbrev pub load_then_add : ℕ → List Line
load_then_add c = line (load 1 2) 0 0 ∷ line add_one c 0 ∷ []

-- 0: p2, p0 = CMPP.W.<.UN.UN(r1, 0) in cycle 0
-- 1: r5 = SUB.W(0, r5) if p2 in cycle 2
-- 2: p2, p0 = CMPP.W.<.UN.UN(r4, 0) in cycle c, slot k
abbrev pub two_signs : ℕ → ℕ → List Line
two_signs c k = line (compare 2 Less Un (from 1) (literal 0)) 0 0 ∷ line negate 2 0 ∷ line (compare 2 Less Un (from 4) (literal 0)) c k ∷ []

-- 0: S(r1, r2) in cycle 0, slot k
-- 1: r3 = L(r1) in cycle 0, slot m
abbrev pub store_and_load : ℕ → ℕ → List Line
store_and_load k m = line (store 1 2) 0 k ∷ line (load 3 1) 0 m ∷ []

-- 0 and 1: p2, p0 = CMPP.W.=.ON.UN(r1, r2) in cycle 0, slots 0 and 1
abbrev pub two_ors : List Line
two_ors = line (compare 2 Equal On (from 1) (from 2)) 0 0 ∷ line (compare 2 Equal On (from 1) (from 2)) 0 1 ∷ []
