-- The slots of the machine, and how long results take. Assumes nothing.
use Rattle.std.specs.Prelude.{◌≡◌, ℕ, Bool, true, false, cond, ◌&&◌, ◌||◌, List, [], ◌∷◌, ◌++◌, map, take, Some, None, Ok, Err, Option, Result, nat_le, nat_lt, slice_index_or, refl}
use Rattle.std.proofs.lemmas.Bool.{leb-true, and_parts}
use Rattle.operations.specs.declared.access.Class.{Class}
use Rattle.operations.specs.declared.access.Class.TheVariants as class
use Rattle.operations.specs.declared.operation.Form.{Form}
use Rattle.operations.specs.declared.operation.Form.TheVariants.{Binary, Unary, Compare, Load, Store}
use Rattle.operations.specs.declared.operation.Operation.{Operation}
use Rattle.operations.specs.declared.refusal.Refusal.{Refusal}
use Rattle.operations.specs.declared.refusal.Refusal.TheVariants.{NoSuch, BeyondLimit}
use Rattle.blocks.specs.declared.description.Slot.{Slot}
use Rattle.blocks.specs.declared.description.Slots.{Slots}
use Rattle.blocks.specs.declared.description.Bounds.{Bounds}
use Rattle.blocks.specs.declared.description.Description.{Description}
use Rattle.blocks.specs.Steps.{Outcome}

abbrev pub takes_some : Bool → Bool → Bool → Bool
takes_some i m c = i || m || c

abbrev pub slot_for : (i m c b : Bool) → takes_some i m c ≡ b → Option Slot
slot_for i m c true e = Some (record { integer = i; memory = m; compare = c; some = e })
slot_for i m c false e = None

-- the slot that takes these classes: there is none that takes no class
abbrev pub slot_taking : Bool → Bool → Bool → Option Slot
slot_taking i m c = slot_for i m c (takes_some i m c) refl

abbrev pub serves : Slot → Class → Bool
serves s class.Integer = s.integer
serves s class.Memory = s.memory
serves s class.Compare = s.compare

-- the slots of the machine
abbrev pub slots_of : Slots → List Slot
slots_of s = take s.count s.slots

-- one more slot, up to 8
abbrev pub add_slot : Slots → Slot → Outcome (Unit {0}) (List Slot)
add_slot s x = cond (nat_lt s.count 8) (Ok (tt, slots_of s ++ x ∷ [])) (Err NoSuch)

-- slot i, where there is one
abbrev pub slot_at : List Slot → ℕ → Option Slot
slot_at ss i = slice_index_or (map (λ s. Some s) ss) i None

abbrev pub serves_there : Class → Option Slot → Bool
serves_there c None = false
serves_there c (Some s) = serves s c

-- whether there is a slot i, and it takes the class
abbrev pub takes_class : List Slot → ℕ → Class → Bool
takes_class ss i c = serves_there c (slot_at ss i)

-- bounds in order, from 1 to 31
abbrev pub in_order : ℕ → ℕ → Bool
in_order s l = nat_le 1 s && (nat_le s l && nat_le l 31)

abbrev pub bounds_for : (s l : ℕ) (b : Bool) → in_order s l ≡ b → Result Bounds Refusal
bounds_for s l true e =
    let p = and_parts (nat_le 1 s) (nat_le s l && nat_le l 31) e in
    let q = and_parts (nat_le s l) (nat_le l 31) p.1 in
    Ok (record { shortest = s; longest = l; positive = leb-true 1 s p.0; ordered = leb-true s l q.0; few = leb-true l 31 q.1 })
bounds_for s l false e = Err BeyondLimit

abbrev pub bounded : ℕ → ℕ → Result Bounds Refusal
bounded s l = bounds_for s l (in_order s l) refl

abbrev pub form_bounds : Description → Form → Option Bounds
form_bounds d (Binary o to a b) = Some d.integer
form_bounds d (Unary o to a) = Some d.integer
form_bounds d (Compare c t a b) = Some d.compare
form_bounds d (Load to a) = Some d.load
form_bounds d (Store a v) = None

-- how long the result of an operation takes; a store has no result
abbrev pub bounds_of : Description → Operation → Option Bounds
bounds_of d x = form_bounds d x.form
