-- The operations of a block, and where they are placed. Assumes nothing.
use Rattle.std.specs.Prelude.{◌≡◌, ℕ, zero, suc, ◌+◌, ◌≤◌, Bool, true, false, cond, not, ◌&&◌, ◌||◌, List, [], ◌∷◌, map, length, is_some, Some, None, Option, ◌==◌, nat_lt, slice_index_or, slice_set, refl}
use Rattle.std.proofs.lemmas.Bool.{ltb-true, and_parts}
use Rattle.operations.specs.declared.access.Class.{Class}
use Rattle.operations.specs.declared.access.Class.TheVariants as class
use Rattle.operations.specs.Access.{class_of}
use Rattle.blocks.specs.declared.position.Position.{Position}
use Rattle.blocks.specs.declared.position.Entry.{Entry}
use Rattle.blocks.specs.declared.description.Slot.{Slot}
use Rattle.blocks.specs.Machine.{takes_class}

abbrev pub position_for : (c s : ℕ) (b : Bool) → (nat_lt c 1024 && nat_lt s 8) ≡ b → Option Position
position_for c s true e =
    let p = and_parts (nat_lt c 1024) (nat_lt s 8) e in
    Some (record { cycle = c; slot = s; early = ltb-true c 1024 p.0; narrow = ltb-true s 8 p.1 })
position_for c s false e = None

-- cycle c and slot s: cycles are below 1024, slots below 8
abbrev pub position_at : ℕ → ℕ → Option Position
position_at c s = position_for c s (nat_lt c 1024 && nat_lt s 8) refl

abbrev pub position_of : Entry → Option Position
position_of e = e.position

-- where operation i is placed
abbrev pub placed : List Entry → ℕ → Option Position
placed es i = slice_index_or (map position_of es) i None

abbrev pub cycle_in : Option Position → ℕ
cycle_in None = 0
cycle_in (Some p) = p.cycle

abbrev pub slot_in : Option Position → ℕ
slot_in None = 0
slot_in (Some p) = p.slot

-- its cycle and its slot, where it is placed
abbrev pub cycle_of : List Entry → ℕ → ℕ
cycle_of es i = cycle_in (placed es i)

abbrev pub slot_of : List Entry → ℕ → ℕ
slot_of es i = slot_in (placed es i)

-- the number of the first that is not placed, counted from k
abbrev pub unplaced_from : ℕ → List Entry → Option ℕ
unplaced_from k [] = None
unplaced_from k (e ∷ es) = cond (is_some e.position) (unplaced_from (k + 1) es) (Some k)

-- the lowest operation that is not placed
abbrev pub unplaced_lowest : List Entry → Option ℕ
unplaced_lowest es = unplaced_from 0 es

-- whether both are placed, and in one cycle and slot
abbrev pub clash : Option Position → Option Position → Bool
clash None q = false
clash (Some p) None = false
clash (Some p) (Some q) = p.cycle == q.cycle && p.slot == q.slot

-- no two operations stand in one cycle and slot
abbrev pub Apart : List Entry → Type 0
Apart es = (i j : ℕ) → clash (placed es i) (placed es j) ≡ true → i ≡ j

-- whether one of the positions is p
abbrev pub any_at : Position → List (Option Position) → Bool
any_at p [] = false
any_at p (q ∷ qs) = clash q (Some p) || any_at p qs

-- whether an operation other than i is at p
abbrev pub occupied : List Entry → ℕ → Position → Bool
occupied es i p = any_at p (slice_set (map position_of es) i None)

-- whether operation i may be there, or nowhere
abbrev pub free : List Entry → ℕ → Option Position → Bool
free es i None = true
free es i (Some p) = not (occupied es i p)

abbrev pub entry_class : Entry → Class
entry_class e = class_of e.operation.form

-- the class of operation i
abbrev pub class_at : List Entry → ℕ → Class
class_at es i = slice_index_or (map entry_class es) i class.Integer

abbrev pub fits_position : List Slot → Class → Option Position → Bool
fits_position slots c None = true
fits_position slots c (Some p) = takes_class slots p.slot c

-- whether an operation that is placed stands in a slot that takes its class
abbrev pub fits_slot : List Slot → Entry → Bool
fits_slot slots e = fits_position slots (entry_class e) e.position

abbrev pub AllFit : List Slot → List Entry → Type 0
AllFit slots es = (i : ℕ) → slice_index_or (map (fits_slot slots) es) i true ≡ true

-- what always holds of the operations of a block
pub record WellPlaced (slots : List Slot) (es : List Entry) : Type 0 where
  pub few : length es ≤ 64
  pub apart : Apart es
  pub fit : AllFit slots es

-- the entries, with operation i placed there, or nowhere
abbrev pub put : List Entry → ℕ → Option Position → List Entry
put [] i p = []
put (e ∷ es) zero p = record { operation = e.operation; position = p } ∷ es
put (e ∷ es) (suc i) p = e ∷ put es i p
