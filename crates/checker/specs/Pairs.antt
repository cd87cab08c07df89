-- The dependences of one placed operation on an earlier one. Assumes nothing.
use Rattle.std.specs.Prelude.{◌≡◌, ℕ, ◌+◌, ◌-◌, ◌<◌, Bool, true, false, cond, not, ◌&&◌, ◌||◌, List, [], ◌∷◌, length, Option, ◌==◌, nat_le, nat_lt, slice_index_or}
use Rattle.operations.specs.declared.refusal.Violation.{Violation}
use Rattle.operations.specs.declared.refusal.Dependence.{Dependence}
use Rattle.operations.specs.declared.refusal.Dependence.TheVariants.{Flow, Anti, Output, Memory}
use Rattle.operations.specs.Access.{among, read_list, write_list}
use Rattle.registers.specs.declared.register.Register.{Register}
use Rattle.registers.specs.declared.register.Place.{Place}
use Rattle.registers.specs.declared.register.Place.TheVariants as place
use Rattle.registers.specs.Registers.{is_place}
use Rattle.checker.specs.declared.placed.Placed.{Placed}

abbrev pub reads_at : Place → Placed → Bool
reads_at x a = among x (read_list a.reads)

abbrev pub writes_at : Place → Placed → Bool
writes_at x a = among x (write_list a.writes)

-- whether b, the later one, depends on a in this way, at this place
abbrev pub linked : Dependence → Place → Placed → Placed → Bool
linked Flow x a b = writes_at x a && reads_at x b
linked Anti x a b = reads_at x a && writes_at x b
linked Output x a b = writes_at x a && writes_at x b
linked Memory x a b = (writes_at x a && (writes_at x b || reads_at x b)) || (reads_at x a && writes_at x b)

-- whether such a dependence holds
abbrev pub holds : Dependence → Placed → Placed → Bool
holds Flow a b = nat_le (a.cycle + a.longest) b.cycle
holds Anti a b = nat_lt a.cycle (b.cycle + b.shortest)
holds Output a b = nat_lt (a.cycle + a.longest) (b.cycle + b.shortest)
holds Memory a b = nat_lt a.cycle b.cycle || (a.cycle == b.cycle && nat_lt a.slot b.slot)

abbrev pub broken : Dependence → Place → Placed → Placed → Bool
broken k x a b = linked k x a b && not (holds k a b)

-- the least cycle of b at which it holds; `last` is the machine's last slot
abbrev pub least_for : Dependence → ℕ → Placed → Placed → ℕ
least_for Flow last a b = a.cycle + a.longest
least_for Anti last a b = a.cycle + 1 - b.shortest
least_for Output last a b = a.cycle + a.longest + 1 - b.shortest
least_for Memory last a b = cond (a.slot == last) (a.cycle + 1) a.cycle

-- no dependence at the register x is broken
pub record Unbroken (x : Register) (a b : Placed) : Type 0 where
  pub flow : broken Flow (place.Register x) a b ≡ false
  pub anti : broken Anti (place.Register x) a b ≡ false
  pub output : broken Output (place.Register x) a b ≡ false

-- whether a dependence is one of registers
abbrev pub of_registers : Dependence → Bool
of_registers Flow = true
of_registers Anti = true
of_registers Output = true
of_registers Memory = false

abbrev pub is_register : Place → Bool
is_register (place.Register x) = true
is_register place.Memory = false

-- this dependence is broken at this place
pub record Breaks (k : Dependence) (p : Place) (a b : Placed) : Type 0 where
  pub kind : of_registers k ≡ is_register p
  pub so : broken k p a b ≡ true

-- every dependence of b on a holds
pub record PairKept (a b : Placed) : Type 0 where
  pub registers : (x : Register) → Unbroken x a b
  pub memory : broken Memory place.Memory a b ≡ false

-- what a writes and reads, part by part
abbrev pub parts_of : Placed → List (Option Place)
parts_of a = a.writes.first ∷ a.writes.second ∷ a.writes.memory ∷ a.reads.guard ∷ a.reads.first ∷ a.reads.second ∷ a.reads.memory ∷ []

-- at each register that is the part, no dependence is broken
abbrev pub PartKept : Option Place → Placed → Placed → Type 0
PartKept part a b = (x : Register) → is_place (place.Register x) part ≡ true → Unbroken x a b

-- the dependences of operation j on those below i hold
abbrev pub KeptBefore : List Placed → ℕ → ℕ → Type 0
KeptBefore ps i j = (m : ℕ) (d : Placed) → m < i → PairKept (slice_index_or ps m d) (slice_index_or ps j d)

-- the dependences of operation j on operation i hold
pub record KeptAt (ps : List Placed) (i j : ℕ) : Type 0 where
  pub each : (d : Placed) → PairKept (slice_index_or ps i d) (slice_index_or ps j d)

-- the dependences of operation j on all before it hold
pub record KeptFrom (ps : List Placed) (j : ℕ) : Type 0 where
  pub before : KeptBefore ps j j

-- all dependences among the operations below n hold
abbrev pub AllKept : List Placed → ℕ → Type 0
AllKept ps n = (j : ℕ) → j < n → KeptBefore ps j j

-- a violation that is there
pub record Found (last : ℕ) (ps : List Placed) (v : Violation) : Type 0 where
  pub before : v.first < v.second
  pub within : v.second < length ps
  pub breaks : (d : Placed) → Breaks v.dependence v.place (slice_index_or ps v.first d) (slice_index_or ps v.second d)
  pub least : (d : Placed) → v.least ≡ least_for v.dependence last (slice_index_or ps v.first d) (slice_index_or ps v.second d)
