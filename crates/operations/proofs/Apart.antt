-- The destinations of a compare, where they are not one place. Assumes nothing.
use Rattle.std.proofs.Common.{◌≡◌, Bool, true, false, Some, Option, refl, ap, rules}
use mathlib.Core.Bool.{Bool-set}
use Rattle.opcodes.specs.declared.compare.Action.{Action}
use Rattle.operations.specs.declared.targets.Targets.{Targets}
use Rattle.registers.specs.Registers.{Predicate, one_place}
use Rattle.operations.specs.Typing.{apart, targets_of}

abbrev made : (p q : Predicate) (a b : Action) → one_place p q ≡ false → Targets
made p q a b e = record { first = record { to = p; action = a }; second = record { to = q; action = b }; apart = e }

pub targets_there : (p q : Predicate) (a b : Action) (e : one_place p q ≡ false) → ◌≡◌ {A = Option Targets} (Some (made p q a b e)) (targets_of a b (p, q))
targets_there p q a b e = by (one_place p q) refl e
  where
    by : (s : Bool) (h : one_place p q ≡ s) → s ≡ false → ◌≡◌ {A = Option Targets} (Some (made p q a b e)) (apart p q a b s h)
    by true h f = search rules
    by false h f = ap (λ (g : one_place p q ≡ false). Some (made p q a b g)) (Bool-set (one_place p q) false e h)
