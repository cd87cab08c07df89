-- What an operation does under guard 0. Assumes nothing.
use Rattle.std.proofs.Common.{◌≡◌, ℕ, Bool, false, cond, None, refl, ap, ◌∙◌}
use Rattle.std.specs.Option.{option_map, option_flatten}
use Rattle.opcodes.specs.Compares.{holds, written}
use Rattle.opcodes.specs.declared.compare.Action.{Action}
use Rattle.opcodes.specs.declared.compare.Action.TheVariants.{Un, Uc, Cn, Cc, On, Oc, An, Ac}
use Rattle.registers.specs.Registers.{Predicate}
use Rattle.registers.specs.Writes.{bit_write}
use Rattle.operations.specs.declared.effect.Effect.TheVariants as effect
use Rattle.operations.specs.declared.operation.Form.{Form}
use Rattle.operations.specs.declared.operation.Form.TheVariants.{Binary, Unary, Compare, Load, Store}
use Rattle.operations.specs.declared.targets.Target.{Target}
use Rattle.operations.specs.Effects.{target_write, effect_of, unguarded, unconditional, cleared}

written_idle : (a : Action) (to : Predicate) (c : Bool) →
    option_flatten (option_map (bit_write to) (written a false c)) ≡ cond (unconditional a) (bit_write to false) None
written_idle Un to c = refl
written_idle Uc to c = refl
written_idle Cn to c = refl
written_idle Cc to c = refl
written_idle On to c = refl
written_idle Oc to c = refl
written_idle An to c = refl
written_idle Ac to c = refl

target_idle : (t : Target) (c : Bool) → target_write t false c ≡ cleared t
target_idle t c = written_idle t.action t.to c

effect_idle : (f : Form) (a b : ℕ) → effect_of f false a b ≡ unguarded f
effect_idle (Binary _ _ _ _) a b = refl
effect_idle (Unary _ _ _) a b = refl
effect_idle (Compare c t _ _) a b =
    ap (λ x. effect.Writes x (target_write t.second false (holds c a b))) (target_idle t.first (holds c a b))
    ∙ ap (λ y. effect.Writes (cleared t.first) y) (target_idle t.second (holds c a b))
effect_idle (Load _ _) a b = refl
effect_idle (Store _ _) a b = refl

pub idle : (f : Form) (g : Bool) (a b : ℕ) → g ≡ false → effect_of f g a b ≡ unguarded f
idle f g a b h = ap (λ x. effect_of f x a b) h ∙ effect_idle f a b
