-- What an operation does with the values that it has read. Assumes nothing.
use Rattle.std.specs.Prelude.{ℕ, Bool, true, false, cond, None, Option}
use Rattle.std.specs.Option.{option_map, option_flatten}
use Rattle.opcodes.specs.Words.{binary_result, unary_result}
use Rattle.opcodes.specs.Compares.{holds, written}
use Rattle.opcodes.specs.declared.compare.Action.{Action}
use Rattle.opcodes.specs.declared.compare.Action.TheVariants.{Un, Uc, Cn, Cc, On, Oc, An, Ac}
use Rattle.registers.specs.declared.write.Write.{Write}
use Rattle.registers.specs.Writes.{word_write, bit_write}
use Rattle.operations.specs.declared.effect.Effect.{Effect}
use Rattle.operations.specs.declared.effect.Effect.TheVariants as effect
use Rattle.operations.specs.declared.operation.Form.{Form}
use Rattle.operations.specs.declared.operation.Form.TheVariants.{Binary, Unary, Compare, Load, Store}
use Rattle.operations.specs.declared.targets.Target.{Target}

-- what a destination of a compare gets under the guard g, where the comparison gave c
abbrev pub target_write : Target → Bool → Bool → Option Write
target_write t g c = option_flatten (option_map (bit_write t.to) (written t.action g c))

abbrev nothing : Effect
nothing = effect.Writes None None

-- the guard reads g, and sources 1 and 2 give a and b
abbrev pub effect_of : Form → Bool → ℕ → ℕ → Effect
effect_of (Binary o to _ _) g a b = cond g (effect.Writes (word_write to (binary_result o a b)) None) nothing
effect_of (Unary o to _) g a b = cond g (effect.Writes (word_write to (unary_result o a)) None) nothing
effect_of (Compare c t _ _) g a b = effect.Writes (target_write t.first g (holds c a b)) (target_write t.second g (holds c a b))
effect_of (Load to _) g a b = cond g (effect.Load to a) nothing
effect_of (Store _ _) g a b = cond g (effect.Store a b) nothing

-- with guard 0: only UN and UC act, and both write 0
abbrev pub unconditional : Action → Bool
unconditional Un = true
unconditional Uc = true
unconditional Cn = false
unconditional Cc = false
unconditional On = false
unconditional Oc = false
unconditional An = false
unconditional Ac = false

abbrev pub cleared : Target → Option Write
cleared t = cond (unconditional t.action) (bit_write t.to false) None

abbrev pub unguarded : Form → Effect
unguarded (Binary o to _ _) = nothing
unguarded (Unary o to _) = nothing
unguarded (Compare c t _ _) = effect.Writes (cleared t.first) (cleared t.second)
unguarded (Load to _) = nothing
unguarded (Store _ _) = nothing
