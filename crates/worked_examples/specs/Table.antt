-- The table of worked results. Assumes nothing.
use Rattle.std.specs.Prelude.{◌≡◌, ℤ, pos, negsuc}
use Rattle.opcodes.specs.Words.{word, binary_result, unary_result}
use Rattle.opcodes.specs.declared.integer.BinaryOpcode.{BinaryOpcode}
use Rattle.opcodes.specs.declared.integer.BinaryOpcode.TheVariants.{Shra, Min, Minl}
use Rattle.opcodes.specs.declared.integer.UnaryOpcode.{UnaryOpcode}
use Rattle.opcodes.specs.declared.integer.UnaryOpcode.TheVariants.{Abs}
use Rattle.registers.specs.declared.register.Place.TheVariants as place
use Rattle.operations.specs.declared.refusal.Dependence.TheVariants.{Flow, Anti, Output, Memory}
use Rattle.worked_examples.specs.Schedules.{Keeps, Violates, r1, p2, load_then_add, two_signs, store_and_load, two_ors}

-- an opcode at signed operands gives a signed result, all as words; `negsuc n` is -1 - n
abbrev pub Gives : BinaryOpcode → ℤ → ℤ → ℤ → Type 0
Gives o a b r = binary_result o (word a) (word b) ≡ word r

abbrev pub GivesOfOne : UnaryOpcode → ℤ → ℤ → Type 0
GivesOfOne o a r = unary_result o (word a) ≡ word r

-- rows are added here as there is more to work
pub record WorkedResults : Type 0 where
  -- ABS of -2147483648 is itself
  pub abs_of_least : GivesOfOne Abs (negsuc 2147483647) (negsuc 2147483647)
  -- SHRA(-1, 40) is -1
  pub sign_copied : Gives Shra (negsuc 0) (pos 40) (negsuc 0)
  -- MIN(-1, 0) is -1
  pub signed_less : Gives Min (negsuc 0) (pos 0) (negsuc 0)
  -- MINL(-1, 0) is 0
  pub unsigned_less : Gives Minl (negsuc 0) (pos 0) (pos 0)
  -- a load takes 2 to 4 cycles: its result may be used in cycle 4, and not in cycle 3
  pub used_too_early : Violates (load_then_add 3) (record { dependence = Flow; place = r1; first = 0; second = 1; least = 4 })
  pub used_in_time : Keeps (load_then_add 4)
  -- the lost sign: in cycle 1 a second sign goes to p2, where the first is used in cycle 2
  pub sign_lost : Violates (two_signs 1 0) (record { dependence = Anti; place = p2; first = 1; second = 2; least = 2 })
  pub signs_crossed : Violates (two_signs 1 0) (record { dependence = Output; place = p2; first = 0; second = 2; least = 2 })
  pub signs_in_turn : Keeps (two_signs 2 1)
  -- a store and a load in one cycle act in the order of their slots
  pub stored_then_loaded : Keeps (store_and_load 0 1)
  pub loaded_then_stored : Violates (store_and_load 1 0) (record { dependence = Memory; place = place.Memory; first = 0; second = 1; least = 1 })
  -- two compares with ON may not write p2 in one cycle
  pub ors_together : Violates two_ors (record { dependence = Output; place = p2; first = 0; second = 1; least = 2 })
