-- What a condition says of two words, and what an action writes. Assumes nothing.
use Rattle.std.specs.Prelude.{ℕ, Bool, true, false, cond, not, ◌&&◌, Some, None, Option, ◌==◌, int_le, int_lt, nat_le, nat_lt}
use Rattle.opcodes.specs.Words.{signed}
use Rattle.opcodes.specs.declared.compare.Condition.{Condition}
use Rattle.opcodes.specs.declared.compare.Condition.TheVariants.{Never, Equal, Less, LessEqual, LogicalLess, LogicalLessEqual, Always, NotEqual, GreaterEqual, Greater, LogicalGreaterEqual, LogicalGreater}
use Rattle.opcodes.specs.declared.compare.Action.{Action}
use Rattle.opcodes.specs.declared.compare.Action.TheVariants.{Un, Uc, Cn, Cc, On, Oc, An, Ac}

-- the last six are the complements of the first six
abbrev pub holds : Condition → ℕ → ℕ → Bool
holds Never a b = false
holds Equal a b = a == b
holds Less a b = int_lt (signed a) (signed b)
holds LessEqual a b = int_le (signed a) (signed b)
holds LogicalLess a b = nat_lt a b
holds LogicalLessEqual a b = nat_le a b
holds Always a b = true
holds NotEqual a b = not (a == b)
holds GreaterEqual a b = not (int_lt (signed a) (signed b))
holds Greater a b = not (int_le (signed a) (signed b))
holds LogicalGreaterEqual a b = not (nat_lt a b)
holds LogicalGreater a b = not (nat_le a b)

abbrev only_if : Bool → Bool → Option Bool
only_if acts b = cond acts (Some b) None

-- what an action writes under the guard g where the comparison gave c; None where it leaves its destination alone
abbrev pub written : Action → Bool → Bool → Option Bool
written Un g c = Some (g && c)
written Uc g c = Some (g && not c)
written Cn g c = only_if g c
written Cc g c = only_if g (not c)
written On g c = only_if (g && c) true
written Oc g c = only_if (g && not c) true
written An g c = only_if (g && not c) false
written Ac g c = only_if (g && c) false
