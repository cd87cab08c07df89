-- What check says of each block that has operations. Assumes nothing.
use Rattle.std.specs.Prelude.{◌≡◌, ℕ, ◌+◌, ◌≤◌, Bool, cond, ◌&&◌, List, [], ◌∷◌, ◌++◌, map, length, Ok, Err, Result, nat_lt}
use Rattle.std.specs.List.{AllByRecursion}
use Rattle.blocks.specs.Model.{Body}
use Rattle.blocks.specs.Calls.{State, body_at}
use Rattle.operations.specs.declared.refusal.Refusal.{Refusal}
use Rattle.operations.specs.declared.refusal.Refusal.TheVariants.{Unplaced}
use Rattle.checker.specs.declared.verdict.Verdict.{Verdict}
use Rattle.checker.specs.declared.verdict.Verdict.TheVariants as verdict
use Rattle.checker.specs.Checks.{Checked}
use Rattle.verdicts.specs.declared.verdict.Standing.{Standing}
use Rattle.verdicts.specs.declared.verdict.Standing.TheVariants as standing
use Rattle.verdicts.specs.declared.verdict.BlockVerdict.{BlockVerdict}

-- whether block n, one of sixteen, has operations
abbrev pub filled : State → ℕ → Bool
filled s n = nat_lt n 16 && nat_lt 0 (length (body_at s n).entries)

-- the numbers of the blocks that have operations, ascending, the first of them being block n
abbrev pub filled_from : ℕ → List Body → List ℕ
filled_from n [] = []
filled_from n (b ∷ bs) = cond (nat_lt 0 (length b.entries)) (n ∷ []) [] ++ filled_from (n + 1) bs

abbrev pub block_of : BlockVerdict → ℕ
block_of v = v.block

-- what check answers where a block stands so
abbrev pub answer_of : Standing → Result Verdict Refusal
answer_of standing.Kept = Ok verdict.Kept
answer_of (standing.Violated v) = Ok (verdict.Violated v)
answer_of (standing.Unplaced i) = Err (Unplaced i)

-- one verdict for each of these blocks, in their order, and each is what check may answer
pub record Told (s : State) (vs : List BlockVerdict) : Type 0 where
  pub all : map block_of vs ≡ filled_from 0 s.bodies
  pub each : AllByRecursion (λ v. Checked s v.block (answer_of v.standing)) vs
  pub few : length vs ≤ 16
