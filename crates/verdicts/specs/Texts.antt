-- Verdicts as text. Assumes nothing.
use Rattle.std.specs.Prelude.{ℕ, List, ◌++◌, codes, decimal}
use Rattle.operations.specs.Texts.{violation_text}
use Rattle.verdicts.specs.declared.verdict.Standing.{Standing}
use Rattle.verdicts.specs.declared.verdict.Standing.TheVariants as standing
use Rattle.verdicts.specs.declared.verdict.BlockVerdict.{BlockVerdict}

abbrev pub standing_text : Standing → List ℕ
standing_text standing.Kept = codes "kept"
standing_text (standing.Violated v) = violation_text v
standing_text (standing.Unplaced i) = codes "unplaced " ++ decimal i

abbrev pub block_verdict_text : BlockVerdict → List ℕ
block_verdict_text v = codes "block " ++ (decimal v.block ++ (codes " " ++ standing_text v.standing))
