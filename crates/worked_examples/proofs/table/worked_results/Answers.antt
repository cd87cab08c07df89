use Rattle.std.proofs.Common.{refl}
use Rattle.worked_examples.proofs.Deciding.{keeps, violates}
use Rattle.worked_examples.proofs.table.worked_results.Goals as goal

pub returns : goal.returns
returns c = record {
  abs_of_least = refl;
  sign_copied = refl;
  signed_less = refl;
  unsigned_less = refl;
  used_too_early = violates _ _ refl;
  used_in_time = keeps _ refl;
  sign_lost = violates _ _ refl;
  signs_crossed = violates _ _ refl;
  signs_in_turn = keeps _ refl;
  stored_then_loaded = keeps _ refl;
  loaded_then_stored = violates _ _ refl;
  ors_together = violates _ _ refl;
}
