use Rattle.std.proofs.Common.{vec_items, ap, ◌∙◌}
use Rattle.std.proofs.lemmas.Result.{err_from_is_err_and}
use Rattle.blocks.specs.Whole.{state_of}
use Rattle.blockcheck_c.specs.Numbers.{numbers_of}
use Rattle.blockcheck_c.proofs.Answering.{made}
use Rattle.blockcheck_c.proofs.entry.numbered.Goals as goal

pub returns-in_err-all : goal.returns-in_err-all
returns-in_err-all c =
    let p = err_from_is_err_and c.from_residual-in_err-all.result c.from_residual-in_err-all.ensures.1 in
    rw (p.1, p.2) (made _ _ (state_of c.in_ok-blocks.blocks) c.in_ok-blocks.ensures)

pub returns-in_err-numbers : goal.returns-in_err-numbers
returns-in_err-numbers c =
    let p = err_from_is_err_and c.from_residual-in_err-numbers.result c.from_residual-in_err-numbers.ensures.1 in
    rw (p.1, p.2) (made _ _ (state_of c.in_ok-blocks.blocks) c.in_ok-blocks.ensures)

pub returns : goal.returns
returns c = record {
  verdicts = vec_items c.in_ok-all.all;
  verdicts_of = record { state = state_of c.in_ok-blocks.blocks; loaded = c.in_ok-blocks.ensures; told = c.in_ok-all.ensures };
  same = c.in_ok-numbers.ensures ∙ ap numbers_of c.as_slice.ensures.value;
}
