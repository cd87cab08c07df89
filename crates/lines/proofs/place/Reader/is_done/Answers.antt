use Rattle.std.proofs.Common.{length, ap, arith, length-drop, eq-eqb, eqb-true}
use Rattle.std.proofs.lemmas.List.{nil_from_length}
use Rattle.lines.proofs.place.Reader.is_done.Goals as goal

pub returns : goal.returns
returns c =
    let n = length-drop c.args.self.now.at c.args.self.now.line.now in (
      λ e. nil_from_length _ (omega (arith, eqb-true _ _ e, n)),
      λ e. eq-eqb _ _ (omega (arith, ap length e, n, c.args.self.now.within)),
    )
