use Rattle.std.proofs.Common.{◌≡◌, ◌<◌, ◌≤◌, leb, length, Ok, Err, sym, ap, ◌∙◌, arith, rules}
use Rattle.std.proofs.lemmas.Bool.{leb-true}
use Rattle.operations.specs.Typing.{typed_of}
use Rattle.blocks.specs.Steps.{answer, after}
use Rattle.blocks.specs.Model.{with_entries, topmost}
use Rattle.blocks.specs.View.{body_of}
use Rattle.blocks.proofs.Moves.{refused, done, add_full, add_done, add_refused, error_from}
use Rattle.blocks.proofs.Positions.{apart_push}
use Rattle.blocks.proofs.block.Block.add.Goals as goal

pub invariant_of-self : goal.invariant_of-self
invariant_of-self c = search (rules, apart_push)

pub returns-then-full : goal.returns-then-full
returns-then-full c =
    let v = c.args.self.now.entries in
    let h : 64 ≤ length v.items = omega (arith, v.ok.0, leb-true 64 c.len-count.result c.if-full.true) in
    let e : typed_of c.args.operation ≡ Ok c.in_ok-operation.operation = search rules in
    refused _ _ _ (add_full (body_of c.args.self.now) c.args.operation _ e h)

pub returns : goal.returns
returns c =
    let b = body_of c.args.self.now in
    let v = c.args.self.now.entries in
    let h : length v.items < 64 = omega (arith, v.ok.0) in
    let e : typed_of c.args.operation ≡ Ok c.in_ok-operation.operation = search rules in
    done _ _ _ _ _ (add_done b c.args.operation _ e h) (c.len-count.ensures ∙ v.ok.0) (ap (with_entries b) c.push_reserved.ensures.items)

pub returns-in_err-operation : goal.returns-in_err-operation
returns-in_err-operation c =
    let b = body_of c.args.self.now in
    let v = c.args.self.now.entries in
    let m = error_from c.typed.result _ _ _ c.map_err.ensures.cases c.in_err-operation.was in
    let e : c.in_err-operation.field-0.0 ≡ topmost m.0 (leb 64 c.len-count.result) = search rules in
    let r : c.from_residual.result ≡ Err c.in_err-operation.field-0.0 = search rules in
    let f = add_refused b c.args.operation m.0 (sym c.typed.ensures.value ∙ m.1) in
    record {
      answered = r ∙ ap (λ x. Err x) (e ∙ ap (λ n. topmost m.0 (leb 64 n)) (c.len-count.ensures ∙ v.ok.0)) ∙ sym (ap answer f);
      left = sym (ap (after b) f);
    }
