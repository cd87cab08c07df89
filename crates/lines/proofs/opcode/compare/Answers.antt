use Rattle.std.proofs.Common.{codes, sym, ◌∙◌}
use Rattle.std.proofs.lemmas.List.{append_cancel_left}
use Rattle.lines.proofs.Founds.{none_begins}
use Rattle.lines.proofs.OpcodeTexts.{compared, compare_at, as_compare}
use Rattle.lines.proofs.opcode.compare.Goals as goal

pub returns-in_err-when : goal.returns-in_err-when
returns-in_err-when c = none_begins _ _ c.from_residual.ensures (λ o rest h. let i = compared _ o rest h in c.in_err-when.ensures.complete i.when _ i.whole)

pub returns-in_err-after_word : goal.returns-in_err-after_word
returns-in_err-after_word c = none_begins _ _ c.from_residual-in_err-after_word.ensures (λ o rest h.
    let i = compared _ o rest h in
    let e = c.in_ok-when.ensures.complete i.when _ i.whole in
    let f = c.in_ok-first.ensures.complete i.first _ e.1 in
    c.in_err-after_word.ensures _ f.1)

pub returns-in_err-second : goal.returns-in_err-second
returns-in_err-second c = none_begins _ _ c.from_residual-in_err-second.ensures (λ o rest h.
    let i = compared _ o rest h in
    let e = c.in_ok-when.ensures.complete i.when _ i.whole in
    let f = c.in_ok-first.ensures.complete i.first _ e.1 in
    let g = append_cancel_left (codes ".") _ _ (sym c.in_ok-after_word.ensures ∙ f.1) in
    c.in_err-second.ensures.complete i.second _ g)

pub returns-in_err-after_word-2 : goal.returns-in_err-after_word-2
returns-in_err-after_word-2 c = none_begins _ _ c.from_residual-in_err-after_word-2.ensures (λ o rest h.
    let i = compared _ o rest h in
    let e = c.in_ok-when.ensures.complete i.when _ i.whole in
    let f = c.in_ok-first.ensures.complete i.first _ e.1 in
    let g = append_cancel_left (codes ".") _ _ (sym c.in_ok-after_word.ensures ∙ f.1) in
    let k = c.in_ok-second.ensures.complete i.second _ g in
    c.in_err-after_word-2.ensures i.ends.0 (k.1 ∙ i.ends.1))

pub returns : goal.returns
returns c = record {
  sound =
      compare_at c.args.text.now _ _ _ c.in_ok-when.actions.now c.in_ok-first.point.now c.in_ok-after_word.field-0.now c.in_ok-second.rest.now c.in_ok-when.ensures.sound
      c.in_ok-first.ensures.sound c.in_ok-after_word.ensures c.in_ok-second.ensures.sound (c.in_ok-after_word-2.field-0.now, c.in_ok-after_word-2.ensures);
  complete = λ o rest h.
      let i = compared _ o rest h in
      let e = c.in_ok-when.ensures.complete i.when _ i.whole in
      let f = c.in_ok-first.ensures.complete i.first _ e.1 in
      let g = append_cancel_left (codes ".") _ _ (sym c.in_ok-after_word.ensures ∙ f.1) in
      let k = c.in_ok-second.ensures.complete i.second _ g in
      (as_compare _ _ _ _ _ _ o e.0 f.0 k.0 i.is, k.1);
}
