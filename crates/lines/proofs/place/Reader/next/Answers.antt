use Rattle.std.proofs.Common.{◌+◌, ◌-◌, length, take, drop, sym, refl, ap, ◌∙◌, subst, arith, length-drop}
use Rattle.lines.specs.Tokens.{token_text, TokenAt}
use Rattle.lines.proofs.Parts.{left_behind}
use Rattle.lines.proofs.place.Reader.next.Goals as goal

pub returns-in_err-token-clause-complete : goal.returns-in_err-token-clause-complete
returns-in_err-token-clause-complete c = λ k rest h. rw c.from_residual.ensures (c.in_err-token.ensures.complete k rest (subst (λ t. TokenAt t k rest) (sym c.rest-text.ensures) h))

pub returns : goal.returns
returns c =
    let L = c.args.self.now.line.now in
    let at = c.args.self.now.at in
    let text = c.rest-text.result.now in
    let rest = c.in_ok-token.rest.now in
    let told = c.in_ok-token.ensures in
    let behind = left_behind L text (token_text c.in_ok-token.token) rest at (length text - length rest) c.rest-text.ensures told.sound.whole refl in
    record {
      line = refl;
      handed = record {
        begins = c.new.ensures.place;
        part = c.new.ensures.part ∙ ap (take (length text - length rest)) c.rest-text.ensures ∙ ap (λ n. take n (drop at L)) (omega arith);
        onward = omega arith;
        within = omega (arith, ap length c.rest-text.ensures, length-drop at L, c.args.self.now.within);
      };
      sound =
          subst (λ k. TokenAt (drop at L) k (drop (at + (length text - length rest)) L)) (sym c.new.ensures.says)
          (subst (λ t. TokenAt t c.in_ok-token.token (drop (at + (length text - length rest)) L)) c.rest-text.ensures (subst (λ r. TokenAt text c.in_ok-token.token r) (sym behind) told.sound));
      complete = λ k r h.
          let p = told.complete k r (subst (λ t. TokenAt t k r) (sym c.rest-text.ensures) h) in
          (c.new.ensures.says ∙ p.0, behind ∙ p.1);
    }
