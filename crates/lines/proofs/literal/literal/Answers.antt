use Rattle.std.proofs.Common.{◌≡◌, ◌-◌, negsuc, sym, ◌∙◌, subst, arith, w64, SFits, to_z, of_z, rules}
use Rattle.std.proofs.lemmas.Int.{to_z-of_z}
use Rattle.lines.specs.declared.written.Token.TheVariants as token
use Rattle.lines.specs.Tokens.{TokenAt}
use Rattle.lines.proofs.LiteralTexts.{negative, negative_at}
use Rattle.lines.proofs.literal.literal.Goals as goal

pub returns-then-n-lt-LEAST_NEGATED : goal.returns-then-n-lt-LEAST_NEGATED
returns-then-n-lt-LEAST_NEGATED c = record {
  sound = tt;
  complete = λ z rest h. omega (arith, (negative _ _ _ z rest c.in-Some.ensures.sound h).0);
}

pub returns-in-Some : goal.returns-in-Some
returns-in-Some c =
    let f = c.in-Some.ensures.sound in
    let fit : SFits w64 c.negated.result = search (rules, c.negated.ensures, f.small) in
    let back : to_z w64 (of_z w64 c.negated.result) ≡ negsuc (c.in-Some.n - 1) = to_z-of_z w64 c.negated.result fit ∙ c.negated.ensures in
    record {
      sound = subst (λ z. TokenAt c.args.text.now (token.Literal z) c.in-Some.rest.now) (sym back) (negative_at _ _ _ (omega arith) f);
      complete = λ z rest h. let e = negative _ _ _ z rest f h in (back ∙ e.1, e.2);
    }
