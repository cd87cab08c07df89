use Rattle.std.proofs.Common.{◌≡◌, MatchOption, Some, rules, refl, arith}
use Rattle.lines.specs.declared.written.Token.TheVariants as token
use Rattle.lines.proofs.Leads.{Tried, Partly, mark_of, register_of, literal_of, opcode_of, tried, tried_next, turn, all_kinds}
use Rattle.lines.proofs.token.token.Goals as goal

marks : (c : goal.After-or_else-3) → Tried token.Mark c.args.text.now c.map.result
marks c = (c.mark.result, c.mark.ensures, search rules)

names : (c : goal.After-or_else-3) → MatchOption c.map.result (Tried token.Register c.args.text.now c.or_else.result) (λ x. c.or_else.result ≡ Some x)
names c = turn _ _ _ _ _ (λ e. search rules) c.or_else.ensures

literals : (c : goal.After-or_else-3) → MatchOption c.or_else.result (Tried token.Literal c.args.text.now c.or_else-2.result) (λ x. c.or_else-2.result ≡ Some x)
literals c = turn _ _ _ _ _ (λ e. search rules) c.or_else-2.ensures

opcodes : (c : goal.After-or_else-3) → MatchOption c.or_else-2.result (Tried token.Opcode c.args.text.now c.or_else-3.result) (λ x. c.or_else-3.result ≡ Some x)
opcodes c = turn _ _ _ _ _ (λ e. search rules) c.or_else-3.ensures

pub returns : goal.returns
returns c =
    let t = c.args.text.now in
    let a : Partly 1 t c.map.result = tried token.Mark 0 (λ _. refl) mark_of t _ (λ k rest h. omega arith) (marks c) in
    let b : Partly 2 t c.or_else.result = tried_next token.Register 1 (λ _. refl) register_of t _ _ a (names c) in
    let d : Partly 3 t c.or_else-2.result = tried_next token.Literal 2 (λ _. refl) literal_of t _ _ b (literals c) in
    all_kinds t _ (tried_next token.Opcode 3 (λ _. refl) opcode_of t _ _ d (opcodes c))
