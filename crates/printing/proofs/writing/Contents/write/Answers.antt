use Rattle.std.proofs.Common.{[], ◌∷◌, ◌++◌, map, string_bytes, ap, ◌∙◌, arith}
use Rattle.std.proofs.lemmas.Result.{on_ok_weaker}
use Rattle.lines.specs.declared.written.ProgramLine.TheVariants as line
use Rattle.printing.specs.Written.{entry_line, written_exit}
use Rattle.printing.specs.Sets.{line_ended}
use Rattle.printing.specs.Printed.{Held}
use Rattle.printing.proofs.Operations.{entry_same}
use Rattle.printing.proofs.Loops.{printed_more, printed_all, printed_three}
use Rattle.printing.proofs.writing.Contents.write.Goals as goal

pub loop-entry-preserved : goal.loop-entry-preserved
loop-entry-preserved c =
    printed_more (λ e. line_ended (entry_line e)) Held _ _ _ c.args.self.entries.now c.loop-entry.entry-index c.entry-item.result (omega arith) c.entry-item.is c.loop-entry.invariant
    (c.in_ok-writeln.ensures.bytes ∙ ap (λ l. string_bytes c.loop-entry.out ++ (l ++ 10 ∷ [])) (entry_same c.entry-item.result)) c.held.ensures

pub returns : goal.returns
returns c =
    let all = printed_all line_ended entry_line Held _ _ c.args.self.entries.now c.loop-entry.entry-index (omega arith) c.loop-entry.invariant in
    on_ok_weaker c.writeln-2.result
    (printed_three line_ended (line.Block c.args.block) (map entry_line c.args.self.entries.now) (line.Exit (written_exit c.args.self.exit)) _ _ _ _ c.in_ok-write_head.ensures all)
    c.writeln-2.ensures.bytes
