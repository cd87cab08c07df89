use Rattle.std.proofs.Common.{◌/◌, None, sym, ap, ◌∙◌, arith}
use Rattle.std.proofs.lemmas.List.{drop_all}
use Rattle.memories.specs.Sections.{place, under}
use Rattle.memories.proofs.Packed.{past_next, index_is, index_under}
use Rattle.memories.proofs.packing.find.Goals as goal

pub returns-then-s-room : goal.returns-then-s-room
returns-then-s-room c =
    let n = c.args.room in
    let e = past_next _ _ _ _ _ n c.loop-s-test.true (sym c.holds_word.ensures ∙ c.if-holds_word.false) (omega arith) in
    let i = index_is c.args.sections.now n c.args.address None c.if-address-ne0.false (sym e ∙ c.loop-s.invariant.1) in
    record { is = i; below = index_under c.args.sections.now n c.args.address None i }

pub returns : goal.returns
returns c =
    let n = c.args.room in
    let e = ap (λ l. under n (place c.loop-s.base l (c.args.address / 4))) (drop_all _ _ c.loop-s-test.false) in
    let i = index_is c.args.sections.now n c.args.address None c.if-address-ne0.false (sym e ∙ c.loop-s.invariant.1) in
    record { is = i; below = index_under c.args.sections.now n c.args.address None i }
