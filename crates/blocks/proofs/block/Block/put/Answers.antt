use Rattle.std.proofs.Common.{◌<◌, length, ap, arith, rules}
use Rattle.blocks.specs.Model.{with_entries}
use Rattle.blocks.specs.View.{body_of}
use Rattle.blocks.proofs.Positions.{set_put, apart_set, clear}
use Rattle.blocks.proofs.block.Block.put.Goals as goal

pub invariant_of-self : goal.invariant_of-self
invariant_of-self c =
    let v = c.args.self.now.entries in
    let h : c.args.i < length v.items = omega (arith, v.ok.0) in
    record {
      few = search rules;
      room = search rules;
      apart = apart_set _ _ _ _ c.index_mut.ensures.value h (clear v.items c.args.i c.args.position c.requires.1) c.args.self.now.apart;
    }

pub returns : goal.returns
returns c =
    let v = c.args.self.now.entries in
    ap (with_entries (body_of c.args.self.now)) (set_put v.items c.args.i c.index_mut.result.now c.args.position c.index_mut.ensures.value)
