use Rattle.std.proofs.Common.{◌≡◌, ◌≤◌, drop}
use Rattle.memories.specs.Sections.{place, under}
use Rattle.memories.proofs.packing.find.Given as goal

abbrev pub invariant-loop-s : goal.invariant-loop-s
invariant-loop-s l =
    (l.base ≤ l.room)
    × (under l.room (place l.base (drop l.s-index l.sections) l.word) ≡ under l.room (place 0 l.sections l.word))
