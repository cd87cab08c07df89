use Rattle.std.specs.Prelude.{ℕ, ◌+◌, ◌-◌, ◌%◌, Bool, ◌&&◌, ◌==◌, nat_le, nat_lt}
use Rattle.memories.specs.declared.section.Section.{Section}

-- an address in a section
abbrev pub inside : Section → ℕ → Bool
inside s a = nat_le s.offset a && nat_lt (a - s.offset) s.length

-- whole words, at least one, that end at 2^32 or before
abbrev pub right : Section → Bool
right s = s.offset % 4 == 0 && s.length % 4 == 0 && nat_lt 0 s.length && nat_le (s.offset + s.length) 4294967296
