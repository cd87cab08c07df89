-- What sources answer for the number of an operation and two bounds. Assumes nothing.
use Rattle.std.specs.Prelude.{ℕ, ◌+◌, ◌-◌, ◌%◌, ◌^◌}

-- for an operation's number, the shortest and the longest
abbrev pub Table : Type 0
Table = ℕ → ℕ → ℕ → ℕ

abbrev pub longest_table : Table
longest_table operation shortest longest = longest

-- the latencies between the bounds in turn, each operation one further than the one before
abbrev pub stepped_table : ℕ → Table
stepped_table turns operation shortest longest = shortest + (turns + operation) % (longest - shortest + 1)

-- n turns more, modulo 2^32
abbrev pub turned : ℕ → ℕ → ℕ
turned turns n = (turns + n) % 2 ^ 32
