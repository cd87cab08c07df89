use Rattle.std.specs.Prelude.{ℕ, ◌+◌, ◌-◌, ◌/◌, ◌%◌, Bool, true, false, cond, ◌&&◌, ◌||◌, List, [], ◌∷◌, length, Some, None, Option, ◌==◌, nat_le, nat_lt, slice_index}
use Rattle.memories.specs.declared.section.Section.{Section}
use Rattle.memories.specs.Rules.{inside, right}

-- where a section ends, if it is right, and none before low
abbrev pub end_after : Section → (low : ℕ) → Option ℕ
end_after s low = cond (right s && nat_le low s.offset) (Some (s.offset + s.length)) None

-- sorted and not overlapping, none before low
abbrev pub in_order : (low : ℕ) → List Section → Bool
in_order low [] = true
in_order low (s ∷ ss) = right s && nat_le low s.offset && in_order (s.offset + s.length) ss

-- how many words they hold
abbrev pub word_count : List Section → ℕ
word_count [] = 0
word_count (s ∷ ss) = s.length / 4 + word_count ss

-- sections by the rules, and enough words for them
abbrev pub well_formed : List Section → (room : ℕ) → Bool
well_formed ss room = nat_le (length ss) 16 && in_order 0 ss && nat_le (word_count ss) room

-- an address in one of them
abbrev pub covered : List Section → ℕ → Bool
covered [] a = false
covered (s ∷ ss) a = inside s a || covered ss a

-- the word of number w, at address 4 · w, in a section
abbrev pub holds_word : Section → ℕ → Bool
holds_word s w = nat_le (s.offset / 4) w && nat_lt (w - s.offset / 4) (s.length / 4)

-- where it is packed: the sections' words one after another, from base on
abbrev pub place : (base : ℕ) → List Section → (w : ℕ) → Option ℕ
place base [] w = None
place base (s ∷ ss) w = cond (holds_word s w) (Some (base + (w - s.offset / 4))) (place (base + s.length / 4) ss w)

-- a place of the first n
abbrev pub under : ℕ → Option ℕ → Option ℕ
under n None = None
under n (Some k) = cond (nat_lt k n) (Some k) None

-- the place among n words of the word at an address
abbrev pub index : List Section → ℕ → ℕ → Option ℕ
index ss n a = cond (a % 4 == 0) (under n (place 0 ss (a / 4))) None

abbrev pub there : Option ℕ → Bool
there None = false
there (Some k) = true

abbrev pub word_at : List ℕ → Option ℕ → ℕ
word_at ws None = 0
word_at ws (Some k) = slice_index ws k

abbrev pub sect_has : List Section → List ℕ → ℕ → Bool
sect_has ss ws a = there (index ss (length ws) a)

abbrev pub sect_word : List Section → List ℕ → ℕ → ℕ
sect_word ss ws a = word_at ws (index ss (length ws) a)
