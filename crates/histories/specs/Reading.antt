-- What a history says of its writers and readers. Assumes nothing.
use Rattle.std.specs.Prelude.{◌≡◌, ℕ, ◌<◌, ◌≤◌, true, ◌↔◌, List, [], length, slice_index_or}
use Rattle.histories.specs.Below.{listed}
use Rattle.histories.specs.History.{Accesses, Clock, Entry, entry, history}

-- there is an entry b, and w is one of its writers
abbrev pub WriterIn : List Entry → ℕ → ℕ → Type 0
WriterIn es b w = (b < length es) × (listed w (slice_index_or es b (entry [] [])).writers ≡ true)

-- there is an entry b, and r is one of its readers
abbrev pub ReaderIn : List Entry → ℕ → ℕ → Type 0
ReaderIn es b r = (b < length es) × (listed r (slice_index_or es b (entry [] [])).readers ≡ true)

-- what the entries say of the accesses to a place
pub record ReadsAs (n : ℕ) (a : Accesses) (k : Clock) (es : List Entry) : Type 0 where
  -- every writer and every reader below n is named, and no other operation
  pub writer : (w : ℕ) → w < n → a.writes w ≡ true → (b : ℕ) × WriterIn es b w
  pub reader : (r : ℕ) → r < n → a.reads r ≡ true → (b : ℕ) × ReaderIn es b r
  pub only_writers : (w b : ℕ) → WriterIn es b w → (w < n) × (a.writes w ≡ true)
  pub only_readers : (r b : ℕ) → ReaderIn es b r → (r < n) × (a.reads r ≡ true)
  -- each writer in one entry alone, and each reader in one alone
  pub writer_once : (w b c : ℕ) → WriterIn es b w → WriterIn es c w → b ≡ c
  pub reader_once : (r b c : ℕ) → ReaderIn es b r → ReaderIn es c r → b ≡ c
  -- the first entry has no writer, and every other entry has one
  pub opening : (w : ℕ) → WriterIn es 0 w → ⊥
  pub landing : (b : ℕ) → 0 < b → b < length es → (w : ℕ) × WriterIn es b w
  -- a write has landed when an operation reads if and only if the entry of the write is that of the read, or an earlier one
  pub seen : (w b r c : ℕ) → WriterIn es b w → ReaderIn es c r → (k.lands_at w ≤ k.reads_at r) ↔ (b ≤ c)
  -- a write lands with another, or before it, if and only if its entry is that of the other, or an earlier one
  pub order : (w b v c : ℕ) → WriterIn es b w → WriterIn es c v → (k.lands_at w ≤ k.lands_at v) ↔ (b ≤ c)

-- every history says so of its accesses
abbrev pub HistoryShowsOrder : Type 0
HistoryShowsOrder = (n : ℕ) (a : Accesses) (k : Clock) → ReadsAs n a k (history n a k)

-- equal histories have the same writers and readers
abbrev pub HistoryNamesAccesses : Type 0
HistoryNamesAccesses = (n : ℕ) (a b : Accesses) (k l : Clock) → history n a k ≡ history n b l →
    (i : ℕ) → i < n → (a.writes i ≡ b.writes i) × (a.reads i ≡ b.reads i)
