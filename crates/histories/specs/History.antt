-- The history of a place: who wrote it and who read it, in the order of time. Operations are the numbers below n.
-- Assumes nothing.
use Rattle.std.specs.Prelude.{◌≡◌, ℕ, suc, ◌<◌, ◌≤◌, Bool, true, not, ◌&&◌, ◌↔◌, List, [], ◌∷◌, map, ◌==◌, nat_le, nat_lt}
use Rattle.histories.specs.Below.{those_below, some_below, greatest_below}

-- which operations write a place, and which read it
pub record Accesses : Type 0 where
  pub writes : ℕ → Bool
  pub reads : ℕ → Bool

-- the time at which the write of an operation lands, and that at which an operation reads; what lands at a time is read at that time
pub record Clock : Type 0 where
  pub lands_at : ℕ → ℕ
  pub reads_at : ℕ → ℕ

-- writes that land together, and who reads from then until the next landing; both lists ascend
pub record Entry : Type 0 where
  pub writers : List ℕ
  pub readers : List ℕ

-- an entry from its two lists
abbrev pub entry : List ℕ → List ℕ → Entry
entry ws rs = record { writers = ws; readers = rs }

-- whether a write lands at the time t
abbrev pub landing : ℕ → Accesses → Clock → ℕ → Bool
landing n a k t = some_below n (λ w. a.writes w && k.lands_at w == t)

-- whether a write lands after the time t, and not after the time u
abbrev pub landing_between : ℕ → Accesses → Clock → ℕ → ℕ → Bool
landing_between n a k t u = some_below (suc u) (λ s. nat_lt t s && landing n a k s)

-- the times at which a write lands, ascending, each once
abbrev pub landings : ℕ → Accesses → Clock → List ℕ
landings n a k = those_below (suc (greatest_below n k.lands_at)) (landing n a k)

-- the opening entry: no writers; the readers before any landing
abbrev pub opening : ℕ → Accesses → Clock → Entry
opening n a k = entry [] (those_below n (λ r. a.reads r && not (some_below (suc (k.reads_at r)) (landing n a k))))

-- the entry of the time t: the writers that land at t; the readers at t or later, and before the next landing
abbrev pub entry_at : ℕ → Accesses → Clock → ℕ → Entry
entry_at n a k t = entry
    (those_below n (λ w. a.writes w && k.lands_at w == t))
    (those_below n (λ r. a.reads r && (nat_le t (k.reads_at r) && not (landing_between n a k t (k.reads_at r)))))

-- the opening entry, and an entry for each time at which a write lands, ascending
abbrev pub history : ℕ → Accesses → Clock → List Entry
history n a k = opening n a k ∷ map (entry_at n a k) (landings n a k)

-- by both clocks the same writes have landed when an operation reads, and of any two writes the same one lands first, or both land together
pub record Agree (n : ℕ) (a : Accesses) (k l : Clock) : Type 0 where
  pub seen : (w r : ℕ) → w < n → r < n → a.writes w ≡ true → a.reads r ≡ true → (k.lands_at w ≤ k.reads_at r) ↔ (l.lands_at w ≤ l.reads_at r)
  pub order : (w v : ℕ) → w < n → v < n → a.writes w ≡ true → a.writes v ≡ true → (k.lands_at w < k.lands_at v) ↔ (l.lands_at w < l.lands_at v)

-- two clocks give a place one history if and only if they agree
abbrev pub OrderDecidesHistory : Type 0
OrderDecidesHistory = (n : ℕ) (a : Accesses) (k l : Clock) → (history n a k ≡ history n a l) ↔ Agree n a k l
