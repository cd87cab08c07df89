-- A schedule that keeps the dependences gives every place its history in written order, and the converse. Assumes nothing.
use Rattle.std.proofs.Common.{◌≡◌, ℕ, ◌+◌, ◌<◌, ◌≤◌, Bool, true, false, cond, not, eqb, ◌⊎◌, ◌↔◌, refl, ap, inl, inr, arith}
use Rattle.std.proofs.lemmas.Bool.{cases_lt, eq-eqb, ne_eqb, and_parts, or_left, or_right, or_cases, cases_order}
use Rattle.registers.specs.declared.register.Register.{Register}
use Rattle.registers.specs.declared.register.Place.{Place}
use Rattle.registers.specs.declared.register.Place.TheVariants as place
use Rattle.histories.specs.History.{Accesses, Clock, Agree}
use Rattle.histories.specs.Schedule.{Program, Schedule, Timing, position, written, scheduled, without, none_withheld, Same, AlwaysSame, WholeSame, Flow, Anti, Output, Conflict, ConflictKept, Kept, Sound, KeptIsAlwaysSame, KeptIsWholeSame, BrokenShows, BrokenAlwaysShows}
use Rattle.histories.proofs.Order.{order_decides, history_decides}

-- agreement stays where writes are withheld
pub withheld_agrees : (n : ℕ) (a : Accesses) (k l : Clock) (withheld : ℕ → Bool) → Agree n a k l → Agree n (without withheld a) k l
withheld_agrees n a k l withheld agree = record {
  seen = λ w r hw hr ww rr. agree.seen w r hw hr (and_parts (not (withheld w)) (a.writes w) ww).1 rr;
  order = λ w v hw hv ww wv. agree.order w v hw hv (and_parts (not (withheld w)) (a.writes w) ww).1 (and_parts (not (withheld v)) (a.writes v) wv).1;
}

-- where cycles have at most 8 slots, the order of positions is that of cycles and then of slots
pub position_before : (s : Schedule) (i j : ℕ) → s.slot i < 8 → s.slot j < 8 → ConflictKept s i j ↔ (position s i < position s j)
position_before s i j hi hj = (λ h. by_cycle h (cases_order (s.cycle i) (s.cycle j)), λ h. (omega arith, λ e. omega arith))
  where
    by_cycle : ConflictKept s i j → (s.cycle i ≡ s.cycle j) ⊎ ((s.cycle i < s.cycle j) ⊎ (s.cycle j < s.cycle i)) → position s i < position s j
    by_cycle h (inl e) = let l = h.1 e in omega arith
    by_cycle h (inr (inl l)) = omega arith
    by_cycle h (inr (inr g)) = let l = h.0 in omega arith

module _ (p : Program) (s : Schedule) where
  -- what equal histories say of a pair of operations
  pub same_agrees : (latency : ℕ → ℕ) (x : Place) → Same p s latency x none_withheld → Agree p.size (p.accesses x) (scheduled s latency x) written
  same_agrees latency x same = history_decides p.size (p.accesses x) (scheduled s latency x) written same

  pub flow_from : (latency : ℕ → ℕ) (r : Register) (i j : ℕ) → Same p s latency (place.Register r) none_withheld → Flow p (place.Register r) i j →
      s.cycle i + latency i ≤ s.cycle j
  flow_from latency r i j same (l, h, wi, rj) =
      let a = (same_agrees latency (place.Register r) same).seen i j (omega arith) h wi rj in
      let b = a.1 (omega arith) in
      omega arith

  pub anti_from : (latency : ℕ → ℕ) (r : Register) (i j : ℕ) → Same p s latency (place.Register r) none_withheld → Anti p (place.Register r) i j →
      s.cycle i < s.cycle j + latency j
  anti_from latency r i j same (l, h, ri, wj) =
      let a = (same_agrees latency (place.Register r) same).seen j i h (omega arith) wj ri in
      elim (cases_lt (s.cycle i) (s.cycle j + latency j)) [ inl x ↦ x | inr g ↦ absurd (let b = a.0 (omega arith) in omega arith) ]

  pub output_from : (latency : ℕ → ℕ) (r : Register) (i j : ℕ) → Same p s latency (place.Register r) none_withheld → Output p (place.Register r) i j →
      s.cycle i + latency i < s.cycle j + latency j
  output_from latency r i j same (l, h, wi, wj) =
      let a = (same_agrees latency (place.Register r) same).order i j (omega arith) h wi wj in
      let b = a.1 (omega arith) in
      omega arith

  pub always_whole : AlwaysSame p s → WholeSame p s
  always_whole same latency timing x = same latency timing (λ _. none_withheld) x

module _ (p : Program) (s : Schedule) (sound : Sound p s) where
  register_agrees : Kept p s → (latency : ℕ → ℕ) → Timing p latency → (r : Register) →
      Agree p.size (p.accesses (place.Register r)) (scheduled s latency (place.Register r)) written
  register_agrees kept latency timing r = record {
    seen = λ w v hw hv ww rv.
        let tw = timing w hw in
        let one = sound.takes_time w hw in
        elim (cases_order w v) [
          | inl e ↦ (let c = ap s.cycle e in omega arith)
          | inr (inl l) ↦ (let f = kept.flow r w v (l, hv, ww, rv) in omega arith)
          | inr (inr g) ↦ (let f = kept.anti r v w (g, hw, rv, ww) in omega arith)
        ];
    order = λ w v hw hv ww wv.
        let tw = timing w hw in
        let tv = timing v hv in
        elim (cases_order w v) [
          | inl e ↦ (let c = ap s.cycle e in let d = ap latency e in omega arith)
          | inr (inl l) ↦ (let f = kept.output r w v (l, hv, ww, wv) in omega arith)
          | inr (inr g) ↦ (let f = kept.output r v w (g, hw, wv, ww) in omega arith)
        ];
  }

  memory_before : Kept p s → (i j : ℕ) → Conflict p i j → position s i < position s j
  memory_before kept i j c = (position_before s i j (sound.in_slots i (let h = c.0 in let k = c.1 in omega arith)) (sound.in_slots j c.1)).0 (kept.in_memory i j c)

  memory_agrees : Kept p s → (latency : ℕ → ℕ) → Agree p.size (p.accesses place.Memory) (scheduled s latency place.Memory) written
  memory_agrees kept latency = record {
    seen = λ w v hw hv ww rv. elim (cases_order w v) [
      | inl e ↦ absurd (sound.one_way w hw ww (rw e rv))
      | inr (inl l) ↦ (let f = memory_before kept w v (l, hv, or_left _ _ ww, or_right _ _ rv, or_left _ _ ww) in omega arith)
      | inr (inr g) ↦ (let f = memory_before kept v w (g, hw, or_right _ _ rv, or_left _ _ ww, or_right _ _ ww) in omega arith)
    ];
    order = λ w v hw hv ww wv. elim (cases_order w v) [
      | inl e ↦ (let c = ap (position s) e in omega arith)
      | inr (inl l) ↦ (let f = memory_before kept w v (l, hv, or_left _ _ ww, or_left _ _ wv, or_left _ _ ww) in omega arith)
      | inr (inr g) ↦ (let f = memory_before kept v w (g, hw, or_left _ _ wv, or_left _ _ ww, or_left _ _ wv) in omega arith)
    ];
  }

  pub kept_agrees : Kept p s → (latency : ℕ → ℕ) → Timing p latency → (x : Place) → Agree p.size (p.accesses x) (scheduled s latency x) written
  kept_agrees kept latency timing (place.Register r) = register_agrees kept latency timing r
  kept_agrees kept latency timing place.Memory = memory_agrees kept latency

  pub kept_same : Kept p s → AlwaysSame p s
  kept_same kept latency timing withheld x =
      order_decides p.size (without (withheld x) (p.accesses x)) (scheduled s latency x) written
      (withheld_agrees p.size (p.accesses x) (scheduled s latency x) written (withheld x) (kept_agrees kept latency timing x))

  -- the converse: no two memory operations act at one position
  positions_apart : (i j : ℕ) → Conflict p i j → position s i ≡ position s j → ⊥
  positions_apart i j (l, h, ui, uj, o) e =
      let hi = sound.in_slots i (omega arith) in
      let hj = sound.in_slots j h in
      sound.apart i j l h ui uj (omega arith) (omega arith)

  memory_order : (latency : ℕ → ℕ) (i j : ℕ) → Same p s latency place.Memory none_withheld → Conflict p i j → position s i < position s j
  memory_order latency i j same (l, h, ui, uj, o) =
      by_kind (or_cases (m.writes i) (m.reads i) ui) (or_cases (m.writes j) (m.reads j) uj) (or_cases (m.writes i) (m.writes j) o)
    where
      m : Accesses
      m = p.accesses place.Memory

      a : Agree p.size m (scheduled s latency place.Memory) written
      a = same_agrees p s latency place.Memory same

      stores : m.writes i ≡ true → m.writes j ≡ true → position s i < position s j
      stores wi wj = (a.order i j (omega arith) h wi wj).1 (omega arith)

      store_load : m.writes i ≡ true → m.reads j ≡ true → position s i < position s j
      store_load wi rj =
          let b = (a.seen i j (omega arith) h wi rj).1 (omega arith) in
          let n = positions_apart i j (l, h, ui, uj, o) in
          omega arith

      load_store : m.reads i ≡ true → m.writes j ≡ true → position s i < position s j
      load_store ri wj =
          let b = a.seen j i h (omega arith) wj ri in
          elim (cases_lt (position s i) (position s j)) [ inl x ↦ x | inr g ↦ absurd (let d = b.0 g in omega arith) ]

      by_kind : (m.writes i ≡ true) ⊎ (m.reads i ≡ true) → (m.writes j ≡ true) ⊎ (m.reads j ≡ true) → (m.writes i ≡ true) ⊎ (m.writes j ≡ true) → position s i < position s j
      by_kind (inl wi) (inl wj) o = stores wi wj
      by_kind (inl wi) (inr rj) o = store_load wi rj
      by_kind (inr ri) (inl wj) o = load_store ri wj
      by_kind (inr ri) (inr rj) (inl wi) = store_load wi rj
      by_kind (inr ri) (inr rj) (inr wj) = load_store ri wj

  pub memory_from : (latency : ℕ → ℕ) (i j : ℕ) → Same p s latency place.Memory none_withheld → Conflict p i j → ConflictKept s i j
  memory_from latency i j same c =
      (position_before s i j (sound.in_slots i (let h = c.0 in let k = c.1 in omega arith)) (sound.in_slots j c.1)).1 (memory_order latency i j same c)

  broken : BrokenShows p s
  broken = record {
    flow = λ r i j d bad latency e same. bad (rw e at (flow_from p s latency r i j same d));
    anti = λ r i j d bad latency e same. bad (rw e at (anti_from p s latency r i j same d));
    output = λ r i j d bad latency e f same. bad (rw (e, f) at (output_from p s latency r i j same d));
    in_memory = λ i j d bad latency same. bad (memory_from latency i j same d);
  }

  -- the longest latency at one operation, and the shortest at all others
  late_at : ℕ → ℕ → ℕ
  late_at i m = cond (eqb m i) (p.longest m) (p.shortest m)

  late_timing : (i : ℕ) → Timing p (late_at i)
  unfolding late_at
  late_timing i m h = by (eqb m i)
    where
      by : (b : Bool) → (p.shortest m ≤ cond b (p.longest m) (p.shortest m)) × (cond b (p.longest m) (p.shortest m) ≤ p.longest m)
      by true = (sound.bounds m h, omega arith)
      by false = (omega arith, sound.bounds m h)

  late_here : (i : ℕ) → late_at i i ≡ p.longest i
  unfolding late_at
  late_here i = ap (λ b. cond b (p.longest i) (p.shortest i)) (eq-eqb i i refl)

  late_elsewhere : (i j : ℕ) → i < j → late_at i j ≡ p.shortest j
  unfolding late_at
  late_elsewhere i j l = ap (λ b. cond b (p.longest j) (p.shortest j)) (ne_eqb j i (omega arith))

  pub same_kept : WholeSame p s → Kept p s
  same_kept same = record {
    flow = λ r i j d. rw (late_here i) at (flow_from p s (late_at i) r i j (at i (place.Register r)) d);
    anti = λ r i j d. rw (late_elsewhere i j d.0) at (anti_from p s (late_at i) r i j (at i (place.Register r)) d);
    output = λ r i j d. rw (late_here i, late_elsewhere i j d.0) at (output_from p s (late_at i) r i j (at i (place.Register r)) d);
    in_memory = λ i j d. memory_from (late_at i) i j (at i place.Memory) d;
  }
    where
      at : (i : ℕ) (x : Place) → Same p s (late_at i) x none_withheld
      at i x = same (late_at i) (late_timing i) x

pub kept_is_always_same_lem : KeptIsAlwaysSame
kept_is_always_same_lem p s sound = (kept_same p s sound, λ same. same_kept p s sound (always_whole p s same))

pub kept_is_whole_same_lem : KeptIsWholeSame
kept_is_whole_same_lem p s sound = (λ kept. always_whole p s (kept_same p s sound kept), same_kept p s sound)

pub broken_always_shows_lem : BrokenAlwaysShows
broken_always_shows_lem p s sound = broken p s sound
