-- What holds at each part of what an operation writes and reads holds at each register. Assumes nothing.
use Rattle.std.proofs.Common.{◌≡◌, ℕ, ◌<◌, Bool, true, false, ◌⊎◌, List, ◌++◌, get_or, Some, None, Option, refl, sym, subst, inl, inr, arith, lit<}
use Rattle.std.specs.Bool.{then_some}
use Rattle.std.specs.List.{All}
use Rattle.std.specs.Option.{option_to_list, MatchOption}
use Rattle.std.proofs.lemmas.Bool.{cases_Bool, or_cases}
use Rattle.registers.proofs.Equal.{register_same}
use Rattle.registers.specs.declared.register.Register.{Register}
use Rattle.registers.specs.declared.register.Place.{Place}
use Rattle.registers.specs.declared.register.Place.TheVariants as place
use Rattle.registers.specs.Registers.{is_place}
use Rattle.operations.specs.Access.{among}
use Rattle.checker.specs.declared.placed.Placed.{Placed}
use Rattle.operations.specs.declared.refusal.Dependence.TheVariants.{Memory}
use Rattle.checker.specs.declared.pair.Break.{Break}
use Rattle.checker.specs.Pairs.{broken, reads_at, writes_at, Unbroken, Breaks, PartKept, PairKept, parts_of}

pub part_kept : (part : Option Place) (x : Register) (a b : Placed) → part ≡ Some (place.Register x) → Unbroken x a b → PartKept part a b
part_kept part x a b e u y t =
    let P : Option Place → Type 0 = λ o. is_place (place.Register y) o ≡ true in
    let Q : Register → Type 0 = λ z. Unbroken z a b in
    subst Q (register_same x y (subst P e t)) u

-- a place that is in a list of parts is one of the parts
part_or_rest : (p : Place) (o : Option Place) (rest : List Place) → among p (option_to_list o ++ rest) ≡ true → (is_place p o ≡ true) ⊎ (among p rest ≡ true)
part_or_rest p None rest t = inr t
part_or_rest p (Some q) rest t = or_cases _ _ t

last_part : (p : Place) (o : Option Place) → among p (option_to_list o) ≡ true → is_place p o ≡ true
last_part p None h = h
last_part p (Some q) h = elim (or_cases _ _ h) [ inl k ↦ k | inr k ↦ let z : ◌≡◌ {A = ℕ} 0 1 = cc in absurd (omega arith) ]

module _ (a b : Placed) (all : (m : ℕ) → m < 7 → PartKept (get_or (parts_of a) m None) a b) (x : Register) where
  written : writes_at (place.Register x) a ≡ true → Unbroken x a b
  written t = elim (part_or_rest (place.Register x) a.writes.first _ t) [
    | inl h ↦ all 0 (lit< tt) x h
    | inr t1 ↦ elim (part_or_rest (place.Register x) a.writes.second _ t1) [
      | inl h ↦ all 1 (lit< tt) x h
      | inr t2 ↦ all 2 (lit< tt) x (last_part _ a.writes.memory t2)
    ]
  ]

  read : reads_at (place.Register x) a ≡ true → Unbroken x a b
  read t = elim (part_or_rest (place.Register x) a.reads.guard _ t) [
    | inl h ↦ all 3 (lit< tt) x h
    | inr t1 ↦ elim (part_or_rest (place.Register x) a.reads.first _ t1) [
      | inl h ↦ all 4 (lit< tt) x h
      | inr t2 ↦ elim (part_or_rest (place.Register x) a.reads.second _ t2) [
        | inl h ↦ all 5 (lit< tt) x h
        | inr t3 ↦ all 6 (lit< tt) x (last_part _ a.reads.memory t3)
      ]
    ]
  ]

  neither : writes_at (place.Register x) a ≡ false → reads_at (place.Register x) a ≡ false → Unbroken x a b
  neither w r = record { flow = rw w refl; anti = rw r refl; output = rw w refl }

  pub register_kept : Unbroken x a b
  register_kept = elim (cases_Bool (writes_at (place.Register x) a)) [
    | inl t ↦ written t
    | inr w ↦ elim (cases_Bool (reads_at (place.Register x) a)) [
      | inl t ↦ read t
      | inr r ↦ neither w r
    ]
  ]

pub pair_kept : (a b : Placed) → All (λ o. PartKept o a b) (parts_of a) → broken Memory place.Memory a b ≡ false → PairKept a b
pair_kept a b all memory = record { registers = register_kept a b (λ m h. all m None h); memory = memory }

-- the broken dependence of the memory
abbrev pub memory_break : Break
memory_break = record { dependence = Memory; place = place.Memory }

-- what is found at the parts, or else at the memory
pub found_or_memory : (a b : Placed) (ps : List (Option Place)) (o r : Option Break) → ps ≡ parts_of a → MatchOption o (All (λ q. PartKept q a b) ps) (λ k. Breaks k.dependence k.place a b) →
    MatchOption o (r ≡ then_some (broken Memory place.Memory a b) memory_break) (λ k. r ≡ Some k) → MatchOption r (PairKept a b) (λ k. Breaks k.dependence k.place a b)
found_or_memory a b ps (Some k) r e f g = subst (λ r. MatchOption r (PairKept a b) (λ k. Breaks k.dependence k.place a b)) (sym g) f
found_or_memory a b ps None r e f g =
    subst (λ r. MatchOption r (PairKept a b) (λ k. Breaks k.dependence k.place a b)) (sym g) (by (broken Memory place.Memory a b) refl)
  where
    all : All (λ q. PartKept q a b) (parts_of a)
    all = subst (λ qs. All (λ q. PartKept q a b) qs) e f

    by : (t : Bool) → broken Memory place.Memory a b ≡ t → MatchOption (then_some t memory_break) (PairKept a b) (λ k. Breaks k.dependence k.place a b)
    by true h = record { kind = refl; so = h }
    by false h = pair_kept a b all h
