-- A block whose operations are all placed is sound. Assumes nothing.
use Rattle.std.proofs.Common.{◌≡◌, ℕ, zero, suc, ◌<◌, Bool, true, false, cond, eqb, ltb, List, [], ◌∷◌, ◌++◌, map, length, get_or, is_some, Some, None, Option, sym, refl, ◌∙◌, arith, lit<}
use Rattle.std.specs.Option.{option_to_list}
use Rattle.std.proofs.lemmas.Bool.{eq-eqb, and_from}
use Rattle.registers.specs.declared.banked.Banked.TheVariants as banked
use Rattle.registers.specs.declared.register.Register as register
use Rattle.registers.specs.declared.register.Place.{Place}
use Rattle.registers.specs.declared.register.Place.TheVariants as place
use Rattle.registers.specs.Registers.{General, Predicate, general_place, predicate_place}
use Rattle.operations.specs.declared.access.Class.{Class}
use Rattle.operations.specs.declared.operation.Form.{Form}
use Rattle.operations.specs.declared.operation.Form.TheVariants.{Binary, Unary, Compare, Load, Store}
use Rattle.operations.specs.Access.{among, reads, writes}
use Rattle.blocks.specs.declared.description.Description.{Description}
use Rattle.blocks.specs.declared.description.Slot.{Slot}
use Rattle.blocks.specs.declared.position.Entry.{Entry}
use Rattle.blocks.specs.declared.position.Position.{Position}
use Rattle.blocks.specs.Machine.{takes_class, slots_of}
use Rattle.blocks.specs.Entries.{placed, cycle_in, slot_in, slot_of, clash, fits_position, fits_slot, WellPlaced}
use Rattle.histories.specs.Schedule.{Sound}
use Rattle.checker.specs.declared.placed.Placed.{Placed}
use Rattle.checker.specs.Programs.{program_of, schedule_of}
use Rattle.checker.specs.Seen.{Tied, SeenTo}
use Rattle.checker.proofs.Linked.{some_of}

no_test : {A : Type 0} → false ≡ true → A
no_test e = let z : ◌≡◌ {A = ℕ} 0 1 = cc in absurd (omega arith)

-- a register is not the memory
skip_general : (g : General) (rest : List Place) → among place.Memory (option_to_list (general_place g) ++ rest) ≡ among place.Memory rest
skip_general (banked.Static n) rest = by (eqb n.number 0)
  where
    by : (b : Bool) → among place.Memory (option_to_list (cond b None (Some (place.Register (register.TheVariants.General (banked.Static n))))) ++ rest) ≡ among place.Memory rest
    by true = refl
    by false = refl
skip_general (banked.Rotating n) rest = refl

skip_predicate : (p : Predicate) (rest : List Place) → among place.Memory (option_to_list (predicate_place p) ++ rest) ≡ among place.Memory rest
skip_predicate (banked.Static n) rest = by (ltb n.number 2)
  where
    by : (b : Bool) → among place.Memory (option_to_list (cond b None (Some (place.Register (register.TheVariants.Predicate (banked.Static n))))) ++ rest) ≡ among place.Memory rest
    by true = refl
    by false = refl
skip_predicate (banked.Rotating n) rest = refl

-- no operation both stores and loads
one_way : (g : Predicate) (f : Form) → writes place.Memory (record { guard = g; form = f }) ≡ true → reads place.Memory (record { guard = g; form = f }) ≡ true → ⊥
one_way g (Binary o d a b) w r = no_test (sym (skip_general d _) ∙ w)
one_way g (Unary o d a) w r = no_test (sym (skip_general d _) ∙ w)
one_way g (Compare c t a b) w r = no_test (sym (skip_predicate t.first.to _ ∙ skip_predicate t.second.to _) ∙ w)
one_way g (Load d a) w r = no_test (sym (skip_general d _) ∙ w)
one_way g (Store a v) w r = no_test (sym (skip_predicate g _ ∙ skip_general a _ ∙ skip_general v _) ∙ r)

not_both : (f g : Entry → Bool) → ((e : Entry) → f e ≡ true → g e ≡ true → ⊥) → (es : List Entry) (i : ℕ) → get_or (map f es) i false ≡ true → get_or (map g es) i false ≡ true → ⊥
not_both f g never [] i p q = no_test p
not_both f g never (e ∷ es) zero p q = never e p q
not_both f g never (e ∷ es) (suc i) p q = not_both f g never es i p q

narrow : (o : Option Position) → slot_in o < 8
narrow None = lit< tt
narrow (Some p) = p.narrow

clash_from : (o q : Option Position) → is_some o ≡ true → is_some q ≡ true → cycle_in o ≡ cycle_in q → slot_in o ≡ slot_in q → clash o q ≡ true
clash_from None q a b c s = no_test a
clash_from (Some p) None a b c s = no_test b
clash_from (Some p) (Some q) a b c s = and_from _ _ (eq-eqb _ _ c) (eq-eqb _ _ s)

slot_there : (slots : List Slot) (i : ℕ) (c : Class) → takes_class slots i c ≡ true → i < length slots
slot_there [] i c t = no_test t
slot_there (s ∷ slots) zero c t = omega arith
slot_there (s ∷ slots) (suc i) c t = let k = slot_there slots i c t in omega arith

-- a placed operation stands in one of the machine's slots
pub in_machine : (slots : List Slot) (es : List Entry) (i : ℕ) → get_or (map (fits_slot slots) es) i true ≡ true → is_some (placed es i) ≡ true → slot_of es i < length slots
in_machine slots [] i f t = no_test t
in_machine slots (e ∷ es) zero f t = by e.position _ f t
  where
    by : (o : Option Position) (c : Class) → fits_position slots c o ≡ true → is_some o ≡ true → slot_in o < length slots
    by None c f t = no_test t
    by (Some p) c f t = slot_there slots p.slot c f
in_machine slots (e ∷ es) (suc i) f t = in_machine slots es i f t

pub sound_of : (d : Description) (es : List Entry) (ps : List Placed) → 0 < length ps → WellPlaced (slots_of d.slots) es → SeenTo d es (length es) ps → Sound (program_of d es) (schedule_of es)
sound_of d es ps some well seen = record {
  takes_time = λ i h. let o = get_or ps i (some_of ps 0 some) in omega (arith, (at i h).shortest, o.takes_time);
  bounds = λ i h. let o = get_or ps i (some_of ps 0 some) in omega (arith, (at i h).shortest, (at i h).longest, o.ordered);
  one_way = λ i h. not_both _ _ (λ e. one_way e.operation.guard e.operation.form) es i;
  in_slots = λ i h. narrow (placed es i);
  apart = λ i j l h ui uj c s.
      let k = well.apart i j (clash_from (placed es i) (placed es j) (seen.placed i (omega arith)) (seen.placed j h) c s) in
      omega arith;
}
  where
    at : (i : ℕ) → i < length es → Tied (program_of d es) (schedule_of es) i (get_or ps i (some_of ps 0 some))
    at i h = seen.each i (some_of ps 0 some) h
