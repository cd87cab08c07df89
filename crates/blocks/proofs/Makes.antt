-- Slots and bounds are made where their parts are right. Assumes nothing.
use Rattle.std.proofs.Common.{◌≡◌, ℕ, ◌≤◌, Bool, true, false, ◌||◌, Some, Ok, Option, Result, refl, ap, ◌∙◌, subst, ap₂, arith, rules}
use mathlib.Core.Bool.{Bool-set}
use native.Mathlib.Bridge.{le_prop}
use Rattle.std.proofs.lemmas.Bool.Decides.{nat_tests}
use Rattle.operations.specs.declared.refusal.Refusal.{Refusal}
use Rattle.blocks.specs.declared.description.Slot.{Slot}
use Rattle.blocks.specs.declared.description.Bounds.{Bounds}
use Rattle.blocks.specs.Machine.{slot_for, slot_taking, in_order, bounds_for, bounded}

abbrev slot : (i m c : Bool) → (i || m || c) ≡ true → Slot
slot i m c e = record { integer = i; memory = m; compare = c; some = e }

pub slot_there : (i m c : Bool) (e : (i || m || c) ≡ true) → ◌≡◌ {A = Option Slot} (Some (slot i m c e)) (slot_taking i m c)
slot_there i m c e = by (i || m || c) refl e
  where
    by : (b : Bool) (h : (i || m || c) ≡ b) → b ≡ true → ◌≡◌ {A = Option Slot} (Some (slot i m c e)) (slot_for i m c b h)
    by true h t = ap (λ (g : (i || m || c) ≡ true). Some (slot i m c g)) (Bool-set (i || m || c) true e h)
    by false h t = search rules

abbrev bounds : (s l : ℕ) → 1 ≤ s → s ≤ l → l ≤ 31 → Bounds
bounds s l h k f = record { shortest = s; longest = l; positive = h; ordered = k; few = f }

pub same_bounds : (x y : Bounds) → x.shortest ≡ y.shortest → x.longest ≡ y.longest → x ≡ y
same_bounds x y e f =
    let P : ℕ → Type 0 = λ s. (h : 1 ≤ s) (k : s ≤ y.longest) → x ≡ bounds s y.longest h k y.few in
    let Q : ℕ → Type 0 = λ l. (k : x.shortest ≤ l) (f : l ≤ 31) → x ≡ bounds x.shortest l x.positive k f in
    let q : Q x.longest = λ k g. ap₂ (bounds x.shortest x.longest x.positive) (le_prop x.ordered k) (le_prop x.few g) in
    let r : (k : x.shortest ≤ y.longest) → x ≡ bounds x.shortest y.longest x.positive k y.few = λ k. subst Q f q k y.few in
    let p : P x.shortest = λ h k. r k ∙ ap (λ (g : 1 ≤ x.shortest). bounds x.shortest y.longest g k y.few) (le_prop x.positive h) in
    subst P e p y.positive y.ordered

pub bounds_there : (x : Bounds) → ◌≡◌ {A = Result Bounds Refusal} (Ok x) (bounded x.shortest x.longest)
bounds_there x = by (in_order x.shortest x.longest) refl (grind (arith, nat_tests))
  where
    by : (b : Bool) (h : in_order x.shortest x.longest ≡ b) → b ≡ true → ◌≡◌ {A = Result Bounds Refusal} (Ok x) (bounds_for x.shortest x.longest b h)
    by true h t = ap (λ (y : Bounds). Ok y) (same_bounds x _ refl refl)
    by false h t = search rules
