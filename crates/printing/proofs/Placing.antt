-- An operation that is added behind the others goes to its position. Assumes nothing.
use Rattle.std.proofs.Common.{◌≡◌, ℕ, zero, suc, ◌<◌, Bool, true, false, ◌||◌, ltb, List, [], ◌∷◌, ◌++◌, map, length, get_or, set, Some, None, Ok, Option, sym, refl, ap, ◌∙◌, ap₂, arith, lt-ltb}
use Rattle.std.proofs.lemmas.List.{map-append, length-append, length-map, length_push, get_or_at, get_or_append_left, set_at}
use Rattle.operations.specs.declared.access.Class.{Class}
use Rattle.operations.specs.declared.access.Class.TheVariants as class
use Rattle.operations.specs.declared.operation.Operation.{Operation}
use Rattle.blocks.specs.declared.description.Slot.{Slot}
use Rattle.blocks.specs.declared.exit.Exit.{Exit}
use Rattle.blocks.specs.declared.position.Position.{Position}
use Rattle.blocks.specs.declared.position.Entry.{Entry}
use Rattle.blocks.specs.Machine.{takes_class}
use Rattle.blocks.specs.Entries.{position_at, position_of, placed, clash, any_at, occupied, entry_class, class_at, fits_position, fits_slot, WellPlaced, put}
use Rattle.blocks.specs.Model.{unplaced, place_step}
use Rattle.blocks.proofs.Positions.{position_there}

-- a slot that takes a class is one of the slots
pub slot_there : (ss : List Slot) (i : ℕ) (c : Class) → takes_class ss i c ≡ true → i < length ss
slot_there [] i c h = let z : ◌≡◌ {A = ℕ} 0 1 = cc in absurd (omega arith)
slot_there (s ∷ ss) zero c h = omega arith
slot_there (s ∷ ss) (suc i) c h = omega (arith, slot_there ss i c h)

any_none : (p : Position) (qs : List (Option Position)) → ((j : ℕ) → j < length qs → clash (get_or qs j None) (Some p) ≡ true → ⊥) → any_at p qs ≡ false
any_none p [] h = refl
any_none p (q ∷ qs) h = by (clash q (Some p)) refl (any_none p qs (λ j l. h (suc j) (omega arith)))
  where
    by : (t : Bool) → clash q (Some p) ≡ t → any_at p qs ≡ false → (t || any_at p qs) ≡ false
    by true e ih = absurd (h 0 (omega arith) e)
    by false e ih = ih

any_more : (p : Position) (qs : List (Option Position)) → any_at p (qs ++ None ∷ []) ≡ any_at p qs
any_more p [] = refl
any_more p (q ∷ qs) = ap (λ t. clash q (Some p) || t) (any_more p qs)

put_last : (es : List Entry) (x : Operation) (p : Option Position) → put (es ++ unplaced x ∷ []) (length es) p ≡ es ++ record { operation = x; position = p } ∷ []
put_last [] x p = refl
put_last (e ∷ es) x p = ap (λ l. e ∷ l) (put_last es x p)

-- the operations up to e, of all those of a block
module _ (slots : List Slot) (es : List Entry) (e : Entry) (rest : List Entry) (well : WellPlaced slots (es ++ e ∷ rest)) where
  pub room : length es < 64
  room = omega (arith, well.few, length-append es (e ∷ rest))

  fits : fits_slot slots e ≡ true
  fits =
      sym (ap (λ l. get_or l (length es) true) (map-append (fits_slot slots) es (e ∷ rest))
      ∙ get_or_at (map (fits_slot slots) es) (fits_slot slots e) (map (fits_slot slots) rest) true (length es) (length-map es (fits_slot slots)))
      ∙ well.fit (length es)

  here : placed (es ++ e ∷ rest) (length es) ≡ e.position
  here =
      ap (λ l. get_or l (length es) None) (map-append position_of es (e ∷ rest))
      ∙ get_or_at (map position_of es) e.position (map position_of rest) None (length es) (length-map es position_of)

  before : (j : ℕ) → j < length (map position_of es) → placed (es ++ e ∷ rest) j ≡ get_or (map position_of es) j None
  before j h =
      ap (λ l. get_or l j None) (map-append position_of es (e ∷ rest))
      ∙ get_or_append_left (map position_of es) (e.position ∷ map position_of rest) None j h

  module _ (p : Position) (at : e.position ≡ Some p) where
    free : any_at p (map position_of es) ≡ false
    free = any_none p (map position_of es) (λ j l c.
        let same : j ≡ length es = well.apart j (length es) (ap₂ clash (before j l) (here ∙ at) ∙ c) in
        omega (arith, length-map es position_of))

    abbrev added : List Entry
    added = es ++ unplaced e.operation ∷ []

    not_occupied : occupied added (length es) p ≡ false
    not_occupied =
        ap (λ l. any_at p (set l (length es) None)) (map-append position_of es (unplaced e.operation ∷ []))
        ∙ ap (any_at p) (set_at (map position_of es) None [] None (length es) (length-map es position_of))
        ∙ any_more p (map position_of es)
        ∙ free

    class_last : class_at added (length es) ≡ entry_class e
    class_last =
        ap (λ l. get_or l (length es) class.Integer) (map-append entry_class es (unplaced e.operation ∷ []))
        ∙ get_or_at (map entry_class es) (entry_class e) [] class.Integer (length es) (length-map es entry_class)

    pub takes : takes_class slots p.slot (entry_class e) ≡ true
    takes = sym (ap (fits_position slots (entry_class e)) at) ∙ fits

    whole : record { operation = e.operation; position = Some p } ≡ e
    whole = sym (λ i. record { operation = e.operation; position = at i })

    pub placed_last : (x : Exit) → place_step slots (record { entries = added; exit = x }) (length es) p.cycle p.slot ≡ Ok (tt, record { entries = es ++ e ∷ []; exit = x })
    placed_last x =
        let few : ltb (length es) (length added) ≡ true = lt-ltb _ _ (omega (arith, length_push es (unplaced e.operation))) in
        let there : ltb p.slot (length slots) ≡ true = lt-ltb _ _ (slot_there slots p.slot (entry_class e) takes) in
        let early : ltb p.cycle 1024 ≡ true = lt-ltb _ _ p.early in
        let back : position_at p.cycle p.slot ≡ Some p = sym (position_there p.cycle p.slot p.early p.narrow) in
        simp back
        (simp (few, there, early, class_last, takes, not_occupied)
        (ap (λ (l : List Entry). Ok (tt, record { entries = l; exit = x })) (put_last es e.operation (Some p) ∙ ap (λ (y : Entry). es ++ y ∷ []) whole)))
