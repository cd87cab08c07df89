-- Opcodes are told apart by their texts. Assumes nothing.
use Rattle.std.proofs.Common.{◌≡◌, ℕ, List, [], ◌∷◌, ◌++◌, get_or, Some, codes, sym, refl, ap, ◌∙◌, append_assoc, arith}
use Rattle.opcodes.specs.Texts.{condition_text, action_text}
use Rattle.opcodes.specs.declared.integer.BinaryOpcode.{BinaryOpcode}
use Rattle.opcodes.specs.declared.integer.BinaryOpcode.TheVariants.{Add, Sub, And, Or, Xor, Shl, Shr, Shra, Min, Max, Minl, Maxl}
use Rattle.opcodes.specs.declared.integer.UnaryOpcode.{UnaryOpcode}
use Rattle.opcodes.specs.declared.integer.UnaryOpcode.TheVariants.{Abs, Move}
use Rattle.opcodes.specs.declared.compare.Condition.{Condition}
use Rattle.opcodes.specs.declared.compare.Condition.TheVariants.{Never, Equal, Less, LessEqual, LogicalLess, LogicalLessEqual, Always, NotEqual, GreaterEqual, Greater, LogicalGreaterEqual, LogicalGreater}
use Rattle.opcodes.specs.declared.compare.Action.{Action}
use Rattle.opcodes.specs.declared.compare.Action.TheVariants.{Un, Uc, Cn, Cc, On, Oc, An, Ac}
use Rattle.operations.specs.declared.raw.Opcode.{Opcode}
use Rattle.operations.specs.declared.raw.Opcode.TheVariants as opcode
use Rattle.std.proofs.lemmas.List.{append_cancel_left}
use Rattle.lines.specs.declared.written.Token.TheVariants as token
use Rattle.lines.specs.Tokens.{TokenAt, Bracket}
use Rattle.lines.specs.Written.{opcode_text}
use Rattle.lines.proofs.Beginnings.{worded}

abbrev pub condition_word : Condition → List ℕ
condition_word k = condition_text k ++ codes "."

abbrev pub conditions : List Condition
conditions = Never ∷ Equal ∷ Less ∷ LessEqual ∷ LogicalLess ∷ LogicalLessEqual ∷ Always ∷ NotEqual ∷ GreaterEqual ∷ Greater ∷ LogicalGreaterEqual ∷ LogicalGreater ∷ []

pub each_condition : (k : Condition) (rest : List ℕ) → worded condition_word conditions (condition_word k ++ rest) ≡ Some (k, rest)
each_condition Never rest = refl
each_condition Equal rest = refl
each_condition Less rest = refl
each_condition LessEqual rest = refl
each_condition LogicalLess rest = refl
each_condition LogicalLessEqual rest = refl
each_condition Always rest = refl
each_condition NotEqual rest = refl
each_condition GreaterEqual rest = refl
each_condition Greater rest = refl
each_condition LogicalGreaterEqual rest = refl
each_condition LogicalGreater rest = refl

abbrev pub actions : List Action
actions = Un ∷ Uc ∷ Cn ∷ Cc ∷ On ∷ Oc ∷ An ∷ Ac ∷ []

pub each_action : (a : Action) (rest : List ℕ) → worded action_text actions (action_text a ++ rest) ≡ Some (a, rest)
each_action Un rest = refl
each_action Uc rest = refl
each_action Cn rest = refl
each_action Cc rest = refl
each_action On rest = refl
each_action Oc rest = refl
each_action An rest = refl
each_action Ac rest = refl

abbrev pub opcodes : List Opcode
opcodes =
    opcode.Binary Add ∷ opcode.Binary Sub ∷ opcode.Binary And ∷ opcode.Binary Or ∷ opcode.Binary Xor ∷ opcode.Binary Shl ∷ opcode.Binary Shr ∷ opcode.Binary Shra ∷ opcode.Binary Min ∷ opcode.Binary Max ∷ opcode.Binary Minl ∷ opcode.Binary Maxl
    ∷ opcode.Unary Abs ∷ opcode.Unary Move ∷ opcode.Load ∷ opcode.Store ∷ []

each_binary : (o : BinaryOpcode) (rest : List ℕ) → worded opcode_text opcodes (opcode_text (opcode.Binary o) ++ rest) ≡ Some (opcode.Binary o, rest)
each_binary Add rest = refl
each_binary Sub rest = refl
each_binary And rest = refl
each_binary Or rest = refl
each_binary Xor rest = refl
each_binary Shl rest = refl
each_binary Shr rest = refl
each_binary Shra rest = refl
each_binary Min rest = refl
each_binary Max rest = refl
each_binary Minl rest = refl
each_binary Maxl rest = refl

each_unary : (o : UnaryOpcode) (rest : List ℕ) → worded opcode_text opcodes (opcode_text (opcode.Unary o) ++ rest) ≡ Some (opcode.Unary o, rest)
each_unary Abs rest = refl
each_unary Move rest = refl

-- a compare is none of these
pub each_opcode : (o : Opcode) (rest : List ℕ) → ((t : List ℕ) → opcode_text o ++ 40 ∷ rest ≡ codes "CMPP.W." ++ t → ⊥) → worded opcode_text opcodes (opcode_text o ++ 40 ∷ rest) ≡ Some (o, 40 ∷ rest)
each_opcode (opcode.Binary o) rest h = each_binary o (40 ∷ rest)
each_opcode (opcode.Unary o) rest h = each_unary o (40 ∷ rest)
each_opcode (opcode.Compare k a b) rest h = absurd (h ((condition_text k ++ (codes "." ++ (action_text a ++ (codes "." ++ action_text b)))) ++ 40 ∷ rest) refl)
each_opcode opcode.Load rest h = refl
each_opcode opcode.Store rest h = refl

-- a compare, from its condition on
pub record Compared (t : List ℕ) (o : Opcode) (rest : List ℕ) : Type 0 where
  pub when : Condition
  pub first : Action
  pub second : Action
  pub is : o ≡ opcode.Compare when first second
  pub whole : t ≡ condition_word when ++ (action_text first ++ (codes "." ++ (action_text second ++ rest)))
  pub ends : Bracket rest

parts : (k : Condition) (a b : Action) (rest : List ℕ) → (codes "CMPP.W." ++ (condition_text k ++ (codes "." ++ (action_text a ++ (codes "." ++ action_text b))))) ++ rest ≡ codes "CMPP.W." ++ ((condition_text k ++ codes ".") ++ (action_text a ++ (codes "." ++ (action_text b ++ rest))))
parts k a b rest = simp append_assoc

first : {s t : List ℕ} → s ≡ t → get_or s 0 0 ≡ get_or t 0 0
first e = ap (λ l. get_or l 0 0) e

not_binary : (o : BinaryOpcode) (t rest : List ℕ) → codes "CMPP.W." ++ t ≡ opcode_text (opcode.Binary o) ++ rest → ⊥
not_binary Add t rest e = omega (arith, first e)
not_binary Sub t rest e = omega (arith, first e)
not_binary And t rest e = omega (arith, first e)
not_binary Or t rest e = omega (arith, first e)
not_binary Xor t rest e = omega (arith, first e)
not_binary Shl t rest e = omega (arith, first e)
not_binary Shr t rest e = omega (arith, first e)
not_binary Shra t rest e = omega (arith, first e)
not_binary Min t rest e = omega (arith, first e)
not_binary Max t rest e = omega (arith, first e)
not_binary Minl t rest e = omega (arith, first e)
not_binary Maxl t rest e = omega (arith, first e)

not_unary : (o : UnaryOpcode) (t rest : List ℕ) → codes "CMPP.W." ++ t ≡ opcode_text (opcode.Unary o) ++ rest → ⊥
not_unary Abs t rest e = omega (arith, first e)
not_unary Move t rest e = omega (arith, first e)

pub compared : (t : List ℕ) (o : Opcode) (rest : List ℕ) → TokenAt (codes "CMPP.W." ++ t) (token.Opcode o) rest → Compared t o rest
compared t (opcode.Binary o) rest h = absurd (not_binary o t rest h.whole)
compared t (opcode.Unary o) rest h = absurd (not_unary o t rest h.whole)
compared t (opcode.Compare k a b) rest h = record {
  when = k;
  first = a;
  second = b;
  is = refl;
  whole = append_cancel_left (codes "CMPP.W.") _ _ (h.whole ∙ parts k a b rest);
  ends = h.ends;
}
compared t opcode.Load rest h = absurd (omega (arith, first h.whole))
compared t opcode.Store rest h = absurd (omega (arith, first h.whole))

pub compare_at : (t : List ℕ) (k : Condition) (a b : Action) (r1 r2 r3 rest : List ℕ) → t ≡ condition_word k ++ r1 → r1 ≡ action_text a ++ r2 → r2 ≡ codes "." ++ r3 → r3 ≡ action_text b ++ rest → Bracket rest → TokenAt (codes "CMPP.W." ++ t) (token.Opcode (opcode.Compare k a b)) rest
compare_at t k a b r1 r2 r3 rest e1 e2 e3 e4 ends = record {
  short = tt;
  whole =
      ap (λ l. codes "CMPP.W." ++ l) (e1 ∙ ap (λ l. condition_word k ++ l) (e2 ∙ ap (λ l. action_text a ++ l) (e3 ∙ ap (λ l. codes "." ++ l) e4)))
      ∙ sym (parts k a b rest);
  ends = ends;
}

pub as_compare : (k l : Condition) (a d b e : Action) (o : Opcode) → k ≡ l → a ≡ d → b ≡ e → o ≡ opcode.Compare l d e → opcode.Compare k a b ≡ o
as_compare k l a d b e o p q r s = cc

-- an opcode that is no compare is what the table gives
pub tabled : (t : List ℕ) (o : Opcode) (rest : List ℕ) → ((s : List ℕ) → t ≡ codes "CMPP.W." ++ s → ⊥) → TokenAt t (token.Opcode o) rest → worded opcode_text opcodes t ≡ Some (o, rest)
tabled t o rest none h =
    let s = h.ends.0 in
    let e : t ≡ opcode_text o ++ 40 ∷ s = h.whole ∙ ap (λ l. opcode_text o ++ l) h.ends.1 in
    ap (worded opcode_text opcodes) e ∙ each_opcode o s (λ u p. none u (e ∙ p)) ∙ ap (λ l. Some (o, l)) (sym h.ends.1)
