-- What is handed in is accepted as an operation if and only if it is that operation with its registers by name.
-- Assumes nothing.
use Rattle.std.proofs.Common.{◌≡◌, ℕ, Bool, true, false, cond, ltb, Some, None, Ok, Err, Option, Result, sym, refl, ap, ◌∙◌, ap₂, arith, lt-ltb}
use Rattle.std.specs.Option.{option_map, option_zip, option_flatten}
use Rattle.registers.proofs.Numbered.{number_there}
use Rattle.registers.specs.declared.banked.Banked.{Banked}
use Rattle.registers.specs.declared.banked.Banked.TheVariants as banked
use Rattle.registers.specs.Registers.{RegisterNumber, General, Predicate, numbered}
use Rattle.registers.specs.Names.{named}
use Rattle.operations.specs.declared.operation.Source as source
use Rattle.operations.specs.declared.operation.Source.{Source}
use Rattle.operations.specs.declared.operation.Form.{Form}
use Rattle.operations.specs.declared.operation.Form.TheVariants.{Binary, Unary, Compare, Load, Store}
use Rattle.operations.specs.declared.operation.Operation.{Operation}
use Rattle.operations.specs.declared.targets.Targets.{Targets}
use Rattle.registers.specs.declared.names.RegisterName as name
use Rattle.registers.specs.declared.names.RegisterName.{RegisterName}
use Rattle.operations.specs.declared.raw.Opcode as opcode
use Rattle.operations.specs.declared.raw.Opcode.{Opcode}
use Rattle.operations.specs.declared.raw.Operand as operand
use Rattle.operations.specs.declared.raw.Operand.{Operand}
use Rattle.operations.specs.declared.raw.UpToTwo.{UpToTwo}
use Rattle.operations.specs.declared.raw.UpToTwo.TheVariants.{Zero, One, Two}
use Rattle.operations.specs.declared.raw.RawOperation.{RawOperation}
use Rattle.operations.specs.declared.refusal.Refusal.{Refusal}
use Rattle.operations.specs.declared.refusal.Refusal.TheVariants.{NoSuch, WrongOperands}
use Rattle.registers.specs.Registers.{below, one_place}
use Rattle.opcodes.specs.declared.compare.Action.{Action}
use Rattle.operations.specs.Typing.{general_named, predicate_named, source_of, address_of, zero, one, two, apart, known_operand, targets_of, form_of, guarded, typed_of}
use Rattle.operations.specs.Raw.{name_of, named_general, named_predicate, raw_source, raw_address, raw_opcode, raw_destinations, raw_sources, raw_of, Accepts}
use Rattle.operations.proofs.Apart.{targets_there}

number_back : (n : RegisterNumber) → numbered n.number ≡ Some n
number_back n = sym (number_there n.number n.below (lt-ltb _ _ n.below))

pub name_back : {bits : ℕ} (x : Banked RegisterNumber bits) → named (name_of x) ≡ Some x
name_back (banked.Static n) = ap (option_map banked.Static) (number_back n)
name_back (banked.Rotating n) = ap (option_map banked.Rotating) (number_back n)

source_back : (s : Source) → source_of (raw_source s) ≡ Some s
source_back (source.TheVariants.Register g) = ap (option_map source.TheVariants.Register) (name_back g)
source_back (source.TheVariants.Literal z) = refl

operand_back : (s : Source) → known_operand (raw_source s) ≡ true
operand_back (source.TheVariants.Register g) = rw (name_back g)
operand_back (source.TheVariants.Literal z) = refl

targets_back : (t : Targets) → targets_of t.first.action t.second.action (t.first.to, t.second.to) ≡ Some t
targets_back t = sym (targets_there t.first.to t.second.to t.first.action t.second.action t.apart)

typed_back : (g : Predicate) (f : Form) → typed_of (raw_of (record { guard = g; form = f })) ≡ Ok (record { guard = g; form = f })
typed_back g (Binary o d a b) = simp (name_back g, name_back d, source_back a, source_back b, operand_back a, operand_back b)
typed_back g (Unary o d a) = simp (name_back g, name_back d, source_back a, operand_back a)
typed_back g (Compare c t a b) = simp (name_back g, name_back t.first.to, name_back t.second.to, targets_back t, source_back a, source_back b, operand_back a, operand_back b)
typed_back g (Load d a) = simp (name_back g, name_back d, name_back a)
typed_back g (Store a v) = simp (name_back g, name_back a, name_back v)

-- the other way: what an accepted one was handed in as

pub nothing_is : {A : Type 0} {B : Type 0} (x : A) → ◌≡◌ {A = Option A} None (Some x) → B
nothing_is x e = let z : ◌≡◌ {A = ℕ} 0 1 = cc in absurd (omega arith)

mapped_some : {A B : Type 0} (f : A → B) (o : Option A) (y : B) → option_map f o ≡ Some y → (x : A) × (o ≡ Some x) × (f x ≡ y)
mapped_some f None y e = nothing_is y e
mapped_some f (Some x) y e = (x, refl, cc)

zipped_some : {A B : Type 0} (a : Option A) (b : Option B) (y : A × B) → option_zip a b ≡ Some y → (a ≡ Some y.0) × (b ≡ Some y.1)
zipped_some None b y e = nothing_is y e
zipped_some (Some x) None y e = nothing_is y e
zipped_some (Some x) (Some z) y e = let p : (x, z) ≡ y = cc in (ap (λ q. Some q.0) p, ap (λ q. Some q.1) p)

one_some : {A B : Type 0} (f : A → Option B) (d : UpToTwo A) (y : B) → one f d ≡ Some y → (x : A) × (d ≡ One x) × (f x ≡ Some y)
one_some f Zero y e = nothing_is y e
one_some f (One x) y e = (x, refl, e)
one_some f (Two x z) y e = nothing_is y e

two_some : {A B : Type 0} (f : A → Option B) (d : UpToTwo A) (y : B × B) → two f d ≡ Some y → (x : A) × (z : A) × (d ≡ Two x z) × (f x ≡ Some y.0) × (f z ≡ Some y.1)
two_some f Zero y e = nothing_is y e
two_some f (One x) y e = nothing_is y e
two_some f (Two x z) y e = let p = zipped_some (f x) (f z) y e in (x, z, refl, p.0, p.1)

zero_some : {A : Type 0} (d : UpToTwo A) (y : Unit {0}) → zero d ≡ Some y → d ≡ Zero
zero_some Zero y e = refl
zero_some (One x) y e = nothing_is y e
zero_some (Two x z) y e = nothing_is y e

number_is : (n : ℕ) (m : RegisterNumber) → numbered n ≡ Some m → m.number ≡ n
number_is n m e = by (ltb n 32) refl e
  where
    by : (b : Bool) (t : ltb n 32 ≡ b) → below n b t ≡ Some m → m.number ≡ n
    by true t h = ap (λ (o : Option RegisterNumber). elim o [ None ↦ n | Some k ↦ k.number ]) (sym h)
    by false t h = nothing_is m h

name_is : {bits : ℕ} (n : Banked ℕ bits) (x : Banked RegisterNumber bits) → named n ≡ Some x → name_of x ≡ n
name_is (banked.Static n) x e =
    let s = mapped_some banked.Static (numbered n) x e in
    sym (ap name_of s.2) ∙ ap banked.Static (number_is n s.0 s.1)
name_is (banked.Rotating n) x e =
    let s = mapped_some banked.Rotating (numbered n) x e in
    sym (ap name_of s.2) ∙ ap banked.Rotating (number_is n s.0 s.1)

general_named_is : (n : RegisterName) (g : General) → general_named n ≡ Some g → named_general g ≡ n
general_named_is (name.TheVariants.General n) g e = ap name.TheVariants.General (name_is n g e)
general_named_is (name.TheVariants.Predicate n) g e = nothing_is g e

predicate_named_is : (n : RegisterName) (p : Predicate) → predicate_named n ≡ Some p → named_predicate p ≡ n
predicate_named_is (name.TheVariants.General n) p e = nothing_is p e
predicate_named_is (name.TheVariants.Predicate n) p e = ap name.TheVariants.Predicate (name_is n p e)

source_is : (a : Operand) (s : Source) → source_of a ≡ Some s → raw_source s ≡ a
source_is (operand.TheVariants.Register n) s e =
    let m = mapped_some source.TheVariants.Register (general_named n) s e in
    sym (ap raw_source m.2) ∙ ap operand.TheVariants.Register (general_named_is n m.0 m.1)
source_is (operand.TheVariants.Literal z) s e = let h : source.TheVariants.Literal z ≡ s = cc in sym (ap raw_source h)

address_is : (a : Operand) (g : General) → address_of a ≡ Some g → raw_address g ≡ a
address_is (operand.TheVariants.Register n) g e = ap operand.TheVariants.Register (general_named_is n g e)
address_is (operand.TheVariants.Literal z) g e = nothing_is g e

flattened_some : {A : Type 0} (o : Option (Option A)) (y : A) → option_flatten o ≡ Some y → o ≡ Some (Some y)
flattened_some None y e = nothing_is y e
flattened_some (Some p) y e = ap (λ (x : Option _). Some x) e

pub record TargetsAre (a b : Action) (p : Predicate × Predicate) (t : Targets) : Type 0 where
  pub first_to : t.first.to ≡ p.0
  pub second_to : t.second.to ≡ p.1
  pub first_action : t.first.action ≡ a
  pub second_action : t.second.action ≡ b

targets_are : (a b : Action) (p : Predicate × Predicate) (t : Targets) → targets_of a b p ≡ Some t → TargetsAre a b p t
targets_are a b p t e = by (one_place p.0 p.1) refl e
  where
    by : (s : Bool) (h : one_place p.0 p.1 ≡ s) → apart p.0 p.1 a b s h ≡ Some t → TargetsAre a b p t
    by true h k = nothing_is t k
    by false h k =
        let same : record { first = record { to = p.0; action = a }; second = record { to = p.1; action = b }; apart = h } ≡ t = cc in
        record {
          first_to = sym (ap (λ (x : Targets). x.first.to) same);
          second_to = sym (ap (λ (x : Targets). x.second.to) same);
          first_action = sym (ap (λ (x : Targets). x.first.action) same);
          second_action = sym (ap (λ (x : Targets). x.second.action) same);
        }

-- a form that was made of these
pub record Made (o : Opcode) (d : UpToTwo RegisterName) (s : UpToTwo Operand) (f : Form) : Type 0 where
  pub opcodes : raw_opcode f ≡ o
  pub destinations : raw_destinations f ≡ d
  pub sources : raw_sources f ≡ s

-- what one or two operands were handed in as
one_was : {A B : Type 0} (f : A → Option B) (raw : B → A) → ((x : A) (y : B) → f x ≡ Some y → raw y ≡ x) →
    (d : UpToTwo A) (y : B) → one f d ≡ Some y → One (raw y) ≡ d
one_was f raw is d y e = let m = one_some f d y e in ap One (is m.0 y m.2) ∙ sym m.1

two_were : {A B : Type 0} (f : A → Option B) (raw : B → A) → ((x : A) (y : B) → f x ≡ Some y → raw y ≡ x) →
    (d : UpToTwo A) (y : B × B) → two f d ≡ Some y → Two (raw y.0) (raw y.1) ≡ d
two_were f raw is d y e = let m = two_some f d y e in ap₂ Two (is m.0 y.0 m.3) (is m.1 y.1 m.4) ∙ sym m.2

form_made : (o : Opcode) (d : UpToTwo RegisterName) (s : UpToTwo Operand) (f : Form) → form_of o d s ≡ Some f → Made o d s f
form_made (opcode.TheVariants.Binary o) d s f e =
    let m = mapped_some _ (option_zip (one general_named d) (two source_of s)) f e in
    let z = zipped_some (one general_named d) (two source_of s) m.0 m.1 in
    record {
      opcodes = sym (ap raw_opcode m.2);
      destinations = sym (ap raw_destinations m.2) ∙ one_was general_named named_general general_named_is d m.0.0 z.0;
      sources = sym (ap raw_sources m.2) ∙ two_were source_of raw_source source_is s m.0.1 z.1;
    }
form_made (opcode.TheVariants.Unary o) d s f e =
    let m = mapped_some _ (option_zip (one general_named d) (one source_of s)) f e in
    let z = zipped_some (one general_named d) (one source_of s) m.0 m.1 in
    record {
      opcodes = sym (ap raw_opcode m.2);
      destinations = sym (ap raw_destinations m.2) ∙ one_was general_named named_general general_named_is d m.0.0 z.0;
      sources = sym (ap raw_sources m.2) ∙ one_was source_of raw_source source_is s m.0.1 z.1;
    }
form_made (opcode.TheVariants.Compare c a b) d s f e =
    let m = mapped_some _ (option_zip (option_flatten (option_map (targets_of a b) (two predicate_named d))) (two source_of s)) f e in
    let z = zipped_some (option_flatten (option_map (targets_of a b) (two predicate_named d))) (two source_of s) m.0 m.1 in
    let k = mapped_some (targets_of a b) (two predicate_named d) (Some m.0.0) (flattened_some (option_map (targets_of a b) (two predicate_named d)) m.0.0 z.0) in
    let t = targets_are a b k.0 m.0.0 k.2 in
    record {
      opcodes = sym (ap raw_opcode m.2) ∙ ap₂ (opcode.TheVariants.Compare c) t.first_action t.second_action;
      destinations = sym (ap raw_destinations m.2)
          ∙ ap₂ (λ p q. Two (named_predicate p) (named_predicate q)) t.first_to t.second_to
          ∙ two_were predicate_named named_predicate predicate_named_is d k.0 k.1;
      sources = sym (ap raw_sources m.2) ∙ two_were source_of raw_source source_is s m.0.1 z.1;
    }
form_made opcode.TheVariants.Load d s f e =
    let m = mapped_some _ (option_zip (one general_named d) (one address_of s)) f e in
    let z = zipped_some (one general_named d) (one address_of s) m.0 m.1 in
    record {
      opcodes = sym (ap raw_opcode m.2);
      destinations = sym (ap raw_destinations m.2) ∙ one_was general_named named_general general_named_is d m.0.0 z.0;
      sources = sym (ap raw_sources m.2) ∙ one_was address_of raw_address address_is s m.0.1 z.1;
    }
form_made opcode.TheVariants.Store d s f e =
    let m = mapped_some _ (option_zip (zero d) (two address_of s)) f e in
    let z = zipped_some (zero d) (two address_of s) m.0 m.1 in
    record {
      opcodes = sym (ap raw_opcode m.2);
      destinations = sym (ap raw_destinations m.2) ∙ sym (zero_some d m.0.0 z.0);
      sources = sym (ap raw_sources m.2) ∙ two_were address_of raw_address address_is s m.0.1 z.1;
    }

refused_is : {B : Type 0} (r : Refusal) (x : Operation) → ◌≡◌ {A = Result Operation Refusal} (Err r) (Ok x) → B
refused_is r x e = let z : ◌≡◌ {A = ℕ} 0 1 = cc in absurd (omega arith)

typed_parts : (b : Bool) (g : Option Predicate) (f : Option Form) (x : Operation) → cond b (guarded g f) (Err NoSuch) ≡ Ok x → (g ≡ Some x.guard) × (f ≡ Some x.form)
typed_parts false g f x e = refused_is NoSuch x e
typed_parts true None f x e = refused_is NoSuch x e
typed_parts true (Some g) None x e = refused_is WrongOperands x e
typed_parts true (Some g) (Some f) x e =
    let h : record { guard = g; form = f } ≡ x = cc in
    (ap (λ (y : Operation). Some y.guard) h, ap (λ (y : Operation). Some y.form) h)

typed_made : (q : RawOperation) (x : Operation) → typed_of q ≡ Ok x → raw_of x ≡ q
typed_made q x e =
    let t = typed_parts _ (named q.guard) (form_of q.opcode q.destinations q.sources) x e in
    let m = form_made q.opcode q.destinations q.sources x.form t.1 in
    λ i. record {
      opcode = m.opcodes i;
      guard = name_is q.guard x.guard t.0 i;
      destinations = m.destinations i;
      sources = m.sources i;
    }

pub accepts : (q : RawOperation) → Accepts q (typed_of q)
accepts q x = (typed_made q x, λ e. ap typed_of (sym e) ∙ typed_back x.guard x.form)

pub exactly : (q : RawOperation) (r : Result Operation Refusal) → r ≡ typed_of q → Accepts q r
exactly q r e = λ x. (λ h. (accepts q x).0 (sym e ∙ h), λ h. e ∙ (accepts q x).1 h)
