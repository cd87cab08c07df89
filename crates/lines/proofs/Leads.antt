-- The first two bytes of a text tell what kind of item it begins with. Assumes nothing.
use Rattle.std.proofs.Common.{◌≡◌, ℕ, suc, ◌+◌, ◌≤◌, IfSome, MatchOption, Option, Some, None, Bor, subst, Bool, cond, ◌&&◌, ◌||◌, eqb, leb, List, ◌++◌, get_or, ℤ, pos, negsuc, sym, refl, ap, ◌∙◌, arith}
use Rattle.std.specs.Fmt.{signed_decimal}
use Rattle.opcodes.specs.declared.integer.BinaryOpcode.{BinaryOpcode}
use Rattle.opcodes.specs.declared.integer.BinaryOpcode.TheVariants as binary
use Rattle.opcodes.specs.declared.integer.UnaryOpcode.{UnaryOpcode}
use Rattle.opcodes.specs.declared.integer.UnaryOpcode.TheVariants as unary
use Rattle.registers.specs.declared.banked.Banked.TheVariants as banked
use Rattle.lines.specs.declared.written.WrittenRegister.{WrittenRegister}
use Rattle.lines.specs.declared.written.WrittenRegister.TheVariants as name
use Rattle.operations.specs.declared.raw.Opcode.{Opcode}
use Rattle.operations.specs.declared.raw.Opcode.TheVariants as opcode
use Rattle.lines.specs.declared.mark.Mark.{Mark}
use Rattle.lines.specs.declared.mark.Mark.TheVariants.{Space, Equals, Comma, Open, Close, Colon, Unplaced, If, Exit, Halt, Next, Goto, Loop, Block, Slot}
use Rattle.lines.specs.declared.mark.Mark.TheVariants as mark
use Rattle.lines.specs.declared.mark.Latency.TheVariants.{Integer, Load, Compare}
use Rattle.lines.specs.declared.written.Token.{Token}
use Rattle.lines.specs.declared.written.Token.TheVariants as token
use Rattle.lines.specs.Begins.{Begins}
use Rattle.lines.specs.Marks.{mark_text}
use Rattle.lines.specs.Numbers.{ShortLiteral}
use Rattle.lines.specs.Written.{name_text, opcode_text}
use Rattle.lines.specs.Tokens.{TokenAt}
use Rattle.lines.proofs.NameTexts.{Digit, first_digit}

abbrev digit : ℕ → Bool
digit b = leb 48 b && leb b 57

-- by the first byte, and the second where the first is a minus
abbrev lead : ℕ → ℕ → ℕ
lead b c = cond (eqb b 114 || eqb b 112) 1 (cond (digit b || (eqb b 45 && digit c)) 2 (cond (leb 65 b && leb b 90) 3 0))

abbrev lead_of : List ℕ → ℕ
lead_of t = lead (get_or t 0 0) (get_or t 1 0)

abbrev pub kind : Token → ℕ
kind (token.Register x) = 1
kind (token.Literal z) = 2
kind (token.Opcode o) = 3
kind (token.Mark m) = 0

lead_digit : (b c : ℕ) → Digit b → lead b c ≡ 2
lead_digit b c d = grind arith

lead_minus : (c : ℕ) → Digit c → lead 45 c ≡ 2
lead_minus c d = grind arith

lead_name : (x : WrittenRegister) (rest : List ℕ) → lead_of (name_text x ++ rest) ≡ 1
lead_name (name.General (banked.Static n)) rest = refl
lead_name (name.General (banked.Rotating n)) rest = refl
lead_name (name.Predicate (banked.Static n)) rest = refl
lead_name (name.Predicate (banked.Rotating n)) rest = refl

lead_literal : (z : ℤ) (rest : List ℕ) → ShortLiteral z → lead_of (signed_decimal z ++ rest) ≡ 2
lead_literal (pos n) rest h = lead_digit _ (get_or (signed_decimal (pos n) ++ rest) 1 0) (first_digit n rest h)
lead_literal (negsuc n) rest h = lead_minus _ (first_digit (suc n) rest h)

lead_binary : (o : BinaryOpcode) (rest : List ℕ) → lead_of (opcode_text (opcode.Binary o) ++ rest) ≡ 3
lead_binary binary.Add rest = refl
lead_binary binary.Sub rest = refl
lead_binary binary.And rest = refl
lead_binary binary.Or rest = refl
lead_binary binary.Xor rest = refl
lead_binary binary.Shl rest = refl
lead_binary binary.Shr rest = refl
lead_binary binary.Shra rest = refl
lead_binary binary.Min rest = refl
lead_binary binary.Max rest = refl
lead_binary binary.Minl rest = refl
lead_binary binary.Maxl rest = refl

lead_unary : (o : UnaryOpcode) (rest : List ℕ) → lead_of (opcode_text (opcode.Unary o) ++ rest) ≡ 3
lead_unary unary.Abs rest = refl
lead_unary unary.Move rest = refl

lead_opcode : (o : Opcode) (rest : List ℕ) → lead_of (opcode_text o ++ rest) ≡ 3
lead_opcode (opcode.Binary o) rest = lead_binary o rest
lead_opcode (opcode.Unary o) rest = lead_unary o rest
lead_opcode (opcode.Compare k a b) rest = refl
lead_opcode opcode.Load rest = refl
lead_opcode opcode.Store rest = refl

lead_mark : (m : Mark) (rest : List ℕ) → lead_of (mark_text m ++ rest) ≡ 0
lead_mark Space rest = refl
lead_mark Equals rest = refl
lead_mark Comma rest = refl
lead_mark Open rest = refl
lead_mark Close rest = refl
lead_mark Colon rest = refl
lead_mark Unplaced rest = refl
lead_mark If rest = refl
lead_mark Exit rest = refl
lead_mark Halt rest = refl
lead_mark Next rest = refl
lead_mark Goto rest = refl
lead_mark Loop rest = refl
lead_mark Block rest = refl
lead_mark Slot rest = refl
lead_mark (mark.Latency Integer) rest = refl
lead_mark (mark.Latency Load) rest = refl
lead_mark (mark.Latency Compare) rest = refl

lead_token : (t : List ℕ) (k : Token) (rest : List ℕ) → TokenAt t k rest → lead_of t ≡ kind k
lead_token t (token.Register x) rest h = ap lead_of h.whole ∙ lead_name x rest
lead_token t (token.Literal z) rest h = ap lead_of h.whole ∙ lead_literal z rest h.short
lead_token t (token.Opcode o) rest h = ap lead_of h.whole ∙ lead_opcode o rest
lead_token t (token.Mark m) rest h = ap lead_of h.whole ∙ lead_mark m rest

one_kind : (t : List ℕ) (j k : Token) (r s : List ℕ) → TokenAt t j r → TokenAt t k s → kind j ≡ kind k
one_kind t j k r s g h = sym (lead_token t j r g) ∙ lead_token t k s h

-- a token of a kind, as what it says
abbrev Of : {X : Type 0} → (X → Token) → Token → Type 0
Of {X} token k = (x : X) × (k ≡ token x)

pub mark_of : (k : Token) → kind k ≡ 0 → Of token.Mark k
mark_of (token.Register x) e = absurd (omega (arith, e))
mark_of (token.Literal z) e = absurd (omega (arith, e))
mark_of (token.Opcode o) e = absurd (omega (arith, e))
mark_of (token.Mark m) e = (m, refl)

pub register_of : (k : Token) → kind k ≡ 1 → Of token.Register k
register_of (token.Register x) e = (x, refl)
register_of (token.Literal z) e = absurd (omega (arith, e))
register_of (token.Opcode o) e = absurd (omega (arith, e))
register_of (token.Mark m) e = absurd (omega (arith, e))

pub literal_of : (k : Token) → kind k ≡ 2 → Of token.Literal k
literal_of (token.Register x) e = absurd (omega (arith, e))
literal_of (token.Literal z) e = (z, refl)
literal_of (token.Opcode o) e = absurd (omega (arith, e))
literal_of (token.Mark m) e = absurd (omega (arith, e))

pub opcode_of : (k : Token) → kind k ≡ 3 → Of token.Opcode k
opcode_of (token.Register x) e = absurd (omega (arith, e))
opcode_of (token.Literal z) e = absurd (omega (arith, e))
opcode_of (token.Opcode o) e = (o, refl)
opcode_of (token.Mark m) e = absurd (omega (arith, e))

-- what is read by the readers of the kinds below n
pub record Partly (n : ℕ) (t : List ℕ) (r : Option (Token × Bor (List ℕ))) : Type 0 where
  pub sound : IfSome r (λ x. TokenAt t x.0 x.1.now)
  pub only : (k : Token) (rest : List ℕ) → TokenAt t k rest → MatchOption r (n ≤ kind k) (λ y. (y.0 ≡ k) × (y.1.now ≡ rest))

-- what the reader of one kind reads, under its token
abbrev pub Tried : {X : Type 0} → (X → Token) → List ℕ → Option (Token × Bor (List ℕ)) → Type 0
Tried {X} token t r = (q : Option (X × Bor (List ℕ))) × Begins (λ x rest. TokenAt t (token x) rest) q × MatchOption q (r ≡ None) (λ x. r ≡ Some (token x.0, x.1))

module _ {X : Type 0} (token : X → Token) (n : ℕ) (is : (x : X) → kind (token x) ≡ n) (of : (k : Token) → kind k ≡ n → Of token k) (t : List ℕ) where
  pub tried : (r : Option (Token × Bor (List ℕ))) → ((k : Token) (rest : List ℕ) → TokenAt t k rest → n ≤ kind k) → Tried token t r → Partly (n + 1) t r
  tried r others (None, b, e) = subst (Partly (n + 1) t) (sym e) (record { sound = tt; only = λ k rest h. omega (arith, others k rest h, λ (z : kind k ≡ n). let w = of k z in b.complete w.0 rest (subst (λ j. TokenAt t j rest) w.1 h)) })
  tried r others (Some x, b, e) = subst (Partly (n + 1) t) (sym e) (record {
    sound = b.sound;
    only = λ k rest h.
        let w = of k (sym (one_kind t (token x.0) k x.1.now rest b.sound h) ∙ is x.0) in
        let p = b.complete w.0 rest (subst (λ j. TokenAt t j rest) w.1 h) in
        (ap token p.0 ∙ sym w.1, p.1);
  })

  pub tried_next : (a r : Option (Token × Bor (List ℕ))) → Partly n t a → MatchOption a (Tried token t r) (λ x. r ≡ Some x) → Partly (n + 1) t r
  tried_next None r p m = tried r p.only m
  tried_next (Some x) r p m = subst (Partly (n + 1) t) (sym m) (record { sound = p.sound; only = p.only })

-- and there are no other kinds
pub all_kinds : (t : List ℕ) (r : Option (Token × Bor (List ℕ))) → Partly 4 t r → Begins (TokenAt t) r
all_kinds t None p = record { sound = tt; complete = λ k rest h. few k (p.only k rest h) }
  where
    few : (k : Token) → 4 ≤ kind k → ⊥
    few (token.Register x) h = omega (arith, h)
    few (token.Literal z) h = omega (arith, h)
    few (token.Opcode o) h = omega (arith, h)
    few (token.Mark m) h = omega (arith, h)
all_kinds t (Some x) p = record { sound = p.sound; complete = p.only }

-- the case where the reader before has read nothing
pub turn : {X : Type 0} (token : X → Token) (t : List ℕ) (a r : Option (Token × Bor (List ℕ))) (E : Type 0) → (E → Tried token t r) → MatchOption a E (λ x. r ≡ Some x) → MatchOption a (Tried token t r) (λ x. r ≡ Some x)
turn token t None r E f m = f m
turn token t (Some x) r E f m = m
