-- No line has a newline in it, so the lines of a text are found again. Assumes nothing.
use Rattle.std.proofs.Common.{◌≡◌, ℕ, suc, Bool, true, false, cond, not, ◌&&◌, eqb, List, [], ◌∷◌, ◌++◌, map, ℤ, pos, negsuc, Some, None, codes, decimal, Option, sym, refl, ap, ◌∙◌, ap₂, append_assoc, arith}
use Rattle.std.specs.Str.Parse.{AllDigits}
use Rattle.std.specs.List.{AllByRecursion, list_all}
use Rattle.std.proofs.lemmas.List.Folds.{list_all-append}
use Rattle.std.proofs.lemmas.List.Sums.{AllPass-from_list_all}
use Rattle.text.proofs.Cuts.{line_before}
use Rattle.std.specs.Fmt.{signed_decimal}
use Rattle.std.proofs.lemmas.Fmt.{decimal_is_IsNumeral}
use Rattle.std.proofs.lemmas.Str.Parse.{digit_from_value}
use Rattle.std.proofs.lemmas.Bool.{false≢true}
use Rattle.std.proofs.lemmas.Bool.Decides.{nat_tests}
use Rattle.opcodes.specs.declared.integer.BinaryOpcode.{BinaryOpcode}
use Rattle.opcodes.specs.declared.integer.UnaryOpcode.{UnaryOpcode}
use Rattle.opcodes.specs.declared.compare.Condition.{Condition}
use Rattle.opcodes.specs.declared.compare.Action.{Action}
use Rattle.opcodes.specs.Texts.{binary_text, unary_text, condition_text, action_text}
use Rattle.registers.specs.declared.banked.Banked.TheVariants as banked
use Rattle.lines.specs.Banks.{WrittenGeneral, WrittenPredicate}
use Rattle.lines.specs.declared.written.WrittenRegister.{WrittenRegister}
use Rattle.lines.specs.declared.written.WrittenRegister.TheVariants as name
use Rattle.operations.specs.declared.raw.Opcode.{Opcode}
use Rattle.operations.specs.declared.raw.Opcode.TheVariants as opcode
use Rattle.operations.specs.declared.raw.UpToTwo.{UpToTwo}
use Rattle.operations.specs.declared.raw.UpToTwo.TheVariants as up_to
use Rattle.lines.specs.declared.written.WrittenExit.{WrittenExit}
use Rattle.lines.specs.declared.written.WrittenExit.TheVariants.{Halt, Next, Goto, If, Loop}
use Rattle.lines.specs.declared.written.WrittenOperand.{WrittenOperand}
use Rattle.lines.specs.declared.written.WrittenOperand.TheVariants.{Register, Literal}
use Rattle.lines.specs.declared.written.WrittenSources.{WrittenSources}
use Rattle.lines.specs.declared.written.WrittenSources.TheVariants.{One, Two}
use Rattle.lines.specs.declared.written.WrittenOperation.{WrittenOperation}
use Rattle.lines.specs.declared.written.WrittenPosition.{WrittenPosition}
use Rattle.lines.specs.declared.written.ProgramLine.{ProgramLine}
use Rattle.lines.specs.declared.written.ProgramLine.TheVariants as line
use Rattle.lines.specs.Numbers.{Short, ShortLiteral}
use Rattle.lines.specs.Written.{general_name_text, predicate_name_text, name_text, opcode_text, operand_text, sources_text, destinations_text, guard_text, written_text, general_number, predicate_number, ShortName, ShortOperand, ShortSources, ShortDestinations, ShortOperation}
use Rattle.lines.specs.Lines.{position_text, exit_text, program_line_text, ShortPosition, ShortExit, ShortProgram}
use Rattle.text.specs.Texts.{lines_of}
use Rattle.printing.specs.Sets.{lines_text}

abbrev pub plain : List ℕ → Bool
plain bs = list_all (λ b. not (eqb b 10)) bs

-- a line that ends is the first line
pub line_first : (l rest : List ℕ) → plain l ≡ true → lines_of (l ++ 10 ∷ rest) ≡ l ∷ lines_of rest
line_first l rest h = line_before l rest (λ k lt e. false≢true (ap (λ b. not (eqb b 10)) (sym e) ∙ AllPass-from_list_all (λ b. not (eqb b 10)) l h k 0 lt))

pub plain_append : (a b : List ℕ) → plain a ≡ true → plain b ≡ true → plain (a ++ b) ≡ true
plain_append a b p q = list_all-append (λ c. not (eqb c 10)) a b ∙ ap₂ (λ s t. s && t) p q

plain_digits : (ds : List ℕ) → AllDigits 10 ds → plain ds ≡ true
plain_digits [] d = refl
plain_digits (c ∷ cs) d =
    let k = digit_from_value c d.0 in
    let e : not (eqb c 10) ≡ true = grind (arith, nat_tests) in
    ap₂ (λ s t. s && t) e (plain_digits cs d.1)

plain_decimal : (n : ℕ) → Short n → plain (decimal n) ≡ true
plain_decimal n h = plain_digits (decimal n) (decimal_is_IsNumeral n (omega arith)).0.1

plain_signed : (z : ℤ) → ShortLiteral z → plain (signed_decimal z) ≡ true
plain_signed (pos n) h = plain_decimal n h
plain_signed (negsuc n) h = plain_decimal (suc n) h

plain_binary : (o : BinaryOpcode) → plain (binary_text o) ≡ true
plain_binary o = grind arith

plain_unary : (o : UnaryOpcode) → plain (unary_text o) ≡ true
plain_unary o = grind arith

plain_condition : (c : Condition) → plain (condition_text c) ≡ true
plain_condition o = grind arith

plain_action : (a : Action) → plain (action_text a) ≡ true
plain_action o = grind arith

plain_opcode : (o : Opcode) → plain (opcode_text o) ≡ true
plain_opcode (opcode.Binary o) = plain_append (binary_text o) _ (plain_binary o) refl
plain_opcode (opcode.Unary o) = plain_append (unary_text o) _ (plain_unary o) refl
plain_opcode (opcode.Compare c a b) = plain_append (condition_text c) _ (plain_condition c) (plain_append (action_text a) _ (plain_action a) (plain_action b))
plain_opcode opcode.Load = refl
plain_opcode opcode.Store = refl

plain_general : (g : WrittenGeneral) → Short (general_number g) → plain (general_name_text g) ≡ true
plain_general (banked.Static n) h = plain_decimal n h
plain_general (banked.Rotating n) h = plain_decimal n h

plain_predicate : (p : WrittenPredicate) → Short (predicate_number p) → plain (predicate_name_text p) ≡ true
plain_predicate (banked.Static n) h = plain_decimal n h
plain_predicate (banked.Rotating n) h = plain_decimal n h

plain_name : (x : WrittenRegister) → ShortName x → plain (name_text x) ≡ true
plain_name (name.General g) h = plain_general g h
plain_name (name.Predicate p) h = plain_predicate p h

plain_operand : (a : WrittenOperand) → ShortOperand a → plain (operand_text a) ≡ true
plain_operand (Register x) h = plain_name x h
plain_operand (Literal z) h = plain_signed z h

plain_sources : (s : WrittenSources) (rest : List ℕ) → ShortSources s → plain rest ≡ true → plain (sources_text s rest) ≡ true
plain_sources (One a) rest h r = plain_append (operand_text a) rest (plain_operand a h) r
plain_sources (Two a b) rest h r = plain_append (operand_text a) _ (plain_operand a h.0) (plain_append (operand_text b) rest (plain_operand b h.1) r)

plain_destinations : (d : UpToTwo WrittenRegister) (rest : List ℕ) → ShortDestinations d → plain rest ≡ true → plain (destinations_text d rest) ≡ true
plain_destinations up_to.Zero rest h r = r
plain_destinations (up_to.One d) rest h r = plain_append (name_text d) _ (plain_name d h) r
plain_destinations (up_to.Two d e) rest h r = plain_append (name_text d) _ (plain_name d h.0) (plain_append (name_text e) _ (plain_name e h.1) r)

plain_guard : (p : WrittenPredicate) → Short (predicate_number p) → plain (guard_text p) ≡ true
plain_guard (banked.Static n) h = by (eqb n 1)
  where
    by : (t : Bool) → plain (cond t [] (codes " if " ++ predicate_name_text (banked.Static n))) ≡ true
    by true = refl
    by false = plain_decimal n h
plain_guard (banked.Rotating n) h = plain_decimal n h

plain_written : (w : WrittenOperation) → ShortOperation w → plain (written_text w) ≡ true
plain_written w h =
    plain_destinations w.destinations _ h.destinations
    (plain_append (opcode_text w.opcode) _ (plain_opcode w.opcode) (plain_sources w.sources _ h.sources (plain_guard w.guard h.guard)))

plain_position : (p : Option WrittenPosition) (rest : List ℕ) → ShortPosition p → plain rest ≡ true → plain (position_text p rest) ≡ true
plain_position None rest h r = r
plain_position (Some p) rest h r = plain_append (decimal p.cycle) _ (plain_decimal p.cycle h.0) (plain_append (decimal p.slot) _ (plain_decimal p.slot h.1) r)

plain_exit : (x : WrittenExit) → ShortExit x → plain (exit_text x) ≡ true
plain_exit Halt h = refl
plain_exit Next h = refl
plain_exit (Goto t) h = plain_decimal t h
plain_exit (If p t) h = plain_append (predicate_name_text p) _ (plain_predicate p h.0) (plain_decimal t h.1)
plain_exit (Loop t) h = plain_decimal t h

pub plain_line : (w : ProgramLine) → ShortProgram w → plain (program_line_text w) ≡ true
plain_line (line.Block n) h = plain_decimal n h
plain_line (line.Operation p w) h = plain_position p (written_text w) h.0 (plain_written w h.1)
plain_line (line.Exit x) h = plain_exit x h

-- what is printed line by line has these lines
pub lines_back : (ws : List ProgramLine) → AllByRecursion ShortProgram ws → lines_of (lines_text ws) ≡ map program_line_text ws
lines_back [] h = refl
lines_back (w ∷ ws) h =
    ap lines_of (append_assoc (program_line_text w) (10 ∷ []) (lines_text ws))
    ∙ line_first (program_line_text w) (lines_text ws) (plain_line w h.0)
    ∙ ap (λ l. program_line_text w ∷ l) (lines_back ws h.1)
