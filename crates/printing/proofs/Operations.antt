-- A printed operation is read back as it was. Assumes nothing.
use Rattle.std.proofs.Common.{◌≡◌, ℕ, ◌<◌, ◌^◌, true, cond, ℤ, pos, negsuc, Ok, sym, refl, ap, ap₂, append_assoc, arith}
use Rattle.std.proofs.lemmas.Bool.{ltb-true, lt-ltb, and_parts}
use Rattle.std.specs.Option.{option_map}
use Rattle.registers.specs.declared.banked.Banked.TheVariants as banked
use Rattle.registers.specs.Registers.{General, Predicate}
use Rattle.registers.specs.Names.{handed}
use Rattle.registers.specs.Texts.{general_text, predicate_text}
use Rattle.operations.specs.declared.operation.Source as source
use Rattle.operations.specs.declared.operation.Source.{Source}
use Rattle.operations.specs.declared.operation.Form.{Form}
use Rattle.operations.specs.declared.operation.Form.TheVariants.{Binary, Unary, Compare, Load, Store}
use Rattle.operations.specs.declared.operation.Operation.{Operation}
use Rattle.operations.specs.declared.raw.UpToTwo.TheVariants.{One, Two}
use Rattle.operations.specs.Raw as raw
use Rattle.operations.specs.Raw.{name_of_general, name_of_predicate, raw_of}
use Rattle.operations.specs.Texts as text
use Rattle.operations.specs.Texts.{source_text, operation_text}
use Rattle.operations.specs.Typing.{typed_of}
use Rattle.operations.proofs.Exact.{accepts}
use Rattle.blocks.specs.declared.position.Entry.{Entry}
use Rattle.lines.specs.Lines.{position_text, program_line_text}
use Rattle.lines.specs.Numbers.{Short, ShortLiteral}
use Rattle.lines.specs.Written.{general_name_text, predicate_name_text, operand_text, guard_text, written_text, general_number, predicate_number, ShortOperand, ShortOperation, ShortSources, ShortDestinations}
use Rattle.lines.specs.Raw.{in_range, raw_general, raw_predicate, raw_destinations, raw_operand, raw_sources, raw_operation, operand_held, literals_held}
use Rattle.printing.specs.Written.{written_general, written_predicate, written_source, written_sources, written_destinations, written_operation, written_position, entry_line}
use Rattle.printing.specs.Printed.{entry_text}

general_same : (g : General) → general_name_text (written_general g) ≡ general_text g
general_same g = grind arith

predicate_same : (p : Predicate) → predicate_name_text (written_predicate p) ≡ predicate_text p
predicate_same p = grind arith

source_same : (s : Source) → operand_text (written_source s) ≡ source_text s
source_same (source.TheVariants.Register g) = general_same g
source_same (source.TheVariants.Literal z) = refl

guard_same : (p : Predicate) → guard_text (written_predicate p) ≡ text.guard_text p
guard_same p = grind arith

-- the line has the text of the operation
pub text_same : (g : Predicate) (f : Form) → written_text (written_operation (record { guard = g; form = f })) ≡ operation_text (record { guard = g; form = f })
text_same g (Binary o d a b) = simp (general_same d, source_same a, source_same b, guard_same g, append_assoc)
text_same g (Unary o d a) = simp (general_same d, source_same a, guard_same g, append_assoc)
text_same g (Compare c t a b) = simp (predicate_same t.first.to, predicate_same t.second.to, source_same a, source_same b, guard_same g, append_assoc)
text_same g (Load d a) = simp (general_same d, general_same a, guard_same g, append_assoc)
text_same g (Store a v) = simp (general_same a, general_same v, guard_same g, append_assoc)

-- the line of an operation, by its own text
pub entry_same : (e : Entry) → entry_text e ≡ program_line_text (entry_line e)
entry_same e = ap (position_text (option_map written_position e.position)) (sym (text_same e.operation.guard e.operation.form))

-- a number that a register or a block has is handed in as it is
pub handed_same : (n : ℕ) → n < 32 → handed n ≡ n
handed_same n h = ap (λ b. cond b n 255) (lt-ltb n 255 (omega arith))

general_raw : (g : General) → raw_general (written_general g) ≡ name_of_general g
general_raw (banked.Static n) = ap banked.Static (handed_same n.number n.below)
general_raw (banked.Rotating n) = ap banked.Rotating (handed_same n.number n.below)

pub predicate_raw : (p : Predicate) → raw_predicate (written_predicate p) ≡ name_of_predicate p
predicate_raw (banked.Static n) = ap banked.Static (handed_same n.number n.below)
predicate_raw (banked.Rotating n) = ap banked.Rotating (handed_same n.number n.below)

destinations_raw : (f : Form) → raw_destinations (written_destinations f) ≡ raw.raw_destinations f
destinations_raw (Binary o d a b) = simp (general_raw d)
destinations_raw (Unary o d a) = simp (general_raw d)
destinations_raw (Compare c t a b) = simp (predicate_raw t.first.to, predicate_raw t.second.to)
destinations_raw (Load d a) = simp (general_raw d)
destinations_raw (Store a v) = refl

source_raw : (s : Source) → operand_held (written_source s) ≡ true → raw_operand (written_source s) ≡ raw.raw_source s
source_raw (source.TheVariants.Register g) h = simp (general_raw g)
source_raw (source.TheVariants.Literal z) h = rw h

sources_raw : (f : Form) → literals_held (written_sources f) ≡ true → raw_sources (written_sources f) ≡ raw.raw_sources f
sources_raw (Binary o d a b) h = let p = and_parts _ _ h in ap₂ Two (source_raw a p.0) (source_raw b p.1)
sources_raw (Unary o d a) h = ap One (source_raw a h)
sources_raw (Compare c t a b) h = let p = and_parts _ _ h in ap₂ Two (source_raw a p.0) (source_raw b p.1)
sources_raw (Load d a) h = simp (general_raw a)
sources_raw (Store a v) h = simp (general_raw a, general_raw v)

pub raw_same : (x : Operation) → literals_held (written_sources x.form) ≡ true → raw_operation (written_operation x) ≡ raw_of x
raw_same x h = λ i. record {
  opcode = raw.raw_opcode x.form;
  guard = predicate_raw x.guard i;
  destinations = destinations_raw x.form i;
  sources = sources_raw x.form h i;
}

pub typed_same : (x : Operation) → typed_of (raw_of x) ≡ Ok x
typed_same x = (accepts (raw_of x) x).1 refl

short_general : (g : General) → Short (general_number (written_general g))
short_general (banked.Static n) = omega (arith, n.below)
short_general (banked.Rotating n) = omega (arith, n.below)

pub short_predicate : (p : Predicate) → Short (predicate_number (written_predicate p))
short_predicate (banked.Static n) = omega (arith, n.below)
short_predicate (banked.Rotating n) = omega (arith, n.below)

short_literal : (z : ℤ) → in_range z ≡ true → ShortLiteral z
short_literal (pos n) h = omega (arith, ltb-true n (2 ^ 31) h)
short_literal (negsuc n) h = omega (arith, ltb-true n (2 ^ 31) h)

short_source : (s : Source) → operand_held (written_source s) ≡ true → ShortOperand (written_source s)
short_source (source.TheVariants.Register g) h = short_general g
short_source (source.TheVariants.Literal z) h = short_literal z h

short_sources : (f : Form) → literals_held (written_sources f) ≡ true → ShortSources (written_sources f)
short_sources (Binary o d a b) h = let p = and_parts _ _ h in (short_source a p.0, short_source b p.1)
short_sources (Unary o d a) h = short_source a h
short_sources (Compare c t a b) h = let p = and_parts _ _ h in (short_source a p.0, short_source b p.1)
short_sources (Load d a) h = short_general a
short_sources (Store a v) h = (short_general a, short_general v)

short_destinations : (f : Form) → ShortDestinations (written_destinations f)
short_destinations (Binary o d a b) = short_general d
short_destinations (Unary o d a) = short_general d
short_destinations (Compare c t a b) = (short_predicate t.first.to, short_predicate t.second.to)
short_destinations (Load d a) = short_general d
short_destinations (Store a v) = tt

pub short_operation : (x : Operation) → literals_held (written_sources x.form) ≡ true → ShortOperation (written_operation x)
short_operation x h = record {
  destinations = short_destinations x.form;
  sources = short_sources x.form h;
  guard = short_predicate x.guard;
}
