-- Lines of the description, by their first word. Assumes nothing.
use Rattle.std.proofs.Common.{◌≡◌, ℕ, List, ◌++◌, IfSome, Some, None, codes, Option, refl, ap, ◌∙◌, arith}
use Rattle.lines.specs.declared.mark.Latency.TheVariants as latency
use Rattle.lines.specs.declared.mark.Mark.{Mark}
use Rattle.lines.specs.declared.mark.Mark.TheVariants as mark
use Rattle.lines.specs.declared.written.DescriptionLine.{DescriptionLine}
use Rattle.lines.specs.declared.written.DescriptionLine.TheVariants as line
use Rattle.lines.specs.declared.written.Token.TheVariants as token
use Rattle.lines.specs.Marks.{mark_text}
use Rattle.lines.specs.Lines.{description_line_text, ShortDescription}
use Rattle.lines.specs.Said.{Says, Whole, spaced_bounds, slot_behind, ShortSlot}
use Rattle.lines.proofs.Sayings.{none_some}
use Rattle.lines.proofs.Worded.{word_told, other}

abbrev pub Line : List ℕ → Option DescriptionLine → Type 0
Line t r = Whole description_line_text ShortDescription t r

-- the word that a line begins with, and what stands behind it
abbrev first_word : DescriptionLine → Mark
first_word (line.Slot n c) = mark.Slot
first_word (line.Integer b) = mark.Latency latency.Integer
first_word (line.Load b) = mark.Latency latency.Load
first_word (line.Compare b) = mark.Latency latency.Compare

abbrev behind : DescriptionLine → List ℕ
behind (line.Slot n c) = slot_behind (line.Slot n c)
behind (line.Integer b) = spaced_bounds b
behind (line.Load b) = spaced_bounds b
behind (line.Compare b) = spaced_bounds b

split : (x : DescriptionLine) → description_line_text x ≡ mark_text (first_word x) ++ behind x
split (line.Slot n c) = refl
split (line.Integer b) = refl
split (line.Load b) = refl
split (line.Compare b) = refl

pub told : (x : DescriptionLine) (t0 t1 : List ℕ) (r : Option Mark) → Says token.Mark t0 r t1 → t0 ≡ description_line_text x → (r ≡ Some (first_word x)) × (t1 ≡ behind x)
told x t0 t1 r s e = word_told (first_word x) t0 t1 (behind x) r s (e ∙ split x)

pub line_none : (t0 t1 : List ℕ) → Says token.Mark t0 None t1 → Line t0 None
line_none t0 t1 s = record { sound = tt; complete = λ x short e. absurd (none_some _ (told x t0 t1 None s e).0) }

pub line_slot : (t0 t1 : List ℕ) (r : Option DescriptionLine) → Says token.Mark t0 (Some mark.Slot) t1 → Whole slot_behind ShortSlot t1 r → Line t0 r
line_slot t0 t1 r s w = record { sound = there r w.sound; complete = by }
  where
    there : (r : Option DescriptionLine) → IfSome r (λ x. ShortSlot x × (t1 ≡ slot_behind x)) → IfSome r (λ x. ShortDescription x × (t0 ≡ description_line_text x))
    there None h = tt
    there (Some (line.Slot n c)) h = (h.0, s.sound.whole ∙ ap (λ l. codes "slot" ++ l) h.1)
    there (Some (line.Integer b)) h = absurd h.0
    there (Some (line.Load b)) h = absurd h.0
    there (Some (line.Compare b)) h = absurd h.0

    by : (x : DescriptionLine) → ShortDescription x → t0 ≡ description_line_text x → r ≡ Some x
    by (line.Slot n c) h e = w.complete (line.Slot n c) h (told (line.Slot n c) t0 t1 _ s e).1
    by (line.Integer b) h e = absurd (other mark.Slot (mark.Latency latency.Integer) (λ f. omega (arith, f)) (told (line.Integer b) t0 t1 _ s e).0)
    by (line.Load b) h e = absurd (other mark.Slot (mark.Latency latency.Load) (λ f. omega (arith, f)) (told (line.Load b) t0 t1 _ s e).0)
    by (line.Compare b) h e = absurd (other mark.Slot (mark.Latency latency.Compare) (λ f. omega (arith, f)) (told (line.Compare b) t0 t1 _ s e).0)
