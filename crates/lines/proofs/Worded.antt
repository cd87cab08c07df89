-- Lines that begin with a word. Assumes nothing.
use Rattle.std.proofs.Common.{◌≡◌, ℕ, ◌<◌, ◌≤◌, List, [], ◌++◌, get_or, IfSome, Some, None, codes, decimal, Option, sym, refl, ap, ◌∙◌, arith}
use Rattle.std.specs.Option.{option_map}
use Rattle.lines.specs.declared.written.WrittenExit.{WrittenExit}
use Rattle.lines.specs.declared.written.WrittenExit.TheVariants as exit
use Rattle.lines.specs.declared.mark.Mark.{Mark}
use Rattle.lines.specs.declared.mark.Mark.TheVariants as mark
use Rattle.lines.specs.declared.written.WrittenPosition.{WrittenPosition}
use Rattle.lines.specs.declared.written.ProgramLine.{ProgramLine}
use Rattle.lines.specs.declared.written.ProgramLine.TheVariants as line
use Rattle.lines.specs.declared.written.Token.TheVariants as token
use Rattle.lines.specs.Marks.{mark_text}
use Rattle.lines.specs.Lines.{exit_text, position_text, program_line_text, ShortExit, ShortPosition, ShortProgram}
use Rattle.lines.specs.Numbers.{Short}
use Rattle.lines.specs.Written.{written_text}
use Rattle.lines.specs.Said.{Says, Whole, branch_text, target_text, exit_behind, ShortBranch, ShortPlaced}
use Rattle.lines.proofs.Sayings.{none_some, some_same}
use Rattle.lines.proofs.NameTexts.{first_digit}
use Rattle.lines.proofs.Operands.{first}

-- the word that an exit begins with, and what stands behind it
abbrev exit_word : WrittenExit → Mark
exit_word exit.Halt = mark.Halt
exit_word exit.Next = mark.Next
exit_word (exit.Goto t) = mark.Goto
exit_word (exit.If p t) = mark.If
exit_word (exit.Loop t) = mark.Loop

abbrev exit_after : WrittenExit → List ℕ
exit_after exit.Halt = []
exit_after exit.Next = []
exit_after (exit.Goto t) = target_text t
exit_after (exit.If p t) = branch_text (exit.If p t)
exit_after (exit.Loop t) = target_text t

exit_split : (x : WrittenExit) → exit_text x ≡ mark_text (exit_word x) ++ exit_after x
exit_split exit.Halt = refl
exit_split exit.Next = refl
exit_split (exit.Goto t) = refl
exit_split (exit.If p t) = refl
exit_split (exit.Loop t) = refl

pub word_told : (m : Mark) (t0 t1 after : List ℕ) (r : Option Mark) → Says token.Mark t0 r t1 → t0 ≡ mark_text m ++ after → (r ≡ Some m) × (t1 ≡ after)
word_told m t0 t1 after r s e = s.complete m after (record { short = tt; whole = e; ends = tt })

exit_told : (x : WrittenExit) (t0 t1 : List ℕ) (r : Option Mark) → Says token.Mark t0 r t1 → t0 ≡ exit_text x → (r ≡ Some (exit_word x)) × (t1 ≡ exit_after x)
exit_told x t0 t1 r s e = word_told (exit_word x) t0 t1 (exit_after x) r s (e ∙ exit_split x)

pub exit_none : (t0 t1 : List ℕ) → Says token.Mark t0 None t1 → Whole exit_text ShortExit t0 None
exit_none t0 t1 s = record { sound = tt; complete = λ x short e. absurd (none_some _ (exit_told x t0 t1 None s e).0) }

-- two marks whose first bytes differ
pub other : (m n : Mark) → (get_or (mark_text m) 0 0 ≡ get_or (mark_text n) 0 0 → ⊥) → Some m ≡ Some n → ⊥
other m n h e = h (ap (λ l. get_or (mark_text l) 0 0) (some_same m n e))

pub exit_if : (t0 t1 : List ℕ) (r : Option WrittenExit) → Says token.Mark t0 (Some mark.If) t1 → Whole branch_text ShortBranch t1 r → Whole exit_text ShortExit t0 r
exit_if t0 t1 r s w = record { sound = there r w.sound; complete = by }
  where
    there : (r : Option WrittenExit) → IfSome r (λ x. ShortBranch x × (t1 ≡ branch_text x)) → IfSome r (λ x. ShortExit x × (t0 ≡ exit_text x))
    there None h = tt
    there (Some exit.Halt) h = absurd h.0
    there (Some exit.Next) h = absurd h.0
    there (Some (exit.Goto t)) h = absurd h.0
    there (Some (exit.If p t)) h = (h.0, s.sound.whole ∙ ap (λ l. codes "if" ++ l) h.1)
    there (Some (exit.Loop t)) h = absurd h.0

    by : (x : WrittenExit) → ShortExit x → t0 ≡ exit_text x → r ≡ Some x
    by exit.Halt h e = absurd (other mark.If mark.Halt (λ f. omega (arith, f)) (exit_told exit.Halt t0 t1 _ s e).0)
    by exit.Next h e = absurd (other mark.If mark.Next (λ f. omega (arith, f)) (exit_told exit.Next t0 t1 _ s e).0)
    by (exit.Goto t) h e = absurd (other mark.If mark.Goto (λ f. omega (arith, f)) (exit_told (exit.Goto t) t0 t1 _ s e).0)
    by (exit.If p t) h e = w.complete (exit.If p t) h (exit_told (exit.If p t) t0 t1 _ s e).1
    by (exit.Loop t) h e = absurd (other mark.If mark.Loop (λ f. omega (arith, f)) (exit_told (exit.Loop t) t0 t1 _ s e).0)

abbrev pub Line : List ℕ → Option ProgramLine → Type 0
Line t r = Whole program_line_text ShortProgram t r

block_told : (n : ℕ) (t0 t1 : List ℕ) (r : Option Mark) → Says token.Mark t0 r t1 → t0 ≡ codes "block " ++ decimal n → (r ≡ Some mark.Block) × (t1 ≡ target_text n)
block_told n t0 t1 r s e = word_told mark.Block t0 t1 (target_text n) r s e

end_told : (x : WrittenExit) (t0 t1 : List ℕ) (r : Option Mark) → Says token.Mark t0 r t1 → t0 ≡ codes "exit " ++ exit_text x → (r ≡ Some mark.Exit) × (t1 ≡ exit_behind x)
end_told x t0 t1 r s e = word_told mark.Exit t0 t1 (exit_behind x) r s e

-- an operation begins with a dash or with a digit
begins_low : (p : Option WrittenPosition) (rest : List ℕ) → ShortPosition p → get_or (position_text p rest) 0 0 ≤ 57
begins_low None rest h = omega arith
begins_low (Some p) rest h = (first_digit p.cycle (codes ":" ++ (decimal p.slot ++ (codes " " ++ rest))) h.0).high

never_placed : (m : Mark) (t0 t1 : List ℕ) → Says token.Mark t0 (Some m) t1 → 57 < get_or (mark_text m ++ t1) 0 0 → (p : Option WrittenPosition) (rest : List ℕ) → ShortPosition p → t0 ≡ position_text p rest → ⊥
never_placed m t0 t1 s high p rest h e = omega (arith, begins_low p rest h, first (sym s.sound.whole ∙ e), high)

pub line_placed : (t0 t1 : List ℕ) (m : Option Mark) (r : Option ProgramLine) → Says token.Mark t0 m t1 → (m ≡ Some mark.Block → ⊥) → (m ≡ Some mark.Exit → ⊥) → Whole program_line_text ShortPlaced t0 r → Line t0 r
line_placed t0 t1 m r s no_block no-exit w = record { sound = there r w.sound; complete = by }
  where
    there : (r : Option ProgramLine) → IfSome r (λ x. ShortPlaced x × (t0 ≡ program_line_text x)) → IfSome r (λ x. ShortProgram x × (t0 ≡ program_line_text x))
    there None h = tt
    there (Some (line.Block n)) h = absurd h.0
    there (Some (line.Operation p x)) h = h
    there (Some (line.Exit x)) h = absurd h.0

    by : (x : ProgramLine) → ShortProgram x → t0 ≡ program_line_text x → r ≡ Some x
    by (line.Block n) h e = absurd (no_block (block_told n t0 t1 m s e).0)
    by (line.Operation p x) h e = w.complete (line.Operation p x) h e
    by (line.Exit x) h e = absurd (no-exit (end_told x t0 t1 m s e).0)

pub line_block : (t0 t1 : List ℕ) (q : Option ℕ) → Says token.Mark t0 (Some mark.Block) t1 → Whole target_text Short t1 q → Line t0 (option_map line.Block q)
line_block t0 t1 q s w = record { sound = there q w.sound; complete = by }
  where
    there : (q : Option ℕ) → IfSome q (λ n. Short n × (t1 ≡ target_text n)) → IfSome (option_map line.Block q) (λ x. ShortProgram x × (t0 ≡ program_line_text x))
    there None h = tt
    there (Some n) h = (h.0, s.sound.whole ∙ ap (λ l. codes "block" ++ l) h.1)

    by : (x : ProgramLine) → ShortProgram x → t0 ≡ program_line_text x → option_map line.Block q ≡ Some x
    by (line.Block k) h e = ap (option_map line.Block) (w.complete k h (block_told k t0 t1 _ s e).1)
    by (line.Operation p x) h e = absurd (never_placed mark.Block t0 t1 s (omega arith) p (written_text x) h.0 e)
    by (line.Exit x) h e = absurd (other mark.Block mark.Exit (λ f. omega (arith, f)) (end_told x t0 t1 _ s e).0)

pub line_exit : (t0 t1 : List ℕ) (q : Option WrittenExit) → Says token.Mark t0 (Some mark.Exit) t1 → Whole exit_behind ShortExit t1 q → Line t0 (option_map line.Exit q)
line_exit t0 t1 q s w = record { sound = there q w.sound; complete = by }
  where
    there : (q : Option WrittenExit) → IfSome q (λ x. ShortExit x × (t1 ≡ exit_behind x)) → IfSome (option_map line.Exit q) (λ x. ShortProgram x × (t0 ≡ program_line_text x))
    there None h = tt
    there (Some x) h = (h.0, s.sound.whole ∙ ap (λ l. codes "exit" ++ l) h.1)

    by : (x : ProgramLine) → ShortProgram x → t0 ≡ program_line_text x → option_map line.Exit q ≡ Some x
    by (line.Block k) h e = absurd (other mark.Exit mark.Block (λ f. omega (arith, f)) (block_told k t0 t1 _ s e).0)
    by (line.Operation p y) h e = absurd (never_placed mark.Exit t0 t1 s (omega arith) p (written_text y) h.0 e)
    by (line.Exit y) h e = ap (option_map line.Exit) (w.complete y h (end_told y t0 t1 _ s e).1)
