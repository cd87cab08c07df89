-- What is printed of blocks is read back as the same blocks. Assumes nothing.
use Rattle.std.proofs.Common.{◌≡◌, ℕ, suc, ◌+◌, ◌<◌, ◌≤◌, Bool, true, false, cond, not, ◌&&◌, ◌||◌, ltb, leb, List, [], ◌∷◌, ◌++◌, map, length, get_or, set, replicate, Some, None, Ok, Option, sym, refl, ap, ◌∙◌, subst, append_assoc, arith, lt-ltb}
use Rattle.std.specs.List.{AllByRecursion}
use Rattle.std.proofs.ByRecursion.{All-append, All-from_get_or}
use Rattle.std.proofs.lemmas.Bool.{true≢false}
use Rattle.std.proofs.lemmas.List.{length-append, length_push, length-replicate, get_or_at, get_or-replicate, set_at}
use Rattle.blocks.specs.declared.description.Slot.{Slot}
use Rattle.blocks.specs.declared.description.Description.{Description}
use Rattle.blocks.specs.declared.exit.Exit.{Exit}
use Rattle.blocks.specs.declared.exit.Exit.TheVariants.{Halt, Next, Goto, If, Loop}
use Rattle.blocks.specs.declared.position.Position.{Position}
use Rattle.blocks.specs.declared.position.Entry.{Entry}
use Rattle.blocks.specs.Machine.{slots_of}
use Rattle.blocks.specs.Exits.{goes_on}
use Rattle.blocks.specs.Entries.{WellPlaced}
use Rattle.blocks.specs.Model.{Body, empty}
use Rattle.blocks.specs.Calls.{State, fresh}
use Rattle.lines.specs.declared.written.ProgramLine.{ProgramLine}
use Rattle.lines.specs.declared.written.ProgramLine.TheVariants as line
use Rattle.lines.specs.Lines.{ShortProgram, IsProgramLine}
use Rattle.text.specs.declared.stage.Stage.{Stage}
use Rattle.text.specs.declared.stage.Stage.TheVariants.{Start, Ended}
use Rattle.text.specs.Texts.{Taken}
use Rattle.text.specs.Programs.{Reading, start, above, program_step}
use Rattle.text.specs.Loads.{Programs}
use Rattle.printing.specs.Written.{written_exit, entry_line}
use Rattle.printing.specs.Sets.{block_lines, halts, used, lines_from, lines_text, block_text, alone}
use Rattle.printing.specs.Printed.{Held}
use Rattle.printing.proofs.Operations.{short_operation}
use Rattle.printing.proofs.Exits.{short_exit}
use Rattle.printing.proofs.Plain.{lines_back}
use Rattle.printing.proofs.Leads.{Leads, leads_append, taken, block_leads}

-- what is known of block n
pub record Fits (slots : List Slot) (n : ℕ) (b : Body) : Type 0 where
  pub well : WellPlaced slots b.entries
  pub held : AllByRecursion Held b.entries
  pub last : (leb 15 n && goes_on b.exit) ≡ false

-- all numbers of its lines are short

short_entry : (e : Entry) → Held e → ShortProgram (entry_line e)
short_entry e h = by e.position
  where
    by : (p : Option Position) → ShortProgram (entry_line (record { operation = e.operation; position = p }))
    by None = (tt, short_operation e.operation h)
    by (Some p) = ((omega (arith, p.early), omega (arith, p.narrow)), short_operation e.operation h)

short_entries : (es : List Entry) → AllByRecursion Held es → AllByRecursion ShortProgram (map entry_line es)
short_entries [] h = tt
short_entries (e ∷ es) h = (short_entry e h.0, short_entries es h.1)

short_block : (n : ℕ) (b : Body) → n < 16 → AllByRecursion Held b.entries → AllByRecursion ShortProgram (block_lines n b)
short_block n b l h = (
  omega arith,
  All-append ShortProgram (map entry_line b.entries) (line.Exit (written_exit b.exit) ∷ []) (short_entries b.entries h) (short_exit b.exit, tt),
)

short_set : (n : ℕ) (bs : List Body) → n + length bs ≤ 16 → AllByRecursion (λ b. AllByRecursion Held b.entries) bs → AllByRecursion ShortProgram (lines_from n bs)
short_set n [] l h = tt
short_set n (b ∷ bs) l h = All-append ShortProgram (cond (used b) (block_lines n b) []) (lines_from (n + 1) bs) (by (used b)) (short_set (n + 1) bs (omega arith) h.1)
  where
    by : (u : Bool) → AllByRecursion ShortProgram (cond u (block_lines n b) [])
    by true = short_block n b (omega arith) h.0
    by false = tt

-- lines that are printed and lead to a state are a program
program_is : (d : Description) (ws : List ProgramLine) (s : State) (g : Stage) → AllByRecursion ShortProgram ws → Leads (start d) ws (record { state = s; stage = g }) → Programs (lines_text ws) d s
program_is d ws s g short h = record {
  stage = g;
  lines = subst (λ (ls : List (List ℕ)). Taken IsProgramLine program_step (start d) ls (Ok (record { state = s; stage = g }))) (sym (lines_back ws short)) (taken (start d) _ ws short h);
}

pub block_back : (d : Description) (n : ℕ) (b : Body) → n < 16 → Fits (slots_of d.slots) n b → Programs (block_text n b) d (alone d n b)
block_back d n b l f =
    program_is d (block_lines n b) (alone d n b) (Ended n) (short_block n b l f.held)
    (block_leads (fresh d) n l (length-replicate 16 empty) Start refl (get_or-replicate 16 n empty empty l) b f.last f.well f.held)

-- a block that is not used is empty
pub unused : (es : List Entry) (x : Exit) → (ltb 0 (length es) || not (halts x)) ≡ false → ◌≡◌ {A = Body} (record { entries = es; exit = x }) empty
unused [] Halt h = refl
unused [] Next h = absurd (true≢false h)
unused [] (Goto t) h = absurd (true≢false h)
unused [] (If p t) h = absurd (true≢false h)
unused [] (Loop t) h = absurd (true≢false h)
unused (e ∷ es) x h = let t : ltb 0 (length (e ∷ es)) ≡ true = lt-ltb 0 _ (omega arith) in absurd (true≢false cc)

module _ (d : Description) where
  abbrev reading : List Body → Stage → Reading
  reading bs g = record { state = record { description = d; bodies = bs }; stage = g }

  abbrev FitFrom : ℕ → List Body → Type 0
  FitFrom n bs = (i : ℕ) → i < length bs → Fits (slots_of d.slots) (n + i) (get_or bs i empty)

  abbrev empties : List Body → List Body
  empties bs = replicate (length bs) empty

  -- blocks from n on stand above the stage
  abbrev Below : Stage → ℕ → Type 0
  Below g n = (m : ℕ) → n ≤ m → above g m ≡ true

  one_block : (done : List Body) (b : Body) (bs : List Body) (n : ℕ) (g : Stage) → length done ≡ n → n + length (b ∷ bs) ≡ 16 → Below g n → Fits (slots_of d.slots) n b → (u : Bool) → used b ≡ u → (h : Stage) × Below h (n + 1) × Leads (reading (done ++ empty ∷ empties bs) g) (cond u (block_lines n b) []) (reading ((done ++ b ∷ []) ++ empties bs) h)
  one_block done b bs n g l k up f false e = (
    g,
    λ m h. up m (omega arith),
    ap (λ (x : Body). reading (done ++ x ∷ empties bs) g) (sym (unused b.entries b.exit e)) ∙ ap (λ (y : List Body). reading y g) (sym (append_assoc done (b ∷ []) (empties bs))),
  )
  one_block done b bs n g l k up f true e =
      let s : State = record { description = d; bodies = done ++ empty ∷ empties bs } in
      let long : length s.bodies ≡ 16 = omega (arith, length-append done (empty ∷ empties bs), length-replicate (length bs) empty) in
      let same : set s.bodies n b ≡ (done ++ b ∷ []) ++ empties bs = set_at done empty (empties bs) b n l ∙ sym (append_assoc done (b ∷ []) (empties bs)) in (
        Ended n,
        λ m h. lt-ltb n m (omega arith),
        subst (λ (y : List Body). Leads (reading (done ++ empty ∷ empties bs) g) (block_lines n b) (reading y (Ended n))) same
            (block_leads s n (omega arith) long g (up n (omega arith)) (get_or_at done empty (empties bs) empty n l) b f.last f.well f.held),
      )

  sets_lead : (done rest : List Body) (n : ℕ) (g : Stage) → length done ≡ n → n + length rest ≡ 16 → Below g n → FitFrom n rest → (h : Stage) × Leads (reading (done ++ empties rest) g) (lines_from n rest) (reading (done ++ rest) h)
  sets_lead done [] n g l k up f = (g, refl)
  sets_lead done (b ∷ bs) n g l k up f =
      let here : Fits (slots_of d.slots) n b = subst (λ (m : ℕ). Fits (slots_of d.slots) m b) (omega arith) (f 0 (omega arith)) in
      let behind : FitFrom (n + 1) bs = λ i h. subst (λ (m : ℕ). Fits (slots_of d.slots) m (get_or bs i empty)) (omega arith) (f (suc i) (omega arith)) in
      let one = one_block done b bs n g l k up here (used b) refl in
      let more = sets_lead (done ++ b ∷ []) bs (n + 1) one.0 (length_push done b ∙ ap (λ m. m + 1) l) (omega arith) one.1 behind in (
        more.0,
        leads_append (reading (done ++ empties (b ∷ bs)) g) (reading ((done ++ b ∷ []) ++ empties bs) one.0) (reading (done ++ b ∷ bs) more.0) (cond (used b) (block_lines n b) []) (lines_from (n + 1) bs)
            one.2
            (subst (λ (y : List Body). Leads (reading ((done ++ b ∷ []) ++ empties bs) one.0) (lines_from (n + 1) bs) (reading y more.0)) (append_assoc done (b ∷ []) bs) more.1),
      )

  pub set_back : (bs : List Body) → length bs ≡ 16 → ((i : ℕ) → i < 16 → Fits (slots_of d.slots) i (get_or bs i empty)) → Programs (lines_text (lines_from 0 bs)) d (record { description = d; bodies = bs })
  set_back bs l f =
      let h = sets_lead [] bs 0 Start refl (omega arith) (λ m k. refl) (λ i k. subst (λ (m : ℕ). Fits (slots_of d.slots) m (get_or bs i empty)) (omega arith) (f i (omega arith))) in
      let all : AllByRecursion (λ b. AllByRecursion Held b.entries) bs = All-from_get_or (λ b. AllByRecursion Held b.entries) bs empty (λ i k. (f i (omega arith)).held) in
      program_is d (lines_from 0 bs) (record { description = d; bodies = bs }) h.0 (short_set 0 bs (omega arith) all)
      (subst (λ (n : ℕ). Leads (reading (replicate n empty) Start) (lines_from 0 bs) (reading bs h.0)) l h.1)
