-- The lines of a block lead to the block. Assumes nothing.
use Rattle.std.proofs.Common.{◌≡◌, ℕ, ◌<◌, true, false, cond, ◌&&◌, ltb, leb, List, [], ◌∷◌, ◌++◌, map, length, set, Some, None, Ok, Err, Option, sym, refl, ap, ◌∙◌, subst, ap₂, append_assoc, append-nil, arith, lt-ltb}
use Rattle.std.specs.Option.{option_map}
use Rattle.std.specs.List.{AllByRecursion}
use Rattle.std.proofs.lemmas.List.{get_or-set_same, set-set, set-get_or}
use Rattle.operations.specs.declared.refusal.Refusal.TheVariants.{NoSuch, Unreadable}
use Rattle.operations.specs.Raw.{raw_of}
use Rattle.blocks.specs.declared.exit.Exit.TheVariants.{Halt}
use Rattle.blocks.specs.declared.position.Position.{Position}
use Rattle.blocks.specs.declared.position.Entry.{Entry}
use Rattle.blocks.specs.Steps.{Outcome}
use Rattle.blocks.specs.Machine.{slots_of}
use Rattle.blocks.specs.Exits.{goes_on}
use Rattle.blocks.specs.Entries.{WellPlaced, entry_class}
use Rattle.blocks.specs.Model.{Body, empty, unplaced, add_step, place_step, leave_by, exit_step}
use Rattle.blocks.specs.Calls.{State, body_at, put_back, in_block, add_call}
use Rattle.blocks.proofs.Moves.{add_done}
use Rattle.lines.specs.declared.written.WrittenPosition.{WrittenPosition}
use Rattle.lines.specs.declared.written.ProgramLine.{ProgramLine}
use Rattle.lines.specs.declared.written.ProgramLine.TheVariants as line
use Rattle.lines.specs.Raw.{raw_operation, raw_exit, literals_held}
use Rattle.lines.specs.Lines.{program_line_text, ShortProgram, IsProgramLine}
use Rattle.text.specs.declared.stage.Stage.{Stage}
use Rattle.text.specs.declared.stage.Stage.TheVariants.{Open, Ended}
use Rattle.text.specs.Texts.{Taken}
use Rattle.text.specs.Texts.Taken.{end, next}
use Rattle.text.specs.Programs.{Reading, above, slot_there, placed_at, then_placed, operation_call, at_stage, program_step}
use Rattle.printing.specs.Written.{written_sources, written_operation, written_position, written_exit, entry_line}
use Rattle.printing.specs.Sets.{block_lines}
use Rattle.printing.specs.Printed.{Held}
use Rattle.printing.proofs.Operations.{raw_same, typed_same}
use Rattle.printing.proofs.Exits.{exit_back}
use Rattle.printing.proofs.Placing as placing

-- the lines lead from one reading to another
abbrev pub Leads : Reading → List ProgramLine → Reading → Type 0
Leads r [] t = r ≡ t
Leads r (w ∷ ws) t = (m : Reading) × (program_step r w ≡ Ok m) × Leads m ws t

pub leads_append : (r m t : Reading) (ws vs : List ProgramLine) → Leads r ws m → Leads m vs t → Leads r (ws ++ vs) t
leads_append r m t [] vs h k = subst (λ (q : Reading). Leads q vs t) (sym h) k
leads_append r m t (w ∷ ws) vs h k = (h.0, h.1, leads_append h.0 m t ws vs h.2 k)

pub taken : (r t : Reading) (ws : List ProgramLine) → AllByRecursion ShortProgram ws → Leads r ws t → Taken IsProgramLine program_step r (map program_line_text ws) (Ok t)
taken r t [] s h = subst (λ (q : Reading). Taken IsProgramLine program_step r [] (Ok q)) h (end r)
taken r t (w ∷ ws) s h = next r (program_line_text w) (map program_line_text ws) w h.0 (Ok t) (record { short = s.0; whole = refl }) h.1 (taken h.0 t ws s.1 h.2)

-- block n of a state of sixteen blocks
module _ (s : State) (n : ℕ) (below : n < 16) (sixteen : length s.bodies ≡ 16) where
  abbrev pub having : Body → State
  having b = record { description = s.description; bodies = set s.bodies n b }

  body_same : (b : Body) → body_at (having b) n ≡ b
  body_same b = get_or-set_same s.bodies n b empty (omega arith)

  in_at : {X : Type 0} (step : Body → Outcome X Body) (b c : Body) (x : X) → step b ≡ Ok (x, c) → in_block (having b) n step ≡ Ok (x, having c)
  in_at step b c x e =
      ap (λ t. cond t (put_back (having b) n (step (body_at (having b) n))) (Err NoSuch)) (lt-ltb n 16 below)
      ∙ ap (λ (y : Body). put_back (having b) n (step y)) (body_same b)
      ∙ ap (put_back (having b) n) e
      ∙ ap (λ (l : List Body). Ok (x, record { description = s.description; bodies = l })) (set-set s.bodies n b c)

  abbrev body : List Entry → Body
  body es = record { entries = es; exit = Halt }

  abbrev open_at : List Entry → Reading
  open_at es = record { state = having (body es); stage = Open n }

  module _ (es : List Entry) (e : Entry) (rest : List Entry) (well : WellPlaced (slots_of s.description.slots) (es ++ e ∷ rest)) (fits : Held e) where
    added : add_call (having (body es)) n (raw_operation (written_operation e.operation)) ≡ Ok (length es, having (body (es ++ unplaced e.operation ∷ [])))
    added =
        in_at (λ b. add_step b (raw_operation (written_operation e.operation))) (body es) (body (es ++ unplaced e.operation ∷ [])) (length es)
        (ap (add_step (body es)) (raw_same e.operation fits)
        ∙ add_done (body es) (raw_of e.operation) e.operation (typed_same e.operation) (placing.room _ es e rest well))

    call_is : (p : Option WrittenPosition) (o : Outcome (Unit {0}) State) → slot_there (having (body es)) p ≡ true → placed_at (having (body (es ++ unplaced e.operation ∷ []))) n (length es) p ≡ o → operation_call (having (body es)) n p (written_operation e.operation) ≡ o
    call_is p o there h =
        ap (λ t. cond t (then_placed n p (literals_held (written_sources e.operation.form)) (add_call (having (body es)) n (raw_operation (written_operation e.operation)))) (Err NoSuch)) there
        ∙ ap₂ (λ t a. then_placed n p t a) fits added
        ∙ h

    called : operation_call (having (body es)) n (option_map written_position e.position) (written_operation e.operation) ≡ Ok (tt, having (body (es ++ e ∷ [])))
    called = by e.position refl
      where
        by : (o : Option Position) → e.position ≡ o → operation_call (having (body es)) n (option_map written_position o) (written_operation e.operation) ≡ Ok (tt, having (body (es ++ e ∷ [])))
        by None at = call_is None _ refl (ap (λ (q : Option Position). Ok (tt, having (body (es ++ record { operation = e.operation; position = q } ∷ [])))) (sym at))
        by (Some p) at =
            call_is (Some (written_position p)) _ (lt-ltb _ _ (placing.slot_there _ p.slot (entry_class e) (placing.takes _ es e rest well p at)))
            (in_at (λ b. place_step (slots_of s.description.slots) b (length es) p.cycle p.slot) (body (es ++ unplaced e.operation ∷ [])) (body (es ++ e ∷ [])) tt
            (placing.placed_last _ es e rest well p at Halt))

    one_entry : program_step (open_at es) (entry_line e) ≡ Ok (open_at (es ++ e ∷ []))
    one_entry = ap (at_stage (Open n)) called

  entries_lead : (es rest : List Entry) → WellPlaced (slots_of s.description.slots) (es ++ rest) → AllByRecursion Held rest → Leads (open_at es) (map entry_line rest) (open_at (es ++ rest))
  entries_lead es [] well h = ap open_at (sym (append-nil es))
  entries_lead es (e ∷ rest) well h =
      let more = append_assoc es (e ∷ []) rest in (
        open_at (es ++ e ∷ []),
        one_entry es e rest well h.0,
        subst (λ (l : List Entry). Leads (open_at (es ++ e ∷ [])) (map entry_line rest) (open_at l)) more
            (entries_lead (es ++ e ∷ []) rest (subst (WellPlaced (slots_of s.description.slots)) (sym more) well) h.1),
      )

  module _ (g : Stage) (ascends : above g n ≡ true) (clear : body_at s n ≡ empty) where
    as_it_is : having empty ≡ s
    as_it_is = ap (λ (l : List Body). record { description = s.description; bodies = l }) (ap (set s.bodies n) (sym clear) ∙ set-get_or s.bodies n empty)

    opened : program_step (record { state = s; stage = g }) (line.Block n) ≡ Ok (open_at [])
    opened =
        ap (λ t. cond t (cond (ltb n 16) (Ok (record { state = s; stage = Open n })) (Err NoSuch)) (Err Unreadable)) ascends
        ∙ ap (λ t. cond t (Ok (record { state = s; stage = Open n })) (Err NoSuch)) (lt-ltb n 16 below)
        ∙ ap (λ (q : State). Ok (record { state = q; stage = Open n })) (sym as_it_is)

    module _ (b : Body) (last : (leb 15 n && goes_on b.exit) ≡ false) where
      left : program_step (open_at b.entries) (line.Exit (written_exit b.exit)) ≡ Ok (record { state = having b; stage = Ended n })
      left =
          ap (at_stage (Ended n))
          (in_at (λ x. exit_step n x (raw_exit (written_exit b.exit))) (body b.entries) b tt (ap (leave_by (body b.entries)) (exit_back n b.exit last)))

      pub block_leads : WellPlaced (slots_of s.description.slots) b.entries → AllByRecursion Held b.entries → Leads (record { state = s; stage = g }) (block_lines n b) (record { state = having b; stage = Ended n })
      block_leads well h = (
        open_at [],
        opened,
        leads_append (open_at []) (open_at b.entries) _ (map entry_line b.entries) (line.Exit (written_exit b.exit) ∷ [])
            (entries_lead [] b.entries well h) (record { state = having b; stage = Ended n }, left, refl),
      )
