-- What is answered to the two texts. Assumes nothing.
use Rattle.std.proofs.Common.{◌≡◌, ℕ, List, [], Some, None, Ok, Err, Option, Result, sym, subst, MatchOption, MatchResult}
use Rattle.std.specs.Option.{ok_or}
use Rattle.std.specs.Result.{IsErrAnd}
use Rattle.std.proofs.lemmas.Result.{err_from_is_err_and}
use Rattle.operations.specs.declared.refusal.Refusal.{Refusal}
use Rattle.operations.specs.declared.refusal.Refusal.TheVariants.{Unreadable}
use Rattle.blocks.specs.declared.blocks.Blocks.{Blocks}
use Rattle.blocks.specs.declared.description.Description.{Description}
use Rattle.blocks.specs.Calls.{State, fresh}
use Rattle.lines.specs.Lines.{IsDescriptionLine, IsProgramLine}
use Rattle.text.specs.declared.fault.Fault.{Fault}
use Rattle.text.specs.declared.fault.RefusedText.{RefusedText}
use Rattle.text.specs.declared.stage.Stage.TheVariants.{Start}
use Rattle.text.specs.Texts.{lines_of, Taken}
use Rattle.text.specs.Describing.{Described, nothing, description_step, Complete, Incomplete}
use Rattle.text.specs.Programs.{Reading, program_step}
use Rattle.text.specs.Loads.{FitsText, Describes, Programs, Loaded, Refused, in_description, missing}
use Rattle.text.specs.Answered.{Answered, NotDescribed, line_refused, line_missing}
use Rattle.text.proofs.Describes.{all_taken}

-- where all lines of a description are taken in, it is finished or a line is missing
pub machine_told : (text : List ℕ) (m : Described) (o : Option Description) (r : Result Description RefusedText) (x : RefusedText) → Taken IsDescriptionLine description_step nothing (lines_of text) (Ok m) → MatchOption o (Incomplete m) (λ d. Complete m d) → r ≡ ok_or o x → x.refusal ≡ Unreadable → x.line.now ≡ [] → MatchResult r (λ y. Describes text y) (λ w. NotDescribed text w.refusal w.line.now)
machine_told text m None r x taken short-of e u l =
    let P : Result Description RefusedText → Type 0 = λ q. MatchResult q (λ y. Describes text y) (λ w. NotDescribed text w.refusal w.line.now) in
    subst P (sym e) (line_missing m taken short-of u l)
machine_told text m (Some d) r x taken whole e u l =
    let P : Result Description RefusedText → Type 0 = λ q. MatchResult q (λ y. Describes text y) (λ w. NotDescribed text w.refusal w.line.now) in
    subst P (sym e) (record { read = m; lines = taken; whole = whole })

pub not_described : (d p : List ℕ) (e : Refusal) (line : List ℕ) → FitsText d → FitsText p → NotDescribed d e line → Refused d p e line
not_described d p e line short few (line_refused taken) = in_description short few taken
not_described d p e line short few (line_missing m taken short-of u l) = missing short few m taken short-of u l

pub all_loaded : (d p : List ℕ) (x : Description) (v : State) (t : Reading) → FitsText d → FitsText p → Describes d x → v ≡ fresh x → Taken IsProgramLine program_step (record { state = v; stage = Start }) (lines_of p) (Ok t) → Loaded d p t.state
all_loaded d p x v t short few is e taken =
    let h = all_taken x v p t e taken in
    record {
      short = (short, few);
      described = subst (λ y. Describes d y) (sym h.0) is;
      read = subst (λ y. Programs p y t.state) (sym h.0) h.1;
    }

-- what is answered at a `?`
pub answered_err : (d p : List ℕ) (r : Result Blocks Fault) (f : Fault) → IsErrAnd r (λ g. g ≡ f) → Answered d p (Err f) → Answered d p r
answered_err d p r f is h = let q = err_from_is_err_and r is in rw (q.1, q.2) h
