-- What the call from C answers, and what it leaves in the room for the verdicts. Assumes nothing.
use Rattle.std.specs.Prelude.{◌≡◌, ℕ, ◌<◌, ◌≤◌, List, ◌++◌, length, drop}
use Rattle.operations.specs.declared.refusal.Refusal.{Refusal}
use Rattle.operations.specs.Refusals.{number_of}
use Rattle.blocks.specs.Calls.{State}
use Rattle.text.specs.declared.fault.Fault.{Fault}
use Rattle.text.specs.declared.fault.Fault.TheVariants as fault
use Rattle.text.specs.Loads.{SetMade, Loaded, Refused}
use Rattle.verdicts.specs.declared.verdict.BlockVerdict.{BlockVerdict}
use Rattle.verdicts.specs.Listing.{Told}
use Rattle.blockcheck_c.specs.Numbers.{numbers_of}

-- the number of a refusal, or that memory has run out
abbrev pub fault_number : Fault → ℕ
fault_number fault.Memory = 255
fault_number (fault.Refused r) = number_of r.refusal

-- the numbers at the front of the room, the rest as it was
abbrev pub at_front : List ℕ → List ℕ → List ℕ
at_front ns room = ns ++ drop (length ns) room

-- the verdicts on the blocks of the two texts
pub record Verdicts (description program : List ℕ) (vs : List BlockVerdict) : Type 0 where
  pub state : State
  pub loaded : Loaded description program state
  pub told : Told state vs

-- the numbers of the verdicts on the blocks of the two texts
pub record Numbered (description program ns : List ℕ) : Type 0 where
  pub verdicts : List BlockVerdict
  pub verdicts_of : Verdicts description program verdicts
  pub same : ns ≡ numbers_of verdicts

pub data Answers (description program room after : List ℕ) (r : ℕ) : Type 0 where
  told : (vs : List BlockVerdict) → Verdicts description program vs → length (numbers_of vs) ≤ length room → r ≡ 0 → after ≡ at_front (numbers_of vs) room → Answers description program room after r
  refused : (e : Refusal) (line : List ℕ) → Refused description program e line → r ≡ number_of e → after ≡ room → Answers description program room after r
  no_room : (vs : List BlockVerdict) → Verdicts description program vs → length room < length (numbers_of vs) → r ≡ 17 → after ≡ room → Answers description program room after r
  no_memory : SetMade description program → r ≡ 255 → after ≡ room → Answers description program room after r
