-- What is answered to C, from what load and verdicts answered. Assumes nothing.
use Rattle.std.proofs.Common.{◌≡◌, ℕ, ◌<◌, ◌≤◌, List, length, Err, refl, ap, ◌∙◌, subst}
use Rattle.blocks.specs.Calls.{State}
use Rattle.text.specs.declared.fault.Fault.{Fault}
use Rattle.text.specs.declared.fault.Fault.TheVariants as fault
use Rattle.text.specs.Loads.{SetMade, Loaded}
use Rattle.text.specs.Answered.{Answered}
use Rattle.blockcheck_c.specs.Answers.{fault_number, at_front, Numbered, Answers, told, refused, no_room, no_memory}

-- where blocks are loaded, a set of them was made
pub made : (d p : List ℕ) (s : State) → Loaded d p s → SetMade d p
made d p s l = record { short = l.short; machine = s.description; described = l.described }

module _ (d p room : List ℕ) where
  pub at_fault : (f : Fault) (r : ℕ) → Answered d p (Err f) → r ≡ fault_number f → Answers d p room room r
  at_fault fault.Memory r a e = no_memory a e refl
  at_fault (fault.Refused x) r a e = refused x.refusal x.line.now a e refl

  pub too_short : (ns : List ℕ) (r : ℕ) → Numbered d p ns → length room < length ns → r ≡ 17 → Answers d p room room r
  too_short ns r n h e = no_room n.verdicts n.verdicts_of (subst (λ ms. length room < length ms) n.same h) e refl

  pub all_told : (ns after : List ℕ) → Numbered d p ns → length ns ≤ length room → after ≡ at_front ns room → Answers d p room after 0
  all_told ns after n h e = told n.verdicts n.verdicts_of (subst (λ ms. length ms ≤ length room) n.same h) refl (e ∙ ap (λ ms. at_front ms room) n.same)
