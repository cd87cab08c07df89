-- Parts of a line. Assumes nothing.
use Rattle.std.proofs.Common.{◌≡◌, ℕ, ◌+◌, ◌-◌, ◌≤◌, List, ◌++◌, length, drop, sym, ap, ◌∙◌, arith, length-append, drop-drop}
use Rattle.std.proofs.lemmas.List.{drop_at}

pub taken_length : (text front rest : List ℕ) → text ≡ front ++ rest → length rest ≤ length text
taken_length text front rest e = omega (arith, ap length e, length-append front rest)

-- what is left behind a front of what was left
pub left_behind : (line text front rest : List ℕ) (at taken : ℕ) → text ≡ drop at line → text ≡ front ++ rest → taken ≡ length text - length rest → drop (at + taken) line ≡ rest
left_behind line text front rest at taken from e is =
    sym (drop-drop taken at line)
    ∙ ap (drop taken) (sym from ∙ e)
    ∙ drop_at front rest taken (omega (arith, ap length e, length-append front rest))
