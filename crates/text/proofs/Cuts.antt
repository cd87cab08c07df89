-- The first line of a text. Assumes nothing.
use Rattle.std.proofs.Common.{◌≡◌, ℕ, Bool, true, false, Some, None, suc, ◌+◌, ◌-◌, ◌<◌, ◌≤◌, cond, eqb, ltb, eqb-true, ltb-false, List, [], ◌∷◌, ◌++◌, length, get_or, take, drop, sym, refl, ap, ◌∙◌, arith, length-append, take-append-drop, ne_eqb}
use Rattle.std.specs.List.{position, position_or_len}
use Rattle.std.proofs.lemmas.Bool.{eqb-false}
use Rattle.std.proofs.lemmas.Option.{none-some}
use Rattle.std.proofs.lemmas.List.Quantifiers.{position-Some}
use Rattle.std.proofs.lemmas.List.Sums.{fails_before_first}
use Rattle.std.proofs.lemmas.List.{take_rest, drop_more, get_or-take, length-take-le}
use Rattle.text.specs.Texts.{NoNewline, longer, lines_of}

pub cut_at : (t : List ℕ) (i : ℕ) → i < length t → get_or t i 0 ≡ 10 → t ≡ take i t ++ 10 ∷ take (length t - (i + 1)) (drop (i + 1) t)
cut_at t i h e =
    sym (take-append-drop i t)
    ∙ ap (λ l. take i t ++ l) (drop_more t i 0 h)
    ∙ ap (λ b. take i t ++ b ∷ drop (i + 1) t) e
    ∙ ap (λ l. take i t ++ 10 ∷ l) (sym (take_rest t (i + 1)))

pub front_plain : (t : List ℕ) (i : ℕ) → i ≤ length t → ((k : ℕ) → k < i → eqb (get_or t k 0) 10 ≡ false) → NoNewline (take i t)
front_plain t i h none k lt e =
    let l : k < i = omega (arith, length-take-le i t (omega arith)) in
    eqb-false (get_or t k 0) 10 (none k l) (sym (get_or-take i t k 0 (omega arith)) ∙ e)

tail_plain : (b : ℕ) (l : List ℕ) → NoNewline (b ∷ l) → NoNewline l
tail_plain b l none k lt e = none (suc k) (omega arith) e

head_plain : (b : ℕ) (l : List ℕ) → NoNewline (b ∷ l) → b ≡ 10 → ⊥
head_plain b l none e = none 0 (omega arith) e

-- a newline ends the first line
pub line_before : (l rest : List ℕ) → NoNewline l → lines_of (l ++ 10 ∷ rest) ≡ l ∷ lines_of rest
line_before [] rest none = refl
line_before (b ∷ l) rest none =
    let ih = line_before l rest (tail_plain b l none) in
    let h = ne_eqb b 10 (head_plain b l none) in
    ap (λ t. cond t ([] ∷ lines_of (l ++ 10 ∷ rest)) (longer b (lines_of (l ++ 10 ∷ rest)))) h ∙ ap (longer b) ih

-- the last line may lack its newline
pub line_alone : (b : ℕ) (l : List ℕ) → NoNewline (b ∷ l) → lines_of (b ∷ l) ≡ (b ∷ l) ∷ []
line_alone b [] none = ap (λ t. cond t ([] ∷ []) ((b ∷ []) ∷ [])) (ne_eqb b 10 (head_plain b [] none))
line_alone b (a ∷ l) none =
    let ih = line_alone a l (tail_plain b (a ∷ l) none) in
    let h = ne_eqb b 10 (head_plain b (a ∷ l) none) in
    ap (λ t. cond t ([] ∷ lines_of (a ∷ l)) (longer b (lines_of (a ∷ l)))) h ∙ ap (longer b) ih

pub line_last : (t : List ℕ) → NoNewline t → (length t ≡ 0 → ⊥) → lines_of t ≡ t ∷ []
line_last [] none some = absurd (some refl)
line_last (b ∷ l) none some = line_alone b l none

-- the first line and the lines behind it; fewer bytes are left
line_cut : (t l rest : List ℕ) → t ≡ l ++ 10 ∷ rest → NoNewline l → (lines_of t ≡ l ∷ lines_of rest) × (length rest < length t)
line_cut t l rest e none = (ap lines_of e ∙ line_before l rest none, omega (arith, ap length e, length-append l (10 ∷ rest)))

pub cut_line : (t : List ℕ) (i : ℕ) → position (λ b. eqb b 10) t ≡ Some i → (lines_of t ≡ take i t ∷ lines_of (take (length t - (i + 1)) (drop (i + 1) t))) × (length (take (length t - (i + 1)) (drop (i + 1) t)) < length t)
cut_line t i e =
    let p = position-Some (λ b. eqb b 10) t i 0 e in
    line_cut t _ _ (cut_at t i p.0 (eqb-true (get_or t i 0) 10 p.1)) (front_plain t i (omega arith) p.2)

behind_all : (t : List ℕ) → take (length t - length t) (drop (length t) t) ≡ []
behind_all t =
    let e : length t - length t ≡ 0 = omega arith in
    ap (λ n. take n (drop (length t) t)) e

none_plain : (t : List ℕ) → position (λ b. eqb b 10) t ≡ None → NoNewline t
none_plain t e k lt = eqb-false (get_or t k 0) 10 (fails_before_first (λ b. eqb b 10) t k 0 (by (ltb (position_or_len (λ b. eqb b 10) t) (length t)) refl e))
  where
    by : (b : Bool) → ltb (position_or_len (λ b. eqb b 10) t) (length t) ≡ b → cond b (Some (position_or_len (λ b. eqb b 10) t)) None ≡ None → k < position_or_len (λ b. eqb b 10) t
    by true h n = absurd (none-some _ (sym n))
    by false h n = let m = ltb-false _ _ h in omega arith

pub last_line : (t : List ℕ) → position (λ b. eqb b 10) t ≡ None → eqb (length t) 0 ≡ false → (lines_of t ≡ t ∷ lines_of (take (length t - length t) (drop (length t) t))) × (length (take (length t - length t) (drop (length t) t)) < length t)
last_line t none some =
    let e = behind_all t in
    let long = eqb-false (length t) 0 some in
    (line_last t (none_plain t none) long ∙ ap (λ r. t ∷ lines_of r) (sym e), omega (arith, ap length e, long))
