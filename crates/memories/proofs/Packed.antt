use Rattle.std.proofs.Common.{◌≡◌, ℕ, ◌+◌, ◌-◌, ◌/◌, ◌%◌, ◌<◌, ◌≤◌, Bool, true, false, cond, ◌&&◌, eqb, ltb, List, [], ◌∷◌, length, get_or, drop, set, Some, None, Option, sym, refl, ap, ◌∙◌, arith, length-set, get_or-set_other, get_or-set_same}
use Rattle.std.proofs.lemmas.List.{drop_more}
use Rattle.std.proofs.lemmas.Bool.{eq-eqb, eqb-true, eqb-false, ltb-true, lt-ltb, le-ltb}
use Rattle.memories.specs.declared.section.Section.{Section}
use Rattle.memories.specs.Meaning.{after}
use Rattle.memories.specs.Sections.{holds_word, place, under, index, there, word_at, sect_has, sect_word}

-- the steps of the search
pub place_here : (base : ℕ) (ss : List Section) (i w : ℕ) (d : Section) → i < length ss → holds_word (get_or ss i d) w ≡ true → place base (drop i ss) w ≡ Some (base + (w - (get_or ss i d).offset / 4))
place_here base ss i w d h e =
    let s = get_or ss i d in
    ap (λ l. place base l w) (drop_more ss i d h)
    ∙ ap (λ b. cond b (Some (base + (w - s.offset / 4))) (place (base + s.length / 4) (drop (i + 1) ss) w)) e

pub place_next : (base : ℕ) (ss : List Section) (i w : ℕ) (d : Section) → i < length ss → holds_word (get_or ss i d) w ≡ false → place base (drop i ss) w ≡ place (base + (get_or ss i d).length / 4) (drop (i + 1) ss) w
place_next base ss i w d h e =
    let s = get_or ss i d in
    ap (λ l. place base l w) (drop_more ss i d h)
    ∙ ap (λ b. cond b (Some (base + (w - s.offset / 4))) (place (base + s.length / 4) (drop (i + 1) ss) w)) e

-- a place is never before its base
low_by : (b : Bool) (base q k : ℕ) (rest : Option ℕ) → (rest ≡ Some k → base ≤ k) → cond b (Some (base + q)) rest ≡ Some k → base ≤ k
low_by true base q k rest ih e = let z : base + q ≡ k = cc in omega arith
low_by false base q k rest ih e = ih e

pub place_low : (ss : List Section) (base w k : ℕ) → place base ss w ≡ Some k → base ≤ k
place_low [] base w k e = let z : ◌≡◌ {A = ℕ} 0 1 = cc in omega arith
place_low (s ∷ ss) base w k e =
    low_by (holds_word s w) base (w - s.offset / 4) k (place (base + s.length / 4) ss w) (λ r. let z = place_low ss (base + s.length / 4) w k r in omega arith) e

-- places past the words are none
pub past : (o : Option ℕ) (n : ℕ) → ((k : ℕ) → o ≡ Some k → n ≤ k) → under n o ≡ None
past None n h = refl
past (Some k) n h = ap (λ b. cond b (Some k) None) (le-ltb k n (h k refl))

pub within : (o : Option ℕ) (n k : ℕ) → under n o ≡ Some k → (o ≡ Some k) × (k < n)
within None n k e = let z : ◌≡◌ {A = ℕ} 0 1 = cc in absurd (omega arith)
within (Some j) n k e = by (ltb j n) refl e
  where
    by : (b : Bool) → ltb j n ≡ b → cond b (Some j) None ≡ Some k → (Some j ≡ Some k) × (k < n)
    by true t e = let z : j ≡ k = cc in let y = ltb-true j n t in (e, omega arith)
    by false t e = let z : ◌≡◌ {A = ℕ} 0 1 = cc in absurd (omega arith)

-- two words of one place are one
one_by : (p q : Bool) (s : Section) (base a b k : ℕ) (ra rb : Option ℕ) → holds_word s a ≡ p → holds_word s b ≡ q → (ra ≡ Some k → base + s.length / 4 ≤ k) → (rb ≡ Some k → base + s.length / 4 ≤ k) → (ra ≡ Some k → rb ≡ Some k → a ≡ b) → cond p (Some (base + (a - s.offset / 4))) ra ≡ Some k → cond q (Some (base + (b - s.offset / 4))) rb ≡ Some k → a ≡ b
one_by true true s base a b k ra rb ia ib la lb ih ea eb =
    let za : base + (a - s.offset / 4) ≡ k = cc in
    let zb : base + (b - s.offset / 4) ≡ k = cc in
    grind arith
one_by true false s base a b k ra rb ia ib la lb ih ea eb =
    let za : base + (a - s.offset / 4) ≡ k = cc in
    let zb = lb eb in
    grind arith
one_by false true s base a b k ra rb ia ib la lb ih ea eb =
    let za = la ea in
    let zb : base + (b - s.offset / 4) ≡ k = cc in
    grind arith
one_by false false s base a b k ra rb ia ib la lb ih ea eb = ih ea eb

pub place_one : (ss : List Section) (base a b k : ℕ) → place base ss a ≡ Some k → place base ss b ≡ Some k → a ≡ b
place_one [] base a b k ea eb = let z : ◌≡◌ {A = ℕ} 0 1 = cc in omega arith
place_one (s ∷ ss) base a b k ea eb =
    let next = base + s.length / 4 in
    one_by (holds_word s a) (holds_word s b) s base a b k (place next ss a) (place next ss b) refl refl
    (place_low ss next a k) (place_low ss next b k) (place_one ss next a b k) ea eb

-- what the search answers, of the words from address 4 · w on
pub index_is : (ss : List Section) (n a : ℕ) (o : Option ℕ) → a % 4 ≡ 0 → o ≡ under n (place 0 ss (a / 4)) → o ≡ index ss n a
index_is ss n a o m e = e ∙ sym (ap (λ b. cond b (under n (place 0 ss (a / 4))) None) (eq-eqb (a % 4) 0 m))

pub under_yes : (n k : ℕ) → k < n → under n (Some k) ≡ Some k
under_yes n k h = ap (λ b. cond b (Some k) None) (lt-ltb k n h)

pub under_no : (n k : ℕ) → n ≤ k → under n (Some k) ≡ None
under_no n k h = ap (λ b. cond b (Some k) None) (le-ltb k n h)

-- the place of an address is a place of its word
index_by : (b : Bool) (n k : ℕ) (o : Option ℕ) → cond b (under n o) None ≡ Some k → (b ≡ true) × ((o ≡ Some k) × (k < n))
index_by true n k o e = (refl, within o n k e)
index_by false n k o e = let z : ◌≡◌ {A = ℕ} 0 1 = cc in absurd (omega arith)

pub index_place : (ss : List Section) (n a k : ℕ) → index ss n a ≡ Some k → (eqb (a % 4) 0 ≡ true) × ((place 0 ss (a / 4) ≡ Some k) × (k < n))
index_place ss n a k e = index_by (eqb (a % 4) 0) n k (place 0 ss (a / 4)) e

pub index_under : (ss : List Section) (n a : ℕ) (o : Option ℕ) → o ≡ index ss n a → (k : ℕ) → o ≡ Some k → k < n
index_under ss n a o e k z = (index_place ss n a k (sym e ∙ z)).1.1

pub index_one : (ss : List Section) (n a b k : ℕ) → index ss n a ≡ Some k → index ss n b ≡ Some k → a ≡ b
index_one ss n a b k ea eb =
    let p = index_place ss n a k ea in
    let q = index_place ss n b k eb in
    let m = eqb-true (a % 4) 0 p.0 in
    let l = eqb-true (b % 4) 0 q.0 in
    let z = place_one ss 0 (a / 4) (b / 4) k p.1.0 q.1.0 in
    omega arith

pub past_next : (base : ℕ) (ss : List Section) (i w : ℕ) (d : Section) (n : ℕ) → i < length ss → holds_word (get_or ss i d) w ≡ false → n ≤ base + (get_or ss i d).length / 4 → under n (place base (drop i ss) w) ≡ None
past_next base ss i w d n h e l =
    let next = base + (get_or ss i d).length / 4 in
    ap (under n) (place_next base ss i w d h e)
    ∙ past (place next (drop (i + 1) ss) w) n (λ k z. let y = place_low (drop (i + 1) ss) next w k z in omega arith)

-- a store alters the word at its own address alone
pub same_index : (ss : List Section) (ws : List ℕ) (k v a : ℕ) → index ss (length (set ws k v)) a ≡ index ss (length ws) a
same_index ss ws k v a = ap (λ n. index ss n a) (length-set ws k v)

word_by : (o : Option ℕ) (t : Bool) (ss : List Section) (ws : List ℕ) (b k v a : ℕ) → index ss (length ws) b ≡ Some k → index ss (length ws) a ≡ o → eqb a b ≡ t → word_at (set ws k v) o ≡ cond t v (word_at ws o)
word_by o true ss ws b k v a e eo t =
    let h = (index_place ss (length ws) b k e).1.1 in
    ap (word_at (set ws k v)) (sym eo ∙ ap (index ss (length ws)) (eqb-true a b t) ∙ e) ∙ get_or-set_same ws k v 0 h
word_by None false ss ws b k v a e eo t = refl
word_by (Some j) false ss ws b k v a e eo t =
    get_or-set_other ws k j v 0 (λ z. eqb-false a b t (index_one ss (length ws) a b k (eo ∙ ap Some z) e))

pub word_after : (ss : List Section) (ws : List ℕ) (b k v : ℕ) → index ss (length ws) b ≡ Some k → (a : ℕ) → sect_word ss (set ws k v) a ≡ after (sect_has ss ws b && true) b v a (sect_word ss ws a)
word_after ss ws b k v e a =
    ap (word_at (set ws k v)) (same_index ss ws k v a)
    ∙ word_by (index ss (length ws) a) (eqb a b) ss ws b k v a e refl refl
    ∙ sym (ap (λ o. after (there o && true) b v a (sect_word ss ws a)) e)
