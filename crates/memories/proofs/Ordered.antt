use Rattle.std.proofs.Common.{◌≡◌, ℕ, ◌+◌, ◌-◌, ◌/◌, ◌%◌, ◌<◌, ◌≤◌, Bool, true, false, cond, ◌&&◌, ◌||◌, eqb, ltb, leb, List, [], ◌∷◌, is_some, Some, None, Option, sym, refl, ap, ◌∙◌, arith}
use Rattle.std.proofs.lemmas.Bool.{and_parts, eqb-true, ltb-true, leb-true, leb-false, le-leb, lt-ltb}
use Rattle.std.specs.Option.{option_and_then}
use Rattle.memories.proofs.Totals.{total}
use Rattle.memories.specs.declared.section.Section.{Section}
use Rattle.memories.specs.Rules.{right}
use Rattle.memories.specs.Sections.{end_after, in_order, word_count, covered, holds_word, place, under, index, there}

abbrev pub follows : ℕ → Section → Option ℕ
follows low s = end_after s low

pub follow_all : (ss : List Section) (low : ℕ) → is_some (total follows low ss) ≡ in_order low ss
follow_all [] low = refl
follow_all (s ∷ ss) low = by (right s && leb low s.offset) (follow_all ss (s.offset + s.length))
  where
    by : (t : Bool) → is_some (total follows (s.offset + s.length) ss) ≡ in_order (s.offset + s.length) ss →
        is_some (option_and_then (λ d. total follows d ss) (cond t (Some (s.offset + s.length)) None)) ≡ (t && in_order (s.offset + s.length) ss)
    by true rest = rest
    by false rest = refl

pub right_parts : (o l : ℕ) → (eqb (o % 4) 0 && eqb (l % 4) 0 && ltb 0 l && leb (o + l) 4294967296) ≡ true → (o % 4 ≡ 0) × ((l % 4 ≡ 0) × (o + l ≤ 4294967296))
right_parts o l e = grind arith

-- bytes and words of a right section are alike
same_inside : (o l a : ℕ) → o % 4 ≡ 0 → l % 4 ≡ 0 → a % 4 ≡ 0 → (leb (o / 4) (a / 4) && ltb (a / 4 - o / 4) (l / 4)) ≡ (leb o a && ltb (a - o) l)
same_inside o l a eo el ea = grind arith

less : (c w n : ℕ) → n < c → leb (c + w) n ≡ false
less c w n h = grind arith

taken_off : (c w n : ℕ) → c ≤ n → leb w (n - c) ≡ leb (c + w) n
taken_off c w n h = grind arith

-- what is left of n words once a section has its own
abbrev pub leaves : ℕ → Section → Option ℕ
leaves n s = cond (leb (s.length / 4) n) (Some (n - s.length / 4)) None

pub leaves_all : (ss : List Section) (n : ℕ) → is_some (total leaves n ss) ≡ leb (word_count ss) n
leaves_all [] n = sym (le-leb 0 n (omega arith))
leaves_all (s ∷ ss) n = by (leb (s.length / 4) n) refl (leaves_all ss (n - s.length / 4))
  where
    by : (t : Bool) → leb (s.length / 4) n ≡ t → is_some (total leaves (n - s.length / 4) ss) ≡ leb (word_count ss) (n - s.length / 4) →
        is_some (option_and_then (λ d. total leaves d ss) (cond t (Some (n - s.length / 4)) None)) ≡ leb (s.length / 4 + word_count ss) n
    by true e rest = rest ∙ taken_off (s.length / 4) (word_count ss) n (leb-true (s.length / 4) n e)
    by false e rest = sym (less (s.length / 4) (word_count ss) n (leb-false (s.length / 4) n e))

-- what is packed within the words is what the sections cover
covers_by : (t : Bool) (s : Section) (base n w : ℕ) (o : Option ℕ) (r : Bool) → holds_word s w ≡ t → base + s.length / 4 ≤ n → there (under n o) ≡ r → there (under n (cond t (Some (base + (w - s.offset / 4))) o)) ≡ (t || r)
covers_by true s base n w o r e h i =
    let p = ltb-true (w - s.offset / 4) (s.length / 4) (and_parts (leb (s.offset / 4) w) (ltb (w - s.offset / 4) (s.length / 4)) e).1 in
    let k = base + (w - s.offset / 4) in
    let l : k < n = omega arith in
    ap (λ b. there (cond b (Some k) None)) (lt-ltb k n l)
covers_by false s base n w o r e h i = i

covers : (ss : List Section) (low base n a : ℕ) → in_order low ss ≡ true → base + word_count ss ≤ n → a % 4 ≡ 0 → there (under n (place base ss (a / 4))) ≡ covered ss a
covers [] low base n a g h m = refl
covers (s ∷ ss) low base n a g h m =
    let p = and_parts (right s && leb low s.offset) (in_order (s.offset + s.length) ss) g in
    let q = and_parts (right s) (leb low s.offset) p.0 in
    let t = right_parts s.offset s.length q.0 in
    let ih = covers ss (s.offset + s.length) (base + s.length / 4) n a p.1 (omega arith) m in
    covers_by (holds_word s (a / 4)) s base n (a / 4) (place (base + s.length / 4) ss (a / 4)) (covered ss a) refl (omega arith) ih
    ∙ ap (λ b. b || covered ss a) (same_inside s.offset s.length a t.0 t.1.0 m)

has_by : (b : Bool) (ss : List Section) (n a : ℕ) → eqb (a % 4) 0 ≡ b → in_order 0 ss ≡ true → word_count ss ≤ n → there (cond b (under n (place 0 ss (a / 4))) None) ≡ (b && covered ss a)
has_by true ss n a e g h = covers ss 0 0 n a g (omega arith) (eqb-true (a % 4) 0 e)
has_by false ss n a e g h = refl

pub has_covered : (ss : List Section) (n a : ℕ) → in_order 0 ss ≡ true → leb (word_count ss) n ≡ true → there (index ss n a) ≡ (eqb (a % 4) 0 && covered ss a)
has_covered ss n a g h = has_by (eqb (a % 4) 0) ss n a refl g (leb-true (word_count ss) n h)
