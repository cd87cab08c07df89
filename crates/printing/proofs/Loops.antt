-- Loops that print. Assumes nothing.
use Rattle.std.proofs.Common.{◌≡◌, ℕ, ◌+◌, ◌<◌, ◌≤◌, List, [], ◌∷◌, ◌++◌, map, length, get_or, take, sym, refl, ap, ◌∙◌, subst, append_assoc}
use Rattle.std.specs.List.{flat_map, AllByRecursion}
use Rattle.std.proofs.ByRecursion.{All-push}
use Rattle.std.proofs.lemmas.List.{flat_map_more, take_more, take_all}

joined_map : {X Y : Type 0} (f : Y → List ℕ) (g : X → Y) (xs : List X) → flat_map (λ x. f (g x)) xs ≡ flat_map f (map g xs)
joined_map f g [] = refl
joined_map f g (x ∷ xs) = ap (λ l. f (g x) ++ l) (joined_map f g xs)

-- one more item has been printed, and P holds of it
module _ {X : Type 0} (f : X → List ℕ) (P : X → Type 0) where
  pub record Sofar (before now : List ℕ) (xs : List X) : Type 0 where
    pub text : now ≡ before ++ flat_map f xs
    pub each : AllByRecursion P xs

  pub printed_more : (before was now : List ℕ) (xs : List X) (i : ℕ) (x : X) → i < length xs → x ≡ get_or xs i x → Sofar before was (take i xs) → now ≡ was ++ f x → P x → Sofar before now (take (i + 1) xs)
  printed_more before was now xs i x h is s more p = subst (Sofar before now) (ap (λ y. take i xs ++ y ∷ []) is ∙ sym (take_more xs i x h)) (record {
    text = more ∙ ap (λ l. l ++ f x) s.text ∙ flat_map_more f before (take i xs) x;
    each = All-push P (take i xs) x s.each p;
  })

pub printed_all : {X Y : Type 0} (f : Y → List ℕ) (g : X → Y) (P : X → Type 0) (before now : List ℕ) (xs : List X) (i : ℕ) → length xs ≤ i → Sofar (λ x. f (g x)) P before now (take i xs) → (now ≡ before ++ flat_map f (map g xs)) × AllByRecursion P xs
printed_all f g P before now xs i h s =
    let t = rw (take_all i xs h) at s in
    (t.text ∙ ap (λ l. before ++ l) (joined_map f g xs), t.each)

-- a head, the lines behind it, of which Q is known, and a last line
pub printed_three : {X Q : Type 0} (f : X → List ℕ) (head : X) (xs : List X) (last : X) (a b c d : List ℕ) → b ≡ a ++ f head → (c ≡ b ++ flat_map f xs) × Q → d ≡ c ++ f last → (d ≡ a ++ flat_map f (head ∷ (xs ++ last ∷ []))) × Q
printed_three f head xs last a b c d p q r = (
  r ∙ ap (λ l. l ++ f last) q.0 ∙ flat_map_more f b xs last ∙ ap (λ l. l ++ flat_map f (xs ++ last ∷ [])) p ∙ append_assoc a (f head) (flat_map f (xs ++ last ∷ [])),
  q.1,
)
