-- What a walk found depends only on which cells each cell mentions, and not on their order.
use Rattle.std.proofs.Common.{◌≡◌, ℕ, Bool, true, false, List, [], ◌∷◌, refl, ap, ◌∙◌, inl, inr}
use Rattle.std.specs.Prelude.{◌||◌}
use Rattle.std.specs.List.{list_any}
use Rattle.cell_walk.specs.declared.walking.Colour.{Colour}
use Rattle.cell_walk.specs.Walks.{IsIn, is_circle, Orderly, IsFound}
use Rattle.sheet_graph.specs.Graphs.{HaveSameMembers}

module _ (p : ℕ → Bool) where
  any_in : (xs : List ℕ) (x : ℕ) → IsIn x xs → p x ≡ true → list_any p xs ≡ true
  any_in [] x h e = absurd h
  any_in (y ∷ ys) x (inl q) e = ap (λ b. b || list_any p ys) (ap p q ∙ e)
  any_in (y ∷ ys) x (inr h) e = by_first (p y) (any_in ys x h e)
    where
      by_first : (b : Bool) → list_any p ys ≡ true → b || list_any p ys ≡ true
      by_first true h = refl
      by_first false h = h

  any_there : (xs ys : List ℕ) → ((x : ℕ) → IsIn x xs → IsIn x ys) → list_any p xs ≡ true → list_any p ys ≡ true
  any_there [] ys h k = absurd (let e : false ≡ true = k in cc)
  any_there (x ∷ xs) ys h k = by_first (p x) refl k (any_there xs ys (λ z i. h z (inr i)))
    where
      by_first : (b : Bool) → p x ≡ b → b || list_any p xs ≡ true → (list_any p xs ≡ true → list_any p ys ≡ true) → list_any p ys ≡ true
      by_first true e j f = any_in ys x (h x (inl refl)) e
      by_first false e j f = f j

module _ (listed mentions : ℕ → List ℕ) (same : (c : ℕ) → HaveSameMembers (listed c) (mentions c)) (first : ℕ → Colour) where
  orderly_alike : (order : List ℕ) → Orderly listed first order → Orderly mentions first order
  orderly_alike [] h = tt
  orderly_alike (c ∷ before) h = ((λ d i. h.0 d ((same c).back d i)), orderly_alike before h.1)

  pub found_alike : (count : ℕ) (hue : ℕ → Colour) (order : List ℕ) → IsFound listed first count hue order → IsFound mentions first count hue order
  found_alike count hue order f = record {
    each = f.each;
    circles = λ c e. any_there (λ d. is_circle (hue d)) (listed c) (mentions c) (same c).there (f.circles c e);
    orderly = orderly_alike order f.orderly;
    in_order = f.in_order;
    ordered = f.ordered;
    distinct = f.distinct;
  }
