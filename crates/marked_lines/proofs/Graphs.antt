-- Moves that follow a map.
use Rattle.std.proofs.Common.{◌≡◌, ℕ, ◌<◌, ◌≢◌, ◌⊎◌, inl, inr, List, [], ◌∷◌, map, sym, ◌∙◌, ap, All, AllPairs}
use Rattle.std.proofs.lemmas.List.Elements.{All-nil, All-cons, All-head, All-tail}
use Rattle.std.proofs.lemmas.Bool.{cases_eq}
use Rattle.marked_lines.specs.Moves.{image, turned, source, IsPerm}
use Rattle.marked_lines.proofs.Images.{image_here, image_there, image_none}

-- each pair of the list leads where the map f does
abbrev pub Follows : (ℕ → ℕ) → List (ℕ × ℕ) → Type 0
Follows f moves = All (λ m. m.1 ≡ f m.0) moves

-- the source of moves that follow f and hold all that f moves is the inverse of f
module _ (f back : ℕ → ℕ) (undoes : (p : ℕ) → back (f p) ≡ p) (redoes : (q : ℕ) → f (back q) ≡ q) where
  source_follows : (moves : List (ℕ × ℕ)) (q : ℕ) → Follows f moves → (All (λ m. m.1 ≢ q) moves → back q ≡ q) → source moves q ≡ back q
  source_follows [] q follows rest = sym (rest (All-nil (λ m. m.1 ≢ q)))
  source_follows (m ∷ moves) q follows rest =
      by_head (cases_eq m.1 q) (λ other. source_follows moves q (All-tail (λ n. n.1 ≡ f n.0) m moves follows) (λ none. rest (All-cons (λ n. n.1 ≢ q) m moves other none)))
    where
      by_head : (m.1 ≡ q) ⊎ (m.1 ≢ q) → (m.1 ≢ q → source moves q ≡ back q) → source (m ∷ moves) q ≡ back q
      by_head (inl same) others = image_here (turned m) (map turned moves) q same ∙ sym (undoes m.0) ∙ ap back (sym (All-head (λ n. n.1 ≡ f n.0) m moves follows) ∙ same)
      by_head (inr other) others = image_there (turned m) (map turned moves) q other ∙ others other

  pub source_is : (moves : List (ℕ × ℕ)) → Follows f moves → ((p : ℕ) → image moves p ≡ f p) → (q : ℕ) → source moves q ≡ back q
  source_is moves follows same q = source_follows moves q follows (λ none.
      let apart : All (λ m. m.0 ≢ back q) moves = λ k d within at.
      none k d within (follows k d within ∙ ap f at ∙ redoes q) in
      sym (image_none moves (back q) apart) ∙ same (back q) ∙ redoes q)

  pub IsPerm-follows : (moves : List (ℕ × ℕ)) → AllPairs (λ m n. m.0 < n.0) moves → All (λ m. m.0 ≢ m.1) moves → Follows f moves → ((p : ℕ) → image moves p ≡ f p) → IsPerm moves
  IsPerm-follows moves up moving follows same =
      let sources = source_is moves follows same in
      record {
        ascending = up;
        moving = moving;
        back = λ p. sources (image moves p) ∙ ap back (same p) ∙ undoes p;
        forth = λ q. ap (image moves) (sources q) ∙ same (back q) ∙ redoes q;
      }
