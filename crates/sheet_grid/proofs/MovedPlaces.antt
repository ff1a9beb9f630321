-- Where numbers stand after what stood at some positions moved.
use Rattle.std.proofs.Common.{◌≡◌, ℕ, ◌+◌, ◌<◌, ◌≢◌, ◌⊎◌, inl, inr, List, [], ◌∷◌, ◌++◌, length, take, get_or, set, refl, ap, sym, ◌∙◌, arith, All}
use Rattle.std.proofs.lemmas.Bool.{cases_eq}
use Rattle.std.proofs.lemmas.List.{take_more, get_or_default, get_or-set_same, get_or-set_other, get_or-take, length-take-le}
use Rattle.marked_lines.specs.Moves.{image, IsPerm}
use Rattle.marked_lines.proofs.Permuting.{image_push-here, image_push-other}
use Rattle.sheet_grid.specs.Numbers.{IsNumbered}

module _ (numbers places : List ℕ) (ok : IsNumbered numbers places) (moves : List (ℕ × ℕ)) (perm : IsPerm moves) where
  -- one move more
  pub place_more : (after : List ℕ) (k : ℕ) (m : ℕ × ℕ) (n : ℕ) → k < length moves → get_or moves k m ≡ m → m.0 < length numbers → n ≡ get_or numbers m.0 0 → length after ≡ length places →
      ((j : ℕ) → j < length places → get_or after j 0 ≡ image (take k moves) (get_or places j 0)) →
      (j : ℕ) → j < length places → get_or (set after n m.1) j 0 ≡ image (take (k + 1) moves) (get_or places j 0)
  place_more after k m n within is below number long before j inside = by_number (cases_eq n j)
    where
      more : image (take (k + 1) moves) ≡ image (take k moves ++ m ∷ [])
      more = ap image (take_more moves k m within ∙ ap (λ o. take k moves ++ o ∷ []) is)

      none : All (λ o. o.0 ≢ m.0) (take k moves)
      none i d lt same =
          let earlier : i < k = omega (arith, lt, length-take-le k moves (omega arith)) in
          let up = perm.ascending i k d earlier within in
          let first = ap (λ o. o.0) (get_or-take k moves i d earlier) in
          let last = ap (λ o. o.0) (get_or_default moves k d m within ∙ is) in
          omega (arith, up, first, last, same)

      back : (get_or numbers m.0 0 < length numbers) × (get_or places (get_or numbers m.0 0) 0 ≡ m.0)
      back = ok.back m.0 below

      by_number : (n ≡ j) ⊎ (n ≢ j) → get_or (set after n m.1) j 0 ≡ image (take (k + 1) moves) (get_or places j 0)
      by_number (inl same) =
          let there : get_or places j 0 ≡ m.0 = ap (λ i. get_or places i 0) (sym same ∙ number) ∙ back.1 in
          ap (λ i. get_or (set after n m.1) i 0) (sym same)
          ∙ (get_or-set_same after n m.1 0 (let e = ok.as_many in omega (arith, e, long, same, inside))
          ∙ sym (ap (image (take (k + 1) moves)) there ∙ (ap (λ f. f m.0) more ∙ image_push-here (take k moves) m m.0 none refl)))
      by_number (inr other) =
          let apart : m.0 ≢ get_or places j 0 = λ e. other (number ∙ (ap (λ p. get_or numbers p 0) e ∙ (ok.forth j (let q = ok.as_many in omega (arith, q, inside))).1)) in
          get_or-set_other after n j m.1 0 (λ e. other (sym e))
          ∙ (before j inside ∙ sym (ap (λ f. f (get_or places j 0)) more ∙ image_push-other (take k moves) m (get_or places j 0) apart))
