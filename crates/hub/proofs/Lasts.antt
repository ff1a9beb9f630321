-- The last element of a list, taken out again.
use Rattle.std.proofs.Common.{◌≡◌, List, [], ◌∷◌, ◌++◌, length, ap, ◌∙◌, sym, arith, Option, Some, None, length-append}
use Rattle.std.specs.Prelude.{MatchOption}
use Rattle.std.proofs.lemmas.List.{same_from_push}

module _ {A : Type 0} where
  -- what is left when the last one is taken out
  pub popped : (old new front : List A) (last : A) (taken : Option A) → old ≡ front ++ last ∷ [] → MatchOption taken ((old ≡ []) × (new ≡ [])) (λ (x : A). old ≡ new ++ x ∷ []) → new ≡ front
  popped old new front last None is none = absurd (omega (arith, ap length (sym is ∙ none.0), length-append front (last ∷ [])))
  popped old new front last (Some x) is some = (same_from_push new front x last (sym some ∙ is)).0
