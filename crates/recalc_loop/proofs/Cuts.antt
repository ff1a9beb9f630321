-- A list of which the first elements were changed one after the other.
use Rattle.std.proofs.Common.{◌≡◌, ℕ, zero, suc, ◌+◌, ◌<◌, List, [], ◌∷◌, ◌++◌, length, map, take, drop, refl, ap, sym, ◌∙◌, subst, arith}
use Rattle.std.specs.Prelude.{slice_set, slice_index_or}
use Rattle.std.specs.List.{AllZip}

module _ {A : Type 0} (f : A → A) where
  -- the first so many are changed
  abbrev pub changed : ℕ → List A → List A
  changed i xs = map f (take i xs) ++ drop i xs

  pub unchanged_yet : (xs : List A) (i : ℕ) (d : A) → slice_index_or (changed i xs) i d ≡ slice_index_or xs i d
  unchanged_yet [] zero d = refl
  unchanged_yet [] (suc i) d = refl
  unchanged_yet (x ∷ xs) zero d = refl
  unchanged_yet (x ∷ xs) (suc i) d = unchanged_yet xs i d

  next_changed : (xs : List A) (i : ℕ) (x : A) → i < length xs → x ≡ slice_index_or xs i x → slice_set (changed i xs) i (f x) ≡ changed (suc i) xs
  next_changed [] i x h is = absurd (omega arith)
  next_changed (z ∷ xs) zero x h is = ap (λ (w : A). f w ∷ xs) is
  next_changed (z ∷ xs) (suc i) x h is = ap (λ (ws : List A). f z ∷ ws) (next_changed xs i x (omega arith) is)

  -- one element more
  pub changed_more : (xs ys : List A) (i : ℕ) (x y : A) → ys ≡ changed i xs → i < length xs → x ≡ slice_index_or ys i x → y ≡ f x → slice_set ys i y ≡ changed (i + 1) xs
  changed_more xs ys i x y before h is new =
      let here : x ≡ slice_index_or xs i x = is ∙ ap (λ (zs : List A). slice_index_or zs i x) before ∙ unchanged_yet xs i x in
      let one : suc i ≡ i + 1 = omega arith in
      (λ j. slice_set (before j) i (new j)) ∙ (next_changed xs i x h here ∙ ap (λ (n : ℕ). changed n xs) one)

  module _ (R : A → A → Type 0) (keeps : (x : A) → R x x) (changes : (x : A) → R x (f x)) where
    each_kept : (xs : List A) → AllZip R xs xs
    each_kept [] = tt
    each_kept (x ∷ xs) = (keeps x, each_kept xs)

    pub each_changed : (xs : List A) (i : ℕ) → AllZip R xs (changed i xs)
    each_changed [] zero = tt
    each_changed [] (suc i) = tt
    each_changed (x ∷ xs) zero = (keeps x, each_kept xs)
    each_changed (x ∷ xs) (suc i) = (changes x, each_changed xs i)

    other_there : (xs : List A) (i : ℕ) (x y : A) → x ≡ slice_index_or xs i x → R x y → AllZip R xs (slice_set (changed i xs) i y)
    other_there [] zero x y is r = tt
    other_there [] (suc i) x y is r = tt
    other_there (z ∷ xs) zero x y is r = (subst (λ (w : A). R w y) is r, each_kept xs)
    other_there (z ∷ xs) (suc i) x y is r = (changes z, other_there xs i x y is r)

    -- the next one became another
    pub each_other : (xs ys : List A) (i : ℕ) (x y : A) → ys ≡ changed i xs → x ≡ slice_index_or ys i x → R x y → AllZip R xs (slice_set ys i y)
    each_other xs ys i x y before is r =
        let here : x ≡ slice_index_or xs i x = is ∙ ap (λ (zs : List A). slice_index_or zs i x) before ∙ unchanged_yet xs i x in
        subst (λ (zs : List A). AllZip R xs (slice_set zs i y)) (sym before) (other_there xs i x y here r)
