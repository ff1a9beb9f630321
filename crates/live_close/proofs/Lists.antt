-- Lists by places.
use Rattle.std.proofs.Common.{◌≡◌, ℕ, zero, suc, ◌<◌, List, [], ◌∷◌, ◌++◌, length, map, get_or, refl, ap, sym, ◌∙◌, subst, arith, Some, None, inl, inr, append_assoc}
use Rattle.std.specs.Prelude.{slice_get, All, Contains, ◌⊎◌}
use Rattle.ss_base.specs.Lists.{IsPrefixOf}
use Rattle.std.proofs.lemmas.List.{append-nil}

module _ {A : Type 0} where
  pub some_same : (x y : A) → Some x ≡ Some y → x ≡ y
  some_same x y e = cc (e)

  pub none_there : {B : Type 0} (x : A) → None ≡ Some x → B
  none_there x e = absurd (cc (e))

  -- what holds at each place and at the next one holds at each place of the longer list
  pub each_more : (P : ℕ → A → Type 0) (xs : List A) (x : A) → ((k : ℕ) (y : A) → slice_get xs k ≡ Some y → P k y) → P (length xs) x → (k : ℕ) (y : A) → slice_get (xs ++ x ∷ []) k ≡ Some y → P k y
  each_more P [] x each last zero y e = subst (P zero) (some_same x y e) last
  each_more P [] x each last (suc k) y e = none_there y e
  each_more P (z ∷ xs) x each last zero y e = each zero y e
  each_more P (z ∷ xs) x each last (suc k) y e = each_more (λ n. P (suc n)) xs x (λ j w f. each (suc j) w f) last k y e

  pub within_there : (xs : List A) (k : ℕ) (x : A) → slice_get xs k ≡ Some x → k < length xs
  within_there [] k x e = none_there x e
  within_there (y ∷ xs) zero x e = omega arith
  within_there (y ∷ xs) (suc k) x e = let h = within_there xs k x e in omega (arith, h)

  pub got : (xs : List A) (k : ℕ) → k < length xs → (x : A) × (slice_get xs k ≡ Some x)
  got [] k h = absurd (omega arith)
  got (x ∷ xs) zero h = (x, refl)
  got (x ∷ xs) (suc k) h = got xs k (omega arith)

  pub get_there : (xs : List A) (k : ℕ) (x d : A) → slice_get xs k ≡ Some x → get_or xs k d ≡ x
  get_there [] k x d e = none_there x e
  get_there (y ∷ xs) zero x d e = some_same y x e
  get_there (y ∷ xs) (suc k) x d e = get_there xs k x d e

  pub there_get : (xs : List A) (k : ℕ) (x : A) → k < length xs → x ≡ get_or xs k x → slice_get xs k ≡ Some x
  there_get [] k x h e = absurd (omega arith)
  there_get (y ∷ xs) zero x h e = ap Some (sym e)
  there_get (y ∷ xs) (suc k) x h e = there_get xs k x (omega arith) e

  pub all_there : (P : A → Type 0) (xs : List A) → All P xs → (k : ℕ) (x : A) → slice_get xs k ≡ Some x → P x
  all_there P xs all k x e = subst P (get_there xs k x x e) (all k x (within_there xs k x e))

  pub all_from : (P : A → Type 0) (xs : List A) → ((k : ℕ) (x : A) → slice_get xs k ≡ Some x → P x) → All P xs
  all_from P xs each = λ k d h. let (x, e) = got xs k h in subst P (sym (get_there xs k x d e)) (each k x e)

  pub contains_there : (xs : List A) (k : ℕ) (x : A) → slice_get xs k ≡ Some x → Contains xs x
  contains_there xs k x e = (k, within_there xs k x e, get_there xs k x x e)

  pub there_append : (xs ys : List A) (k : ℕ) (x : A) → slice_get xs k ≡ Some x → slice_get (xs ++ ys) k ≡ Some x
  there_append [] ys k x e = none_there x e
  there_append (y ∷ xs) ys zero x e = e
  there_append (y ∷ xs) ys (suc k) x e = there_append xs ys k x e

  -- ---- a list that is gone through
  there_next : (ys : List A) (x : A) (rest : List A) → slice_get (ys ++ x ∷ rest) (length ys) ≡ Some x
  there_next [] x rest = refl
  there_next (y ∷ ys) x rest = there_next ys x rest

  pub there_last : (xs : List A) (x : A) → slice_get (xs ++ x ∷ []) (length xs) ≡ Some x
  there_last xs x = there_next xs x []

  -- the next one stands behind those that were there
  pub next_behind : (ys : List A) (x : A) (left rest all : List A) → left ≡ x ∷ rest → ys ++ left ≡ all → slice_get all (length ys) ≡ Some x
  next_behind ys x left rest all first whole =
      subst (λ (l : List A). slice_get l (length ys) ≡ Some x) (ap (λ (l : List A). ys ++ l) (sym first) ∙ whole) (there_next ys x rest)

  -- one more is there
  pub gone_on : (ys : List A) (x : A) (left rest all : List A) → left ≡ x ∷ rest → ys ++ left ≡ all → (ys ++ x ∷ []) ++ rest ≡ all
  gone_on ys x left rest all first whole = append_assoc ys (x ∷ []) rest ∙ (ap (λ (l : List A). ys ++ l) (sym first) ∙ whole)

  -- all are there
  pub gone_through : (ys left all : List A) → length left ≡ 0 → ys ++ left ≡ all → ys ≡ all
  gone_through ys [] all none whole = sym (append-nil ys) ∙ whole
  gone_through ys (x ∷ left) all none whole = absurd (omega (arith, none))

  -- it is the first of a list or one of the others
  pub first_or_later : (x : A) (xs : List A) (y : A) → Contains (x ∷ xs) y → (x ≡ y) ⊎ Contains xs y
  first_or_later x xs y (zero, h, e) = inl e
  first_or_later x xs y (suc k, h, e) = inr (k, omega (arith, h), e)

  pub none_contains : {B : Type 0} (y : A) → Contains [] y → B
  none_contains y (k, h, e) = absurd (omega (arith, h))

  -- ---- beginnings
  pub begins_itself : (xs : List A) → IsPrefixOf xs xs
  begins_itself xs = ([], append-nil xs)

  pub begins_twice : (xs ys zs : List A) → IsPrefixOf xs ys → IsPrefixOf ys zs → IsPrefixOf xs zs
  begins_twice xs ys zs (p, e) (q, f) = (p ++ q, sym (append_assoc xs p q) ∙ (ap (λ (l : List A). l ++ q) e ∙ f))

module _ {A B : Type 0} (f : A → B) where
  pub got_map : (xs : List A) (k : ℕ) (y : B) → slice_get (map f xs) k ≡ Some y → (x : A) × (slice_get xs k ≡ Some x) × (f x ≡ y)
  got_map [] k y e = none_there y e
  got_map (x ∷ xs) zero y e = (x, refl, some_same (f x) y e)
  got_map (x ∷ xs) (suc k) y e = got_map xs k y e

  pub map_there : (xs : List A) (k : ℕ) (x : A) → slice_get xs k ≡ Some x → slice_get (map f xs) k ≡ Some (f x)
  map_there [] k x e = none_there x e
  map_there (y ∷ xs) zero x e = ap (λ (z : A). Some (f z)) (some_same y x e)
  map_there (y ∷ xs) (suc k) x e = map_there xs k x e

pub map_twice : {A B C : Type 0} (f : A → B) (g : B → C) (xs : List A) → map g (map f xs) ≡ map (λ (x : A). g (f x)) xs
map_twice f g [] = refl
map_twice f g (x ∷ xs) = ap (λ zs. g (f x) ∷ zs) (map_twice f g xs)
