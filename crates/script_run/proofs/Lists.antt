-- Elements of lists by their places.
use Rattle.std.proofs.Common.{◌≡◌, ◌≢◌, ℕ, zero, suc, ◌<◌, ◌≤◌, List, [], ◌∷◌, ◌++◌, length, take, drop, refl, ap, sym, arith, Some, None}
use Rattle.std.specs.Prelude.{◌⊎◌, slice_get, slice_set, slice_index_or}

pub same_or_not : (m n : ℕ) → (m ≡ n) ⊎ (m ≢ n)
same_or_not m n = grind arith

module _ {A : Type 0} where
  pub some_same : (a b : A) → Some a ≡ Some b → a ≡ b
  some_same a b e = cc

  pub get_set-same : (xs : List A) (p : ℕ) (x : A) → p < length xs → slice_get (slice_set xs p x) p ≡ Some x
  get_set-same [] p x h = absurd (omega arith)
  get_set-same (y ∷ xs) zero x h = refl
  get_set-same (y ∷ xs) (suc p) x h = get_set-same xs p x (omega arith)

  pub get_set-other : (xs : List A) (p q : ℕ) (x : A) → q ≢ p → slice_get (slice_set xs p x) q ≡ slice_get xs q
  get_set-other [] p q x d = refl
  get_set-other (y ∷ xs) zero zero x d = absurd (d refl)
  get_set-other (y ∷ xs) zero (suc q) x d = refl
  get_set-other (y ∷ xs) (suc p) zero x d = refl
  get_set-other (y ∷ xs) (suc p) (suc q) x d = get_set-other xs p q x (λ e. d (ap suc e))

  -- one element more at the end
  pub get_more-before : (xs : List A) (x : A) (k : ℕ) → k < length xs → slice_get (xs ++ x ∷ []) k ≡ slice_get xs k
  get_more-before [] x k h = absurd (omega arith)
  get_more-before (y ∷ xs) x zero h = refl
  get_more-before (y ∷ xs) x (suc k) h = get_more-before xs x k (omega arith)

  pub get_more-last : (xs : List A) (x : A) → slice_get (xs ++ x ∷ []) (length xs) ≡ Some x
  get_more-last [] x = refl
  get_more-last (y ∷ xs) x = get_more-last xs x

  pub index_more-last : (xs : List A) (x d : A) → slice_index_or (xs ++ x ∷ []) (length xs) d ≡ x
  index_more-last [] x d = refl
  index_more-last (y ∷ xs) x d = index_more-last xs x d

  -- what stands at a place is the first behind it
  pub drop-at : (xs : List A) (i : ℕ) (x : A) → slice_get xs i ≡ Some x → drop i xs ≡ x ∷ drop (suc i) xs
  drop-at [] i x e = absurd (cc)
  drop-at (y ∷ xs) zero x e = let same : y ≡ x = cc in ap (λ z. z ∷ xs) same
  drop-at (y ∷ xs) (suc i) x e = drop-at xs i x e

  pub take-at : (xs : List A) (i : ℕ) (x : A) → slice_get xs i ≡ Some x → take (suc i) xs ≡ take i xs ++ x ∷ []
  take-at [] i x e = absurd (cc)
  take-at (y ∷ xs) zero x e = let same : y ≡ x = cc in ap (λ z. z ∷ []) same
  take-at (y ∷ xs) (suc i) x e = ap (λ (zs : List A). y ∷ zs) (take-at xs i x e)

  -- within the list there is an element
  pub there : (xs : List A) (i : ℕ) → i < length xs → (x : A) × (slice_get xs i ≡ Some x)
  there [] i h = absurd (omega arith)
  there (y ∷ xs) zero h = (y, refl)
  there (y ∷ xs) (suc i) h = there xs i (omega arith)

  -- what is there put there again
  pub set_there : (xs : List A) (i : ℕ) (x : A) → slice_get xs i ≡ Some x → slice_set xs i x ≡ xs
  set_there [] i x e = absurd (cc)
  set_there (y ∷ xs) zero x e = let same : y ≡ x = cc in ap (λ z. z ∷ xs) (sym same)
  set_there (y ∷ xs) (suc i) x e = ap (λ (zs : List A). y ∷ zs) (set_there xs i x e)

  -- nothing is there only past the end
  pub past_end : (xs : List A) (i : ℕ) → None ≡ slice_get xs i → length xs ≤ i
  past_end [] i e = omega arith
  past_end (x ∷ xs) zero e = absurd (cc)
  past_end (x ∷ xs) (suc i) e = let h = past_end xs i e in omega arith
