-- Lists by places.
use Rattle.std.proofs.Common.{◌≡◌, ℕ, zero, suc, ◌+◌, ◌<◌, List, [], ◌∷◌, ◌++◌, length, drop, map, get_or, refl, ap, sym, ◌∙◌, subst, arith, Some, None, max, ◌≢◌}
use Rattle.std.specs.Prelude.{slice_get, All}
use Rattle.std.specs.List.{range_with_len}
use Rattle.std.proofs.lemmas.List.FromFn.{length-map-range_with_len, get_or-map-range_with_len}
use Rattle.std.proofs.lemmas.Option.{same_Some, slice_get_within, slice_get-get_or, get_or_from_slice_get}

none_there : {A B : Type 0} (x : A) → None ≡ Some x → B
none_there x e = absurd (cc (e))

module _ {A : Type 0} where
  -- what holds at each place and at the next one holds at each place of the longer list
  pub each_more : (P : ℕ → A → Type 0) (xs : List A) (x : A) → ((k : ℕ) (y : A) → slice_get xs k ≡ Some y → P k y) → P (length xs) x → (k : ℕ) (y : A) → slice_get (xs ++ x ∷ []) k ≡ Some y → P k y
  each_more P [] x each last zero y e = subst (P zero) (same_Some x y e) last
  each_more P [] x each last (suc k) y e = none_there y e
  each_more P (z ∷ xs) x each last zero y e = each zero y e
  each_more P (z ∷ xs) x each last (suc k) y e = each_more (λ n. P (suc n)) xs x (λ j w f. each (suc j) w f) last k y e

  -- at each place of the empty list
  pub each_none : (P : ℕ → A → Type 0) (xs : List A) → xs ≡ [] → (k : ℕ) (y : A) → slice_get xs k ≡ Some y → P k y
  each_none P xs none k y e = none_there y (ap (λ (l : List A). slice_get l k) (sym none) ∙ e)

  -- what stands first among those that are left
  pub next_there : (xs : List A) (k : ℕ) (x : A) (rest : List A) → drop k xs ≡ x ∷ rest → slice_get xs k ≡ Some x
  next_there [] zero x rest e = absurd (cc (e))
  next_there [] (suc k) x rest e = absurd (cc (e))
  next_there (y ∷ xs) zero x rest e = cc (e)
  next_there (y ∷ xs) (suc k) x rest e = next_there xs k x rest e

  rest_after : (xs : List A) (k : ℕ) (x : A) (rest : List A) → drop k xs ≡ x ∷ rest → rest ≡ drop (suc k) xs
  rest_after [] zero x rest e = absurd (cc (e))
  rest_after [] (suc k) x rest e = absurd (cc (e))
  rest_after (y ∷ xs) zero x rest e = cc (e)
  rest_after (y ∷ xs) (suc k) x rest e = rest_after xs k x rest e

  -- and what is left behind it
  pub rest_there : (xs : List A) (k n : ℕ) (x : A) (rest : List A) → drop k xs ≡ x ∷ rest → n ≡ k + 1 → rest ≡ drop n xs
  rest_there xs k n x rest e more = rest_after xs k x rest e ∙ ap (λ (m : ℕ). drop m xs) (let one : suc k ≡ n = omega (arith, more) in one)

  pub all_there : (P : A → Type 0) (xs : List A) → All P xs → (k : ℕ) (x : A) → slice_get xs k ≡ Some x → P x
  all_there P xs all k x e = subst P (get_or_from_slice_get xs k x x e) (all k x (slice_get_within xs k x e))

  pub all_from : (P : A → Type 0) (xs : List A) → ((k : ℕ) (x : A) → slice_get xs k ≡ Some x → P x) → All P xs
  all_from P xs each = λ k d h. each k (get_or xs k d) (slice_get-get_or xs k d h)

  -- what is at a place of the values at the numbers from 1 on
  pub numbered_there : (f : ℕ → A) (n k : ℕ) (x : A) → slice_get (map f (range_with_len 1 n)) k ≡ Some x → x ≡ f (suc k)
  numbered_there f n k x e =
      let within : k < n = let h = slice_get_within (map f (range_with_len 1 n)) k x e in omega (arith, h, length-map-range_with_len f 1 n) in
      sym (get_or_from_slice_get (map f (range_with_len 1 n)) k x x e) ∙ get_or-map-range_with_len f 1 n k (suc k) x within (omega arith)

  pub numbered_length : (f : ℕ → A) (n : ℕ) (xs : List A) → xs ≡ map f (range_with_len 1 n) → length xs ≡ n
  numbered_length f n xs are = ap length are ∙ length-map-range_with_len f 1 n

  -- the first value of the numbers from 0 on, and those behind it
  pub numbered_first : (f : ℕ → A) (m n : ℕ) (xs : List A) (x : A) → m ≡ n + 1 → xs ≡ map f (range_with_len 0 m) → x ≡ get_or xs 0 x → x ≡ f 0
  numbered_first f m n xs x more are is =
      let one : m ≡ suc n = omega (arith, more) in
      let all : xs ≡ map f (range_with_len 0 (suc n)) = are ∙ ap (λ (k : ℕ). map f (range_with_len 0 k)) one in
      is ∙ ap (λ (l : List A). get_or l 0 x) all

  pub numbered_behind : (f : ℕ → A) (m n : ℕ) (xs ys : List A) → m ≡ n + 1 → xs ≡ map f (range_with_len 0 m) → ys ≡ drop 1 xs → ys ≡ map f (range_with_len 1 n)
  numbered_behind f m n xs ys more are is =
      let one : m ≡ suc n = omega (arith, more) in
      let all : xs ≡ map f (range_with_len 0 (suc n)) = are ∙ ap (λ (k : ℕ). map f (range_with_len 0 k)) one in
      is ∙ ap (λ (l : List A). drop 1 l) all

  -- one, or as many as there are, is as many as there are where there are some
  pub count_some : (xs : List A) → xs ≢ [] → max 1 (length xs) ≡ length xs
  count_some [] some = absurd (some refl)
  count_some (x ∷ xs) some = omega arith
