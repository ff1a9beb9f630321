-- One more line of a run of visible lines, and one more element of a loop.
use Rattle.std.proofs.Common.{◌≡◌, ℕ, zero, suc, ◌+◌, ◌-◌, ◌<◌, ◌≤◌, Bool, true, false, cond, List, [], ◌∷◌, ◌++◌, length, take, drop, get_or, refl, ap, sym, ◌∙◌, arith, Some, None}
use Rattle.std.specs.Prelude.{Option, map, nat_le, slice_get}
use Rattle.std.specs.Option.{option_and_then}
use Rattle.std.proofs.lemmas.Bool.Decides.{nat_tests}
use Rattle.std.specs.List.{zip, flat_map}
use Rattle.std.proofs.lemmas.List.{take_more}
use Rattle.marked_lines.specs.Marks.{visible_count, visible_places}
use Rattle.marked_lines.proofs.Positions.{length-places_from}
use Rattle.author_ops.specs.Copies.{line_pairs, line_shifted}
use Rattle.author_ops.proofs.Shifted.{length_run}

take_one : {A : Type 0} (k : ℕ) (xs : List A) (x : A) → slice_get xs k ≡ Some x → take (suc k) xs ≡ take k xs ++ x ∷ []
take_one k [] x e = absurd (cc)
take_one zero (y ∷ ys) x e = let same : y ≡ x = cc in ap (λ (z : _). z ∷ []) same
take_one (suc k) (y ∷ ys) x e = ap (λ (zs : List _). y ∷ zs) (take_one k ys x e)

pub run_more : {A : Type 0} (from k : ℕ) (xs : List A) (x : A) → slice_get xs (from + k) ≡ Some x → take (k + 1) (drop from xs) ≡ take k (drop from xs) ++ x ∷ []
run_more zero k xs x e = ap (λ (n : ℕ). take n xs) (let n : k + 1 ≡ suc k = omega arith in n) ∙ take_one k xs x (ap (slice_get xs) (let n : k ≡ 0 + k = omega arith in n) ∙ e)
run_more (suc from) k [] x e = absurd (cc)
run_more (suc from) k (y ∷ ys) x e = run_more from k ys x (ap (slice_get (y ∷ ys)) (let n : suc (from + k) ≡ suc from + k = omega arith in n) ∙ e)

zip_more : (xs ys : List ℕ) (x y : ℕ) → length xs ≡ length ys → zip (xs ++ x ∷ []) (ys ++ y ∷ []) ≡ zip xs ys ++ (x, y) ∷ []
zip_more [] [] x y h = refl
zip_more [] (b ∷ ys) x y h = absurd (omega arith)
zip_more (a ∷ xs) [] x y h = absurd (omega arith)
zip_more (a ∷ xs) (b ∷ ys) x y h = ap (λ (zs : List (ℕ × ℕ)). (a, b) ∷ zs) (zip_more xs ys x y (omega arith))

pub pairs_more : (ms : List Bool) (from to k p q : ℕ) → from + k ≤ visible_count ms → to + k ≤ visible_count ms → slice_get (visible_places ms) (from + k) ≡ Some p → slice_get (visible_places ms) (to + k) ≡ Some q →
    line_pairs ms from to (k + 1) ≡ line_pairs ms from to k ++ (p, q) ∷ []
pairs_more ms from to k p q h j e f =
    (λ i. zip (run_more from k (visible_places ms) p e i) (run_more to k (visible_places ms) q f i))
    ∙ zip_more (take k (drop from (visible_places ms))) (take k (drop to (visible_places ms))) p q (length_run ms from k h ∙ sym (length_run ms to k j))

-- a visible line is there
pub there : (ms : List Bool) (v : ℕ) → v < visible_count ms → slice_get (visible_places ms) v ≡ None → ⊥
there ms v lt e = past (visible_places ms) v (let all : length (visible_places ms) ≡ visible_count ms = length-places_from 0 ms in omega (arith, all, lt)) e
  where
    past : (xs : List ℕ) (k : ℕ) → k < length xs → slice_get xs k ≡ None → ⊥
    past [] k h e = omega arith
    past (x ∷ xs) zero h e = absurd (cc)
    past (x ∷ xs) (suc k) h e = past xs k (omega arith) e

-- a line that is shifted before the first one, behind the last one, or to one that is there
pub shifted_before : (ms : List Bool) (from to v : ℕ) → v + to < from → None ≡ line_shifted ms from to false v
shifted_before ms from to v lt = sym (ap (λ (t : Bool). option_and_then (λ w. slice_get (visible_places ms) w) (cond t (Some (v + to - from)) None)) (above (v + to) from lt))
  where
    above : (m n : ℕ) → m < n → nat_le n m ≡ false
    above m n h = grind (arith, nat_tests)

none_past : (xs : List ℕ) (k : ℕ) → length xs ≤ k → slice_get xs k ≡ None
none_past [] k h = refl
none_past (x ∷ xs) zero h = absurd (omega arith)
none_past (x ∷ xs) (suc k) h = none_past xs k (omega arith)

pub shifted_there : (ms : List Bool) (from to v : ℕ) (o : Option ℕ) → from ≤ v + to → o ≡ slice_get (visible_places ms) (v + to - from) → o ≡ line_shifted ms from to false v
shifted_there ms from to v o le e = e ∙ sym (ap (λ (t : Bool). option_and_then (λ w. slice_get (visible_places ms) w) (cond t (Some (v + to - from)) None)) (below from (v + to) le))
  where
    below : (m n : ℕ) → m ≤ n → nat_le m n ≡ true
    below m n h = grind (arith, nat_tests)

pub shifted_past : (ms : List Bool) (from to v : ℕ) → from ≤ v + to → visible_count ms ≤ v + to - from → None ≡ line_shifted ms from to false v
shifted_past ms from to v le past =
    shifted_there ms from to v None le (sym (none_past (visible_places ms) (v + to - from) (let all : length (visible_places ms) ≡ visible_count ms = length-places_from 0 ms in omega (arith, all, past))))

append_none : {A : Type 0} (xs : List A) → xs ++ [] ≡ xs
append_none [] = refl
append_none (x ∷ xs) = ap (λ (ys : List _). x ∷ ys) (append_none xs)

map_push : {A B : Type 0} (f : A → B) (xs : List A) (x : A) → map f (xs ++ x ∷ []) ≡ map f xs ++ f x ∷ []
map_push f [] x = refl
map_push f (y ∷ ys) x = ap (λ (zs : List _). f y ∷ zs) (map_push f ys x)

flat_push : {A B : Type 0} (f : A → List B) (xs : List A) (x : A) → flat_map f (xs ++ x ∷ []) ≡ flat_map f xs ++ f x
flat_push f [] x = append_none (f x)
flat_push f (y ∷ ys) x = ap (λ (zs : List _). f y ++ zs) (flat_push f ys x) ∙ regroup (f y) (flat_map f ys) (f x)
  where
    regroup : {B : Type 0} (xs ys zs : List B) → xs ++ (ys ++ zs) ≡ (xs ++ ys) ++ zs
    regroup [] ys zs = refl
    regroup (x ∷ xs) ys zs = ap (λ (us : List _). x ∷ us) (regroup xs ys zs)

same_at : {A : Type 0} (xs : List A) (k : ℕ) (d e : A) → k < length xs → get_or xs k d ≡ get_or xs k e
same_at [] k d e within = absurd (omega arith)
same_at (x ∷ xs) zero d e within = refl
same_at (x ∷ xs) (suc k) d e within = same_at xs k d e (omega arith)

pub map_more : {A B : Type 0} (f : A → B) (xs : List A) (k : ℕ) (x : A) → k < length xs → x ≡ get_or xs k x → map f (take (k + 1) xs) ≡ map f (take k xs) ++ f x ∷ []
map_more f xs k x within is = ap (map f) (take_more xs k x within ∙ ap (λ (y : _). take k xs ++ y ∷ []) (sym is)) ∙ map_push f (take k xs) x

pub flat_map_more : {A B : Type 0} (f : A → List B) (xs : List A) (k : ℕ) (x : A) → k < length xs → x ≡ get_or xs k x → flat_map f (take (k + 1) xs) ≡ flat_map f (take k xs) ++ f x
flat_map_more f xs k x within is = ap (flat_map f) (take_more xs k x within ∙ ap (λ (y : _). take k xs ++ y ∷ []) (sym is)) ∙ flat_push f (take k xs) x

-- one more element of a loop that puts what is made of it behind the others
pub push_one : {A B : Type 0} (f : A → B) (xs : List A) (k : ℕ) (d : A) (before old new : List B) (y : B) → k < length xs → old ≡ before ++ map f (take k xs) → new ≡ old ++ y ∷ [] → y ≡ f (get_or xs k d) → new ≡ before ++ map f (take (k + 1) xs)
push_one f xs k d before old new y within inv ok is =
    ok ∙ ((λ i. inv i ++ is i ∷ []) ∙ (regroup before (map f (take k xs)) (f (get_or xs k d) ∷ [])
    ∙ ap (λ (zs : List _). before ++ zs) (sym (map_more f xs k (get_or xs k d) within (same_at xs k d (get_or xs k d) within)))))
  where
    regroup : {B : Type 0} (xs ys zs : List B) → (xs ++ ys) ++ zs ≡ xs ++ (ys ++ zs)
    regroup [] ys zs = refl
    regroup (x ∷ xs) ys zs = ap (λ (us : List _). x ∷ us) (regroup xs ys zs)

pub push_all : {A B : Type 0} (f : A → List B) (xs : List A) (k : ℕ) (d : A) (old new : List B) → k < length xs → old ≡ flat_map f (take k xs) → new ≡ old ++ f (get_or xs k d) → new ≡ flat_map f (take (k + 1) xs)
push_all f xs k d old new within inv ok =
    ok ∙ (ap (λ (ys : List _). ys ++ f (get_or xs k d)) inv ∙ sym (flat_map_more f xs k (get_or xs k d) within (same_at xs k d (get_or xs k d) within)))
