-- Changes of a list, one after another.
use Rattle.std.proofs.Common.{◌≡◌, ℕ, zero, suc, ◌+◌, ◌<◌, ◌≤◌, List, [], ◌∷◌, ◌++◌, length, take, drop, refl, ap, sym, ◌∙◌, arith, Option, None, Some}
use Rattle.std.specs.Prelude.{unwrap_or, slice_set, slice_index_or, MatchOption}
use Rattle.std.specs.Option.{option_flatten, option_or}
use Rattle.std.proofs.lemmas.List.{get_or-drop}
use Rattle.pair_transform.specs.Changes.{replaced, MakeSame}

pub replaced_none : {A : Type 0} (xs : List A) → replaced [] xs ≡ xs
replaced_none xs = refl

pub length-replaced : {A : Type 0} (cs : List (Option A)) (xs : List A) → length (replaced cs xs) ≡ length xs
length-replaced [] xs = refl
length-replaced (c ∷ cs) [] = refl
length-replaced (c ∷ cs) (x ∷ xs) = ap suc (length-replaced cs xs)

-- a change more, behind as many as there were elements
pub replaced_push : {A : Type 0} (cs : List (Option A)) (xs : List A) (c : Option A) (x : A) → length cs ≡ length xs → replaced (cs ++ c ∷ []) (xs ++ x ∷ []) ≡ replaced cs xs ++ unwrap_or c x ∷ []
replaced_push [] [] c x h = refl
replaced_push [] (y ∷ xs) c x h = absurd (omega arith)
replaced_push (d ∷ cs) [] c x h = absurd (omega arith)
replaced_push {A} (d ∷ cs) (y ∷ xs) c x h = ap (λ (zs : List A). unwrap_or d y ∷ zs) (replaced_push cs xs c x (omega arith))

-- what stands behind the changes stays
pub replaced_behind : {A : Type 0} (cs : List (Option A)) (xs ys : List A) → length cs ≤ length xs → replaced cs (xs ++ ys) ≡ replaced cs xs ++ ys
replaced_behind [] xs ys h = refl
replaced_behind (c ∷ cs) [] ys h = absurd (omega arith)
replaced_behind {A} (c ∷ cs) (x ∷ xs) ys h = ap (λ (zs : List A). unwrap_or c x ∷ zs) (replaced_behind cs xs ys (omega arith))

-- to note that an element stays changes nothing
pub replaced_stays : {A : Type 0} (cs : List (Option A)) (xs : List A) → length cs < length xs → replaced (cs ++ None ∷ []) xs ≡ replaced cs xs
replaced_stays [] [] h = refl
replaced_stays [] (x ∷ xs) h = refl
replaced_stays (c ∷ cs) [] h = refl
replaced_stays {A} (c ∷ cs) (x ∷ xs) h = ap (λ (zs : List A). unwrap_or c x ∷ zs) (replaced_stays cs xs (omega arith))

pub one_stays : {A : Type 0} (cs : List (Option A)) (count : ℕ) (before : List (Option A)) → length cs < count → MakeSame count cs before → (more : List (Option A)) → more ≡ cs ++ None ∷ [] → MakeSame count more before
one_stays {A} cs count before few same more is xs many = ap (λ (ds : List (Option A)). replaced ds xs) is ∙ (replaced_stays cs xs (omega (arith, few, many)) ∙ same xs many)

-- an element noted behind those of which something is noted
pub none_noted : {A : Type 0} (cs : List (Option A)) (count : ℕ) → length cs ≤ count → (c : Option A) → c ≡ None → (xs : List A) (x : A) → length xs ≡ count → replaced cs (xs ++ x ∷ []) ≡ replaced cs xs ++ unwrap_or c x ∷ []
none_noted {A} cs count few c is xs x many = replaced_behind cs xs (x ∷ []) (omega (arith, few, many)) ∙ ap (λ (d : Option A). replaced cs xs ++ unwrap_or d x ∷ []) (sym is)

pub some_noted : {A : Type 0} (cs ds : List (Option A)) (count : ℕ) → MakeSame count ds cs → length ds ≡ count → (value : A) (c : Option A) → c ≡ Some value → (more : List (Option A)) → more ≡ ds ++ Some value ∷ [] →
    (xs : List A) (x : A) → length xs ≡ count → replaced more (xs ++ x ∷ []) ≡ replaced cs xs ++ unwrap_or c x ∷ []
some_noted {A} cs ds count same many value c is more pushed xs x h =
    ap (λ (fs : List (Option A)). replaced fs (xs ++ x ∷ [])) pushed
    ∙ (replaced_push ds xs (Some value) x (many ∙ sym h) ∙ (ap (λ (ys : List A). ys ++ value ∷ []) (same xs h) ∙ ap (λ (d : Option A). replaced cs xs ++ unwrap_or d x ∷ []) (sym is)))

-- the change at a place made after those before it
pub replaced_still : {A : Type 0} (cs : List (Option A)) (xs : List A) (i : ℕ) → i < length cs → length cs ≤ length xs → slice_index_or cs i None ≡ None → replaced (take (suc i) cs) xs ≡ replaced (take i cs) xs
replaced_still [] xs i h k is = absurd (omega arith)
replaced_still (c ∷ cs) [] i h k is = absurd (omega arith)
replaced_still {A} (c ∷ cs) (x ∷ xs) zero h k is = ap (λ (d : Option A). unwrap_or d x ∷ xs) is
replaced_still {A} (c ∷ cs) (x ∷ xs) (suc i) h k is = ap (λ (zs : List A). unwrap_or c x ∷ zs) (replaced_still cs xs i (omega arith) (omega arith) is)

pub replaced_more : {A : Type 0} (cs : List (Option A)) (xs : List A) (i : ℕ) (v : A) → i < length cs → length cs ≤ length xs → slice_index_or cs i None ≡ Some v → replaced (take (suc i) cs) xs ≡ slice_set (replaced (take i cs) xs) i v
replaced_more [] xs i v h k is = absurd (omega arith)
replaced_more (c ∷ cs) [] i v h k is = absurd (omega arith)
replaced_more {A} (c ∷ cs) (x ∷ xs) zero v h k is = ap (λ (d : Option A). unwrap_or d x ∷ xs) is
replaced_more {A} (c ∷ cs) (x ∷ xs) (suc i) v h k is = ap (λ (zs : List A). unwrap_or c x ∷ zs) (replaced_more cs xs i v (omega arith) (omega arith) is)

-- the same by what is taken out at the front of the changes
pub replaced_step : {A : Type 0} (cs : List (Option A)) (xs : List A) (i : ℕ) → i < length cs → length cs ≤ length xs → (left : List (Option A)) → left ≡ drop i cs → (out : Option (Option A)) → out ≡ Some (slice_index_or left 0 None) →
    (change : Option A) → change ≡ option_flatten out → (old new : List A) → old ≡ replaced (take i cs) xs → MatchOption change (new ≡ old) (λ v. new ≡ slice_set old i v) → new ≡ replaced (take (i + 1) cs) xs
replaced_step {A} cs xs i h k left rest out taken change flat old new done made = by_change change here made
  where
    next : suc i ≡ i + 1
    next = omega arith

    here : slice_index_or cs i None ≡ change
    here =
        ap (λ (n : ℕ). slice_index_or cs n None) (zero_more i) ∙ (sym (get_or-drop i cs 0 None) ∙ (ap (λ (ys : List (Option A)). slice_index_or ys 0 None) (sym rest)
        ∙ sym (flat ∙ ap option_flatten taken)))
      where
        zero_more : (n : ℕ) → n ≡ n + 0
        zero_more n = omega arith

    by_change : (d : Option A) → slice_index_or cs i None ≡ d → MatchOption d (new ≡ old) (λ v. new ≡ slice_set old i v) → new ≡ replaced (take (i + 1) cs) xs
    by_change None is same = same ∙ (done ∙ (sym (replaced_still cs xs i h k is) ∙ ap (λ (n : ℕ). replaced (take n cs) xs) next))
    by_change (Some v) is set_there = set_there ∙ (ap (λ (ys : List A). slice_set ys i v) done ∙ (sym (replaced_more cs xs i v h k is) ∙ ap (λ (n : ℕ). replaced (take n cs) xs) next))

pub drop_again : {A : Type 0} (n : ℕ) (xs : List A) → drop 1 (drop n xs) ≡ drop (n + 1) xs
drop_again {A} n xs = one_by_one n xs ∙ ap (λ (k : ℕ). drop k xs) next
  where
    next : suc n ≡ n + 1
    next = omega arith

    one_by_one : (n : ℕ) (xs : List A) → drop 1 (drop n xs) ≡ drop (suc n) xs
    one_by_one zero xs = refl
    one_by_one (suc n) [] = refl
    one_by_one (suc n) (x ∷ xs) = one_by_one n xs

-- the later change, where there is one, and else the earlier
pub or_else : {A : Type 0} (a b : Option A) (d : A) (c : Option A) → c ≡ option_or a b → unwrap_or a (unwrap_or b d) ≡ unwrap_or c d
or_else {A} a b d c is = by_case a ∙ ap (λ (x : Option A). unwrap_or x d) (sym is)
  where
    by_case : (a : Option A) → unwrap_or a (unwrap_or b d) ≡ unwrap_or (option_or a b) d
    by_case None = refl
    by_case (Some x) = refl
