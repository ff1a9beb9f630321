-- Places by names: in the entries of a map, and among the seats.
use Rattle.std.proofs.Common.{◌≡◌, ◌≤◌, ◌+◌, ℕ, Bool, true, false, cond, List, [], ◌∷◌, ◌++◌, Option, Some, None, refl, ap, sym, subst, ◌∙◌, is_some, if◌then◌else◌, length, arith, inl, inr}
use Rattle.std.specs.Prelude.{◌⊎◌, not, nat_lt, nat_eq, position, slice_set, slice_index_or}
use Rattle.std.specs.List.{position_or_len}
use Rattle.std.specs.Option.{option_or}
use Rattle.std.proofs.lemmas.Bool.Decides.{nat_tests}
use Rattle.std.proofs.lemmas.List.{map-append, length-set, length-append}
use Rattle.std.proofs.lemmas.List.Sums.{prefix_len-le-length}
use Rattle.std.proofs.lemmas.List.Folds.{position_or_len-set, position_or_len_push}
use Rattle.std.specs.Global.{Vec}
use Rattle.std.specs.Map.{lookup}
use Rattle.std.specs.Str.{bytes_eq}
use Rattle.std.specs.Cmp.Lexicographic.{bytes_decides}
use Rattle.indexmap.specs.IndexMap.{IndexMap, get, insert_entry}
use Rattle.indexmap.proofs.CallerLemmas.{insert_entry-new}
use Rattle.script_run.specs.declared.seat.Seat.{Seat}
use Rattle.script_run.specs.World.{new_seat, place_in}
use Rattle.script_run.specs.Places.{pairs_of, with_place, AreFound}

true_or_false : (b : Bool) → (b ≡ true) ⊎ (b ≡ false)
true_or_false true = inl refl
true_or_false false = inr refl

-- ---- the entries of a map
pub lookup_pairs : (test : List ℕ → Bool) (entries : List (Vec ℕ × ℕ)) → lookup test (pairs_of entries) ≡ lookup (λ k. test k.items) entries
lookup_pairs test [] = refl
lookup_pairs test (e ∷ es) = ap (cond (test e.0.items) (Some e.1)) (lookup_pairs test es)

none_there : (o : Option ℕ) → is_some o ≡ false → o ≡ None
none_there None e = refl
none_there (Some n) e = absurd (cc)

-- a name that has no place gets one
pub pairs_of-insert : {S : Type 0} (m : IndexMap (Vec ℕ) ℕ S) (key : Vec ℕ) (place : ℕ) (places : List (List ℕ × ℕ)) (name : List ℕ) →
    pairs_of m.entries ≡ places → key.items ≡ name → is_some (lookup (bytes_eq name) places) ≡ false →
    pairs_of (insert_entry (λ x y. bytes_eq x.items y.items) m.entries key place) ≡ with_place places name place
pairs_of-insert m key place places name is named new =
    let absent : get (λ x y. bytes_eq x.items y.items) m key ≡ None =
    sym (lookup_pairs (bytes_eq key.items) m.entries) ∙ ((λ i. lookup (bytes_eq (named i)) (is i)) ∙ none_there (lookup (bytes_eq name) places) new) in
    ap pairs_of (insert_entry-new (λ x y. bytes_eq x.items y.items) m key place absent)
    ∙ (map-append (λ e. (e.0.items, e.1)) m.entries ((key, place) ∷ [])
    ∙ ((λ i. is i ++ (named i, place) ∷ [])
    ∙ sym (ap (λ b. if b then places else places ++ (name, place) ∷ []) new)))

-- ---- one name more at the end
lookup-push : (test : List ℕ → Bool) (places : List (List ℕ × ℕ)) (name : List ℕ) (place : ℕ) →
    lookup test (places ++ (name, place) ∷ []) ≡ option_or (lookup test places) (cond (test name) (Some place) None)
lookup-push test [] name place = refl
lookup-push test (e ∷ es) name place = at_first (test e.0) (lookup-push test es name place)
  where
    at_first : (b : Bool) → lookup test (es ++ (name, place) ∷ []) ≡ option_or (lookup test es) (cond (test name) (Some place) None) →
        cond b (Some e.1) (lookup test (es ++ (name, place) ∷ [])) ≡ option_or (cond b (Some e.1) (lookup test es)) (cond (test name) (Some place) None)
    at_first true rest = refl
    at_first false rest = rest

position-push : {A : Type 0} (test : A → Bool) (xs : List A) (x : A) → position test (xs ++ x ∷ []) ≡ option_or (position test xs) (cond (test x) (Some (length xs)) None)
position-push test xs x =
    (λ i. cond (nat_lt (position_or_len_push test xs x i) (length-append xs (x ∷ []) i)) (Some (position_or_len_push test xs x i)) None)
    ∙ at_end (position_or_len test xs) (length xs) (test x) (prefix_len-le-length (λ y. not (test y)) xs)
  where
    at_end : (n m : ℕ) (b : Bool) → n ≤ m → cond (nat_lt (cond (nat_eq n m) (m + cond b 0 1) n) (m + 1)) (Some (cond (nat_eq n m) (m + cond b 0 1) n)) None ≡ option_or (cond (nat_lt n m) (Some n) None) (cond b (Some m) None)
    at_end n m true h = grind (arith, nat_tests)
    at_end n m false h = grind (arith, nat_tests)

-- the name of a new seat stands at its place, unless an earlier seat has it
pub found_more : (seats : List Seat) (places : List (List ℕ × ℕ)) → AreFound seats places → (name : List ℕ) → AreFound (seats ++ new_seat name ∷ []) (with_place places name (length seats))
found_more seats places found name other = by_name (is_some (lookup (bytes_eq name) places)) refl (true_or_false (bytes_eq other name))
    ∙ sym (position-push (λ s. bytes_eq other s.name) seats (new_seat name))
  where
    at_last : Option ℕ
    at_last = cond (bytes_eq other name) (Some (length seats)) None

    kept : (o : Option ℕ) → is_some o ≡ true → (r : Option ℕ) → o ≡ option_or o r
    kept None e r = absurd (cc)
    kept (Some n) e r = refl

    without : (o : Option ℕ) → o ≡ option_or o None
    without None = refl
    without (Some n) = refl

    by_name : (b : Bool) → is_some (lookup (bytes_eq name) places) ≡ b → (bytes_eq other name ≡ true) ⊎ (bytes_eq other name ≡ false) →
        lookup (bytes_eq other) (if b then places else places ++ (name, length seats) ∷ []) ≡ option_or (place_in seats other) at_last
    by_name false e t = lookup-push (bytes_eq other) places name (length seats) ∙ ap (λ o. option_or o at_last) (found other)
    by_name true e (inl same) =
        let known = subst (λ (n : List ℕ). is_some (lookup (bytes_eq n) places) ≡ true) (sym ((bytes_decides other name).0 same)) e in
        kept (lookup (bytes_eq other) places) known at_last ∙ ap (λ o. option_or o at_last) (found other)
    by_name true e (inr apart) = without (lookup (bytes_eq other) places) ∙ ((λ i. option_or (found other i) (cond (sym apart i) (Some (length seats)) None)))

-- ---- a seat that keeps its name
pub found_again : (seats : List Seat) (places : List (List ℕ × ℕ)) → AreFound seats places → (p : ℕ) (s s' : Seat) → s ≡ slice_index_or seats p s → s'.name ≡ s.name → AreFound (slice_set seats p s') places
found_again seats places found p s s' at same name =
    let first = position_or_len-set (λ (t : Seat). bytes_eq name t.name) seats p s' s (ap (bytes_eq name) same ∙ ap (λ (t : Seat). bytes_eq name t.name) at) in
    let long = length-set seats p s' in
    found name ∙ sym (λ i. cond (nat_lt (first i) (long i)) (Some (first i)) None)
