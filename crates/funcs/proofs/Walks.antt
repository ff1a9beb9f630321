-- What is left of an area as its items are gone through.
use Rattle.std.proofs.Common.{◌≡◌, ℕ, ℤ, ◌+◌, ◌<◌, ◌≤◌, ◌*ℤ◌, Bool, true, false, cond, List, [], ◌∷◌, ◌++◌, length, map, take, drop, get_or, Result, Ok, Err, refl, sym, ap, ◌∙◌}
use Rattle.std.specs.Prelude.{slice_get, find, filter, zip, ok_or, Option, Some, None}
use Rattle.std.specs.List.{position_from}
use Rattle.std.specs.Option.{option_and_then}
use Rattle.std.proofs.lemmas.List.{drop_more, drop_all, take_more}
use Rattle.std.proofs.lemmas.Option.{slice_get_within, get_or_from_slice_get, slice_get-get_or}
use Rattle.ss_base.specs.declared.types.CalcErr.{CalcErr}
use Rattle.ss_base.specs.declared.types.CalcErr.TheVariants as fault
use Rattle.sheet_value.specs.declared.value.Value.{Value}
use Rattle.sheet_value.specs.declared.value.Value.TheVariants as value
use Rattle.funcs.specs.declared.value_ref.ValueRef.{ValueRef}
use Rattle.funcs.specs.declared.value_ref.ValueRef.TheVariants as lent
use Rattle.funcs.specs.Refs.{owned}
use Rattle.funcs.specs.Steps.{and_then, all_of}
use Rattle.funcs.specs.Numbers.{in_range}
use Rattle.funcs.specs.Args.{no_error}
use Rattle.funcs.specs.Areas.{same, item_at, sheet_number, sheet_numbers}
use Rattle.funcs.specs.Tallies.{TallyOf, with_number, with_numbers}
use Rattle.funcs.specs.Tables.{begins_with, looked_up, chosen, number_or_zero, products}
use Rattle.funcs.proofs.Found.{appended, appended-more, parts-ok, parts-err}
use Rattle.funcs.proofs.Tallies.{tallied-both}

module _ {A : Type 0} (xs : List A) (i : ℕ) (x : A) (this : slice_get xs i ≡ Some x) where
  inside : i < length xs
  inside = slice_get_within xs i x this

  pub left : drop i xs ≡ x ∷ drop (i + 1) xs
  left = drop_more xs i x inside ∙ ap (λ (y : A). y ∷ drop (i + 1) xs) (get_or_from_slice_get xs i x x this)

  pub gone : take (i + 1) xs ≡ take i xs ++ x ∷ []
  gone = take_more xs i x inside ∙ ap (λ (y : A). take i xs ++ y ∷ []) (get_or_from_slice_get xs i x x this)

  -- the first that passes a test
  pub position-here : (p : A → Bool) (n : ℕ) → p x ≡ true → position_from p n (drop i xs) ≡ Some n
  position-here p n e = ap (λ (ys : List A). position_from p n ys) left ∙ ap (λ (t : Bool). cond t (Some n) (position_from p (n + 1) (drop (i + 1) xs))) e

  pub position-later : (p : A → Bool) (n : ℕ) → p x ≡ false → position_from p n (drop i xs) ≡ position_from p (n + 1) (drop (i + 1) xs)
  position-later p n e = ap (λ (ys : List A). position_from p n ys) left ∙ ap (λ (t : Bool). cond t (Some n) (position_from p (n + 1) (drop (i + 1) xs))) e

  pub find-here : (p : A → Bool) → p x ≡ true → find p (drop i xs) ≡ Some x
  find-here p e = ap (λ (ys : List A). find p ys) left ∙ ap (λ (t : Bool). cond t (Some x) (find p (drop (i + 1) xs))) e

  pub find-later : (p : A → Bool) → p x ≡ false → find p (drop i xs) ≡ find p (drop (i + 1) xs)
  find-later p e = ap (λ (ys : List A). find p ys) left ∙ ap (λ (t : Bool). cond t (Some x) (find p (drop (i + 1) xs))) e

-- ---- the row whose first item is known
pub row_there : (rows : List (List Value)) (i : ℕ) (v x : Value) → item_at rows i 0 ≡ Ok v → (r : List Value) × (slice_get rows i ≡ Some r) × (begins_with x r ≡ same v x)
row_there rows i v x e = by_row (slice_get rows i) refl e
  where
    by_item : (r : List Value) → ok_or (slice_get r 0) fault.Lost ≡ Ok v → begins_with x r ≡ same v x
    by_item [] e = absurd (cc)
    by_item (w ∷ ws) e = ap (λ (u : Value). same u x) (let z : w ≡ v = cc in z)

    by_row : (o : Option (List Value)) → slice_get rows i ≡ o → ok_or (option_and_then (λ (r : List Value). slice_get r 0) o) fault.Lost ≡ Ok v → (r : List Value) × (slice_get rows i ≡ Some r) × (begins_with x r ≡ same v x)
    by_row None is e = absurd (cc)
    by_row (Some r) is e = (r, is, by_item r e)

-- the item in a column of the row that was found
pub found_there : (rows : List (List Value)) (row col : ℕ) (x : Value) → row < length rows → find (begins_with x) rows ≡ slice_get rows row → item_at rows row col ≡ looked_up x col rows
found_there rows row col x inside found =
    ap (λ (o : Option (List Value)). ok_or (option_and_then (λ (r : List Value). slice_get r col) o) fault.Lost) there
    ∙ ap (λ (o : Option (List Value)). and_then (ok_or o fault.Na) (λ (r : List Value). ok_or (slice_get r col) fault.Lost)) (sym (found ∙ there))
  where
    there : slice_get rows row ≡ Some (get_or rows row [])
    there = slice_get-get_or rows row [] inside

-- ---- errors among the items
pub not_error : (v : ValueRef) → ((e : CalcErr) → v ≡ lent.Err e → ⊥) → no_error (owned v) ≡ Ok (owned v)
not_error lent.Empty h = refl
not_error (lent.Num n) h = refl
not_error (lent.Text t) h = refl
not_error (lent.Err e) h = absurd (h e refl)

pub no_error-next : (vs : List Value) (i : ℕ) (v : Value) → slice_get vs i ≡ Some v → no_error v ≡ Ok v →
    appended (take i vs) (all_of (map (λ w. no_error w) (drop i vs))) ≡ appended (take (i + 1) vs) (all_of (map (λ w. no_error w) (drop (i + 1) vs)))
no_error-next vs i v this e =
    ap (λ (ws : List Value). appended (take i vs) (all_of (map (λ w. no_error w) ws))) (left vs i v this)
    ∙ (ap (λ (r : Result Value CalcErr). appended (take i vs) (and_then r (λ w. and_then (all_of (map (λ u. no_error u) (drop (i + 1) vs))) (λ ws. Ok (w ∷ ws))))) e
    ∙ (appended-more (take i vs) v (all_of (map (λ w. no_error w) (drop (i + 1) vs)))
    ∙ ap (λ (ws : List Value). appended ws (all_of (map (λ w. no_error w) (drop (i + 1) vs)))) (sym (gone vs i v this))))

pub no_error-stop : (vs : List Value) (i : ℕ) (d : CalcErr) → slice_get vs i ≡ Some (value.Err d) → appended (take i vs) (all_of (map (λ w. no_error w) (drop i vs))) ≡ Err d
no_error-stop vs i d this = ap (λ (ws : List Value). appended (take i vs) (all_of (map (λ w. no_error w) ws))) (left vs i (value.Err d) this)

-- ---- two areas side by side
module _ (vs ws : List Value) (i : ℕ) (v w : Value) (one : slice_get vs i ≡ Some v) (other : slice_get ws i ≡ Some w) where
  products-next : products (drop i vs) (drop i ws) ≡ in_range (number_or_zero v *ℤ number_or_zero w) ∷ products (drop (i + 1) vs) (drop (i + 1) ws)
  products-next = λ j. products (left vs i v one j) (left ws i w other j)

  pub product-ok : (t u : TallyOf) → Ok u ≡ with_numbers t (all_of (products (v ∷ []) (w ∷ []))) →
      with_numbers t (all_of (products (drop i vs) (drop i ws))) ≡ with_numbers u (all_of (products (drop (i + 1) vs) (drop (i + 1) ws)))
  product-ok t u e =
      ap (λ (rs : List (Result ℤ CalcErr)). with_numbers t (all_of rs)) products-next
      ∙ (tallied-both t (products (v ∷ []) (w ∷ [])) (products (drop (i + 1) vs) (drop (i + 1) ws))
      ∙ ap (λ (r : Result TallyOf CalcErr). and_then r (λ x. with_numbers x (all_of (products (drop (i + 1) vs) (drop (i + 1) ws))))) (sym e))

  pub product-err : (t : TallyOf) (d : CalcErr) → Err d ≡ with_numbers t (all_of (products (v ∷ []) (w ∷ []))) → with_numbers t (all_of (products (drop i vs) (drop i ws))) ≡ Err d
  product-err t d e =
      ap (λ (rs : List (Result ℤ CalcErr)). with_numbers t (all_of rs)) products-next
      ∙ (tallied-both t (products (v ∷ []) (w ∷ [])) (products (drop (i + 1) vs) (drop (i + 1) ws))
      ∙ ap (λ (r : Result TallyOf CalcErr). and_then r (λ x. with_numbers x (all_of (products (drop (i + 1) vs) (drop (i + 1) ws))))) (sym e))

  chosen-next : (x : Value) → chosen x (drop i vs) (drop i ws) ≡ chosen x (v ∷ []) (w ∷ []) ++ chosen x (drop (i + 1) vs) (drop (i + 1) ws)
  chosen-next x = (λ j. chosen x (left vs i v one j) (left ws i w other j)) ∙ by_test (same v x) (zip (drop (i + 1) vs) (drop (i + 1) ws))
    where
      by_test : (t : Bool) (ps : List (Value × Value)) → map (λ (p : Value × Value). p.1) (cond t ((v, w) ∷ filter (λ p. same p.0 x) ps) (filter (λ p. same p.0 x) ps)) ≡ map (λ (p : Value × Value). p.1) (cond t ((v, w) ∷ []) []) ++ map (λ (p : Value × Value). p.1) (filter (λ p. same p.0 x) ps)
      by_test true ps = refl
      by_test false ps = refl

  pub chosen-ok : (x : Value) (t u : TallyOf) → Ok u ≡ with_numbers t (sheet_numbers (chosen x (v ∷ []) (w ∷ []))) →
      with_numbers t (sheet_numbers (chosen x (drop i vs) (drop i ws))) ≡ with_numbers u (sheet_numbers (chosen x (drop (i + 1) vs) (drop (i + 1) ws)))
  chosen-ok x t u e =
      ap (λ (us : List Value). with_numbers t (sheet_numbers us)) (chosen-next x)
      ∙ parts-ok sheet_number t u (chosen x (v ∷ []) (w ∷ [])) (chosen x (drop (i + 1) vs) (drop (i + 1) ws)) e

  pub chosen-err : (x : Value) (t : TallyOf) (d : CalcErr) → Err d ≡ with_numbers t (sheet_numbers (chosen x (v ∷ []) (w ∷ []))) → with_numbers t (sheet_numbers (chosen x (drop i vs) (drop i ws))) ≡ Err d
  chosen-err x t d e =
      ap (λ (us : List Value). with_numbers t (sheet_numbers us)) (chosen-next x)
      ∙ parts-err sheet_number t d (chosen x (v ∷ []) (w ∷ [])) (chosen x (drop (i + 1) vs) (drop (i + 1) ws)) e

-- at the end no item is left beside another
pub chosen-end : (x : Value) (t : TallyOf) (vs ws : List Value) (i : ℕ) → length vs ≤ i → length ws ≤ i → with_numbers t (sheet_numbers (chosen x (drop i vs) (drop i ws))) ≡ Ok t
chosen-end x t vs ws i h k = λ j. with_numbers t (sheet_numbers (chosen x (drop_all i vs h j) (drop_all i ws k j)))

pub product-end : (t : TallyOf) (vs ws : List Value) (i : ℕ) → length vs ≤ i → length ws ≤ i → with_numbers t (all_of (products (drop i vs) (drop i ws))) ≡ Ok t
product-end t vs ws i h k = λ j. with_numbers t (all_of (products (drop_all i vs h j) (drop_all i ws k j)))

-- one product
pub product-one : (t : TallyOf) (n : ℤ) (r : Result ℤ CalcErr) → Ok n ≡ r → Ok (with_number t n) ≡ with_numbers t (and_then r (λ x. Ok (x ∷ [])))
product-one t n (Ok m) e = let is : n ≡ m = cc in λ i. Ok (with_number t (is i))
product-one t n (Err d) e = absurd (cc)
