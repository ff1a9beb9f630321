-- Numbers found one after another.
use Rattle.std.proofs.Common.{◌≡◌, ℕ, ℤ, ◌+◌, ◌<◌, ◌≤◌, List, [], ◌∷◌, ◌++◌, length, map, drop, get_or, Result, Ok, Err, refl, sym, ap, ◌∙◌, append_assoc}
use Rattle.std.specs.Prelude.{filter_map, slice_get, Option, Some}
use Rattle.std.specs.List.{cons_option}
use Rattle.std.proofs.lemmas.List.{drop_more, drop_all, append-nil}
use Rattle.std.proofs.lemmas.List.Concat.{flat_map-cons}
use Rattle.std.proofs.lemmas.List.Elements.{filter_map-append}
use Rattle.std.proofs.lemmas.Option.{slice_get_within, get_or_from_slice_get}
use Rattle.ss_base.specs.declared.types.CalcErr.{CalcErr}
use Rattle.sheet_value.specs.declared.value.Value.{Value}
use Rattle.sheet_value.specs.declared.value.Value.TheVariants as value
use Rattle.sheet_value.specs.Environment.{Environment}
use Rattle.funcs.specs.declared.arg.Arg.{Arg}
use Rattle.funcs.specs.declared.arg.Arg.TheVariants as arg
use Rattle.funcs.specs.declared.value_ref.ValueRef.{ValueRef}
use Rattle.funcs.specs.declared.value_ref.ValueRef.TheVariants as lent
use Rattle.funcs.specs.Refs.{owned}
use Rattle.funcs.specs.Steps.{and_then, all_of}
use Rattle.funcs.specs.Areas.{Item, sheet, area, items, sheet_items, items_of, items_of_all, item_number, item_numbers, sheet_number, sheet_numbers}
use Rattle.funcs.specs.Tallies.{TallyOf, with_numbers}
use Rattle.funcs.proofs.Tallies.{tallied-both}

-- ---- a list found, and what comes behind it
abbrev pub appended : {A : Type 0} → List A → Result (List A) CalcErr → Result (List A) CalcErr
appended found r = and_then r (λ more. Ok (found ++ more))

pub appended-more : {A : Type 0} (xs : List A) (x : A) (r : Result (List A) CalcErr) → appended xs (and_then r (λ more. Ok (x ∷ more))) ≡ appended (xs ++ x ∷ []) r
appended-more xs x (Ok more) = λ i. Ok (sym (append_assoc xs (x ∷ []) more) i)
appended-more xs x (Err e) = refl

-- none left
pub appended_end : {A B : Type 0} (f : List B → List (Result A CalcErr)) (none : f [] ≡ []) (found : List A) (bs : List B) (i : ℕ) → length bs ≤ i → appended found (all_of (f (drop i bs))) ≡ Ok found
appended_end {A} {B} f none found bs i h =
    ap (λ (cs : List B). appended found (all_of (f cs))) (drop_all i bs h)
    ∙ (ap (λ (rs : List (Result A CalcErr)). appended found (all_of rs)) none
    ∙ (λ j. Ok (append-nil found j)))

-- ---- the tally of what is found
pub tallied_end : {B : Type 0} (f : List B → List (Result ℤ CalcErr)) (none : f [] ≡ []) (t : TallyOf) (bs : List B) (i : ℕ) → length bs ≤ i → with_numbers t (all_of (f (drop i bs))) ≡ Ok t
tallied_end {B} f none t bs i h =
    ap (λ (cs : List B). with_numbers t (all_of (f cs))) (drop_all i bs h)
    ∙ ap (λ (rs : List (Result ℤ CalcErr)). with_numbers t (all_of rs)) none

module _ {A : Type 0} (h : A → Option (Result ℤ CalcErr)) where
  -- the numbers of some items, and of others after them
  parts : (t : TallyOf) (xs ys : List A) → with_numbers t (all_of (filter_map h (xs ++ ys))) ≡ and_then (with_numbers t (all_of (filter_map h xs))) (λ u. with_numbers u (all_of (filter_map h ys)))
  parts t xs ys = ap (λ (rs : List (Result ℤ CalcErr)). with_numbers t (all_of rs)) (filter_map-append h xs ys) ∙ tallied-both t (filter_map h xs) (filter_map h ys)

  pub parts-ok : (t u : TallyOf) (xs ys : List A) → Ok u ≡ with_numbers t (all_of (filter_map h xs)) → with_numbers t (all_of (filter_map h (xs ++ ys))) ≡ with_numbers u (all_of (filter_map h ys))
  parts-ok t u xs ys e = parts t xs ys ∙ ap (λ (r : Result TallyOf CalcErr). and_then r (λ w. with_numbers w (all_of (filter_map h ys)))) (sym e)

  pub parts-err : (t : TallyOf) (d : CalcErr) (xs ys : List A) → Err d ≡ with_numbers t (all_of (filter_map h xs)) → with_numbers t (all_of (filter_map h (xs ++ ys))) ≡ Err d
  parts-err t d xs ys e = parts t xs ys ∙ ap (λ (r : Result TallyOf CalcErr). and_then r (λ w. with_numbers w (all_of (filter_map h ys)))) (sym e)

-- ---- the items of an area, one by one
module _ (t : TallyOf) (vs : List Value) (i : ℕ) (v : Value) (this : slice_get vs i ≡ Some v) where
  rest : drop i vs ≡ (v ∷ []) ++ drop (i + 1) vs
  rest = drop_more vs i v (slice_get_within vs i v this) ∙ ap (λ (w : Value). w ∷ drop (i + 1) vs) (get_or_from_slice_get vs i v v this)

  pub value-ok : (u : TallyOf) → Ok u ≡ with_numbers t (sheet_numbers (v ∷ [])) → with_numbers t (sheet_numbers (drop i vs)) ≡ with_numbers u (sheet_numbers (drop (i + 1) vs))
  value-ok u e = ap (λ (ws : List Value). with_numbers t (sheet_numbers ws)) rest ∙ parts-ok sheet_number t u (v ∷ []) (drop (i + 1) vs) e

  pub value-err : (d : CalcErr) → Err d ≡ with_numbers t (sheet_numbers (v ∷ [])) → with_numbers t (sheet_numbers (drop i vs)) ≡ Err d
  value-err d e = ap (λ (ws : List Value). with_numbers t (sheet_numbers ws)) rest ∙ parts-err sheet_number t d (v ∷ []) (drop (i + 1) vs) e

pub no_fault : (v : ValueRef) → ((e : CalcErr) → v ≡ lent.Err e → ⊥) → (e : CalcErr) → owned v ≡ value.Err e → ⊥
no_fault lent.Empty h e is = absurd (cc)
no_fault (lent.Num n) h e is = absurd (cc)
no_fault (lent.Text t) h e is = absurd (cc)
no_fault (lent.Err d) h e is = h d refl

-- ---- the items of some arguments, one argument after another
module _ (E : Environment) (t : TallyOf) (args : List Arg) (i : ℕ) (a : Arg) (inside : i < length args) (this : a ≡ get_or args i a) where
  others : items_of_all E (drop i args) ≡ items_of E a ++ items_of_all E (drop (i + 1) args)
  others =
      ap (λ (xs : List Arg). items_of_all E xs) (drop_more args i a inside ∙ ap (λ (b : Arg). b ∷ drop (i + 1) args) (sym this))
      ∙ flat_map-cons (λ (b : Arg). items_of E b) a (drop (i + 1) args)

  pub arg-ok : (u : TallyOf) → Ok u ≡ with_numbers t (item_numbers (items_of E a)) → with_numbers t (item_numbers (items_of_all E (drop i args))) ≡ with_numbers u (item_numbers (items_of_all E (drop (i + 1) args)))
  arg-ok u e = ap (λ (is : List Item). with_numbers t (item_numbers is)) others ∙ parts-ok item_number t u (items_of E a) (items_of_all E (drop (i + 1) args)) e

  pub arg-err : (d : CalcErr) → Err d ≡ with_numbers t (item_numbers (items_of E a)) → with_numbers t (item_numbers (items_of_all E (drop i args))) ≡ Err d
  arg-err d e = ap (λ (is : List Item). with_numbers t (item_numbers is)) others ∙ parts-err item_number t d (items_of E a) (items_of_all E (drop (i + 1) args)) e

-- the numbers of an area's items are those of its values
pub area-numbers : (vs : List Value) → item_numbers (map sheet vs) ≡ sheet_numbers vs
area-numbers vs = ap (λ (rs : List (Result ℤ CalcErr)). all_of rs) (along vs)
  where
    along : (ws : List Value) → filter_map item_number (map sheet ws) ≡ filter_map sheet_number ws
    along [] = refl
    along (w ∷ ws) = ap (λ (rs : List (Result ℤ CalcErr)). cons_option (sheet_number w) rs) (along ws)

pub items-area : (E : Environment) (a : Arg) (rows : List (List Value)) → Ok rows ≡ area E a → item_numbers (items_of E a) ≡ sheet_numbers (items rows)
items-area E (arg.One v) rows e = absurd (cc)
items-area E (arg.At s) rows e = ap (λ (r : Result (List (List Value)) CalcErr). item_numbers (sheet_items r)) (sym e) ∙ area-numbers (items rows)
items-area E (arg.Over s) rows e = ap (λ (r : Result (List (List Value)) CalcErr). item_numbers (sheet_items r)) (sym e) ∙ area-numbers (items rows)
