-- The keys of an edit.
use Rattle.std.proofs.Common.{◌≡◌, ℕ, ◌<◌, ◌≤◌, Bool, true, false, List, [], length, refl, ap, ◌∙◌, subst, arith, Some, None, Ok, Err}
use Rattle.std.specs.Prelude.{map, nat_lt, Result, IfOk}
use Rattle.std.specs.List.{range_with_len}
use Rattle.std.proofs.lemmas.Bool.Decides.{nat_tests}
use Rattle.std.proofs.lemmas.List.FromFn.{length-map-range_with_len}
use Rattle.marked_lines.specs.Marks.{visible_count, visible_places}
use Rattle.sheet_value.specs.declared.value.Value.{Value}
use Rattle.sheet_value.specs.declared.value.Value.TheVariants as value
use Rattle.sheet_value.specs.Tables.{value_at, filled}
use Rattle.sheet_ops.specs.declared.edit.Edit.{Edit}
use Rattle.sheet_ops.specs.declared.edit.Edit.TheVariants as edit
use Rattle.sheet_ops.specs.Fits.{IsWellFormed}
use Rattle.sheet_ops.specs.Identity.{IdSheet}
use Rattle.sheet_ops.specs.Lines.{marks}
use Rattle.sheet_ops.specs.Placed.{PlacedSheet, placed}
use Rattle.author_ops.specs.Copies.{line_count}
use Rattle.author_ops.specs.Edits.{IsProper, intended, sort_on, sort_by}
use Rattle.author_ops.proofs.Denoting.{count_seen}
use Rattle.full_calc.specs.Values.{value_table}
use Rattle.sort_keys.specs.Keys.{keys_of, AreKeys, IsOrderly}

-- an edit other than a sort has no keys
abbrev pub IsNoSort : Edit → Type 0
IsNoSort e = (first last col : ℕ) (down : Bool) → e ≡ edit.Sort first last col down → ⊥

pub proper_none : (P : PlacedSheet) (e : Edit) → IsOrderly e → IsNoSort e → IsProper P e []
proper_none P (edit.Set spot entry) h n = h
proper_none P (edit.Clear spot) h n = tt
proper_none P (edit.InsRow before) h n = tt
proper_none P (edit.InsCol before) h n = tt
proper_none P (edit.DelRow at) h n = tt
proper_none P (edit.DelCol at) h n = tt
proper_none P (edit.Copy from to) h n = h
proper_none P (edit.Sort first last col down) h n = absurd (n first last col down refl)

pub serve_none : (P : PlacedSheet) (e : Edit) → IsNoSort e → AreKeys P e []
serve_none P (edit.Set spot entry) n X formed is = refl
serve_none P (edit.Clear spot) n X formed is = refl
serve_none P (edit.InsRow before) n X formed is = refl
serve_none P (edit.InsCol before) n X formed is = refl
serve_none P (edit.DelRow at) n X formed is = refl
serve_none P (edit.DelCol at) n X formed is = refl
serve_none P (edit.Copy from to) n X formed is = refl
serve_none P (edit.Sort first last col down) n X formed is = absurd (n first last col down refl)

-- where a row or the column isn't in the visible sheet no keys are looked at
pub keys_outside : (rows cols : List Bool) (first last col : ℕ) (keys others : List Value) (down : Bool) → (last < visible_count rows → col < visible_count cols → ⊥) →
    sort_by rows cols first last col keys down ≡ sort_by rows cols first last col others down
keys_outside rows cols first last col keys others down out = by_col (nat_lt col (visible_count cols)) refl
  where
    by_row : (b : Bool) → nat_lt last (visible_count rows) ≡ b → col < visible_count cols → sort_on rows first last keys down ≡ sort_on rows first last others down
    by_row true e inside = absurd (out (let h : last < visible_count rows = grind (arith, nat_tests) in h) inside)
    by_row false e inside = simp e refl

    by_col : (b : Bool) → nat_lt col (visible_count cols) ≡ b → sort_by rows cols first last col keys down ≡ sort_by rows cols first last col others down
    by_col true e = simp e (by_row (nat_lt last (visible_count rows)) refl (let h : col < visible_count cols = grind (arith, nat_tests) in h))
    by_col false e = simp e refl

-- one for each row
pub keys_many : (f : ℕ → Value) (first last : ℕ) (keys : List Value) → keys ≡ map f (range_with_len first (line_count first last)) → length keys ≡ line_count first last
keys_many f first last keys is = ap (λ (vs : List Value). length vs) is ∙ length-map-range_with_len f first (line_count first last)

-- the values of the rows, whatever the sheet is called, are a sort's own keys
module _ (P : PlacedSheet) (first last col : ℕ) (keys : List Value)
    (are : (X : IdSheet) → IsWellFormed X → placed X ≡ P → keys ≡ map (λ (row : ℕ). value_at (value_table X) row col) (range_with_len first (line_count first last))) where
  pub keys_serve : (down : Bool) → AreKeys P (edit.Sort first last col down) keys
  unfolding keys_of
  keys_serve down X formed same = ap (λ (vs : List Value). intended X (edit.Sort first last col down) vs) (are X formed same)

-- past the last visible line
pub beyond : (ms : List Bool) (n k : ℕ) → n ≡ length (visible_places ms) → n ≤ k → k < visible_count ms → ⊥
beyond ms n k is past h = let count = count_seen ms in omega (arith, is, past, h, count)

-- without keys, where not all is in the visible sheet
pub none_serve : (P : PlacedSheet) (first last col : ℕ) → (last < visible_count P.rows → col < visible_count P.cols → ⊥) → (down : Bool) → AreKeys P (edit.Sort first last col down) []
none_serve P first last col out down X formed same =
    keys_outside (marks X.rows) (marks X.cols) first last col [] (keys_of X (edit.Sort first last col down)) down
    (λ h k. out (subst (λ (Q : PlacedSheet). last < visible_count Q.rows) same h) (subst (λ (Q : PlacedSheet). col < visible_count Q.cols) same k))

-- the value of a cell, or none for an empty one
pub filled_value : (v w : Value) → Some w ≡ filled v → w ≡ v
filled_value value.Empty w e = absurd (cc)
filled_value (value.Num z) w e = cc
filled_value (value.Text t) w e = cc
filled_value (value.Err f) w e = cc

pub no_value : (v : Value) → None ≡ filled v → value.Empty ≡ v
no_value value.Empty e = refl
no_value (value.Num z) e = absurd (cc)
no_value (value.Text t) e = absurd (cc)
no_value (value.Err f) e = absurd (cc)

pub if_ok : {T E : Type 0} {P Q : T → Type 0} (x : Result T E) → ((t : T) → P t → Q t) → IfOk x P → IfOk x Q
if_ok (Ok t) f a = f t a
if_ok (Err e) f a = tt
