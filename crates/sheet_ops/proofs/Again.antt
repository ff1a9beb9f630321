-- An operation resolved is located as it was, and its effect does what it does.
use Rattle.std.proofs.Common.{◌≡◌, ℕ, zero, suc, ◌<◌, ◌≤◌, true, cond, List, [], ◌∷◌, length, refl, ap, sym, ◌∙◌, arith, Option, Some, None, All}
use Rattle.std.specs.Prelude.{nat_lt, map, slice_get, slice_index_or}
use Rattle.std.proofs.lemmas.Bool.Decides.{nat_tests}
use Rattle.std.proofs.lemmas.List.Elements.{All-head, All-tail}
use Rattle.sheet_ops.specs.declared.content.Put.{Put}
use Rattle.sheet_ops.specs.declared.operation.Intent.{Intent}
use Rattle.sheet_ops.specs.declared.operation.Intent.TheVariants as intent
use Rattle.sheet_ops.specs.LineIds.{LineId, operation_ids, first_id}
use Rattle.sheet_ops.specs.Lines.{AxisLine, Axis, no_line, slot_place, before_at, slot_id, before_place, inserted, deleted}
use Rattle.sheet_ops.specs.Identity.{IdCell, IdRange, IdContent, blank, number, text, formula, IdPut, IdOp, one, write, ins_row, ins_col, del_row, del_col, sort, IdSheet}
use Rattle.sheet_ops.specs.Act.{puts_at, act}
use Rattle.sheet_ops.specs.Naming.{operations_of, operations_in, resolve_cell, resolve_range, resolve_content, resolve_put, locate_cell, locate_range, locate_content, locate_put, resolve, locate, step, effect_of_intent}
use Rattle.ss_base.specs.declared.types.Size.{Size}
use Rattle.sheet_ops.specs.Placed.{size_of}
use Rattle.sheet_ops.specs.Fits.{CellFits, RangeFits, ContentFits, PutsFit, IntentFits, EffectFits, AreApart, IsWellFormed}
use Rattle.sheet_ops.proofs.Places.{place_of, at_of_place, place_of_at, at_inside}
use Rattle.sheet_ops.proofs.Renamed.{rename_same, rename_rename, rename_itself, references_before}
use Rattle.sheet_ops.proofs.Written.{content_again}
use Rattle.sheet_ops.proofs.Sorts.{sort_moves-perm, sort_moves-below, sorted_is_moved}

past_end : {A : Type 0} (xs : List A) (p : ℕ) → slice_get xs p ≡ None → p ≤ length xs → length xs ≡ p
past_end [] p e h = omega arith
past_end (x ∷ xs) zero e h = absurd (cc)
past_end (x ∷ xs) (suc p) e h = ap suc (past_end xs p e (omega arith))

found : {A : Type 0} (xs : List A) (p : ℕ) (x : A) → slice_get xs p ≡ Some x → (p < length xs) × (slice_index_or xs p x ≡ x)
found [] p x e = absurd (cc)
found (y ∷ xs) zero x e = (omega arith, cc)
found (y ∷ xs) (suc p) x e = let (small, here) = found xs p x e in (omega arith, here)

-- the place before the slot that stands at a place, or the end
before_again : (A : Axis) → AreApart (λ l. l.slot) A.lines → (p : ℕ) → p ≤ length A.lines → before_place A (before_at A p) ≡ p
before_again A apart p h = by_found (slice_get A.lines p) refl
  where
    by_found : (o : Option AxisLine) → slice_get A.lines p ≡ o → before_place A (slot_id o) ≡ p
    by_found None e = past_end A.lines p e h
    by_found (Some l) e =
        let (small, here) = found A.lines p l e in
        let there : slot_place A l.slot ≡ p =
        ap (λ (m : AxisLine). slot_place A m.slot) (sym here ∙ at_inside A.lines p l no_line small) ∙ place_of_at (λ l. l.slot) A.lines apart p small in
        let test : nat_lt p (length A.lines) ≡ true = grind (arith, nat_tests) in
        ap (λ q. cond (nat_lt q (length A.lines)) q (suc q)) there ∙ ap (λ t. cond t p (suc p)) test

module _ (X : IdSheet) (ok : IsWellFormed X) where
  puts_again : (ps : List Put) → PutsFit (size_of X) ps → map (locate_put X) (map (resolve_put X) ps) ≡ ps
  puts_again [] f = refl
  puts_again (p ∷ ps) f = λ i. record {
    row = place_of_at (λ l. l.rec) X.rows.lines ok.rows.recs p.row f.0 i;
    col = place_of_at (λ l. l.rec) X.cols.lines ok.cols.recs p.col f.1 i;
    content = content_again X ok p.content f.2 i;
  } ∷ puts_again ps f.4 i

  numbers_again : (of : AxisLine → LineId) → AreApart of X.rows.lines → (ns : List ℕ) → All (λ p. p < length X.rows.lines) ns →
      map (λ (a : LineId). place_of of X.rows.lines a) (map (λ p. of (slice_index_or X.rows.lines p no_line)) ns) ≡ ns
  numbers_again of apart [] f = refl
  numbers_again of apart (n ∷ ns) f =
      λ i. place_of_at of X.rows.lines apart n (All-head (λ p. p < length X.rows.lines) n ns f) i ∷ numbers_again of apart ns (All-tail (λ p. p < length X.rows.lines) n ns f) i

  pub meant_again : (site first : ℕ) (op : Intent) → IntentFits (size_of X) op → locate X (resolve X site first op) ≡ op
  meant_again site first (intent.Write ps) f = ap intent.Write (puts_again ps f.2)
  meant_again site first (intent.InsRow p) f = ap intent.InsRow (before_again X.rows ok.rows.slots p f)
  meant_again site first (intent.InsCol p) f = ap intent.InsCol (before_again X.cols ok.cols.slots p f)
  meant_again site first (intent.DelRow p) f = ap intent.DelRow (place_of_at (λ l. l.rec) X.rows.lines ok.rows.recs p f)
  meant_again site first (intent.DelCol p) f = ap intent.DelCol (place_of_at (λ l. l.rec) X.cols.lines ok.cols.recs p f)
  meant_again site first (intent.Sort ss rs) f = λ i. intent.Sort (numbers_again (λ l. l.slot) ok.rows.slots ss f.slots_below i) (numbers_again (λ l. l.rec) ok.rows.recs rs f.recs_below i)

  -- ---- an identity located is resolved as it was
  cell_back : (c : IdCell) → CellFits (size_of X) (locate_cell X c) → resolve_cell X (locate_cell X c) ≡ c
  cell_back c f = λ i. record c { row = at_of_place (λ l. l.rec) X.rows.lines c.row f.0 i; col = at_of_place (λ l. l.rec) X.cols.lines c.col f.1 i }

  range_back : (r : IdRange) → RangeFits (size_of X) (locate_range X r) → resolve_range X (locate_range X r) ≡ r
  range_back r f = λ i. record r {
    top = at_of_place (λ l. l.slot) X.rows.lines r.top f.0.0 i;
    left = at_of_place (λ l. l.slot) X.cols.lines r.left f.0.1 i;
    bottom = at_of_place (λ l. l.slot) X.rows.lines r.bottom f.1.0 i;
    right = at_of_place (λ l. l.slot) X.cols.lines r.right f.1.1 i;
  }

  content_back : (x : IdContent) → ContentFits (size_of X) (locate_content X x) → resolve_content X (locate_content X x) ≡ x
  content_back blank f = refl
  content_back (number z) f = refl
  content_back (text t) f = refl
  content_back (formula t) f =
      ap formula (rename_rename (locate_cell X) (locate_range X) (resolve_cell X) (resolve_range X) t
      ∙ (rename_same (λ c. resolve_cell X (locate_cell X c)) (λ c. c) (λ r. resolve_range X (locate_range X r)) (λ r. r) t
      (references_before (locate_cell X) (locate_range X) (CellFits (size_of X)) (RangeFits (size_of X)) _ _ cell_back range_back t f) ∙ rename_itself t))

  puts_back : (ps : List IdPut) → PutsFit (size_of X) (map (locate_put X) ps) → map (resolve_put X) (map (locate_put X) ps) ≡ ps
  puts_back [] f = refl
  puts_back (p ∷ ps) f = λ i. record {
    row = at_of_place (λ l. l.rec) X.rows.lines p.row f.0 i;
    col = at_of_place (λ l. l.rec) X.cols.lines p.col f.1 i;
    content = content_back p.content f.2 i;
  } ∷ puts_back ps f.4 i

  -- the lines that an operation brings bear these identifiers
  abbrev pub Bears : IdOp → List LineId → Type 0
  Bears (one (write ps)) ids = Unit {0}
  Bears (one (ins_row b n)) ids = n ≡ first_id ids
  Bears (one (ins_col b n)) ids = n ≡ first_id ids
  Bears (one (del_row r)) ids = Unit {0}
  Bears (one (del_col r)) ids = Unit {0}
  Bears (one (sort S R)) ids = Unit {0}

  -- the effect of an operation that fits does what the operation does
  pub step_is_act : (N : IdOp) (ids : List LineId) → Bears N ids → IntentFits (size_of X) (locate X N) → step X (effect_of_intent (locate X N)) ids ≡ act X N
  step_is_act (one (write ps)) ids b f = ap (λ (qs : List IdPut). record X { cells = puts_at X.cells qs }) (puts_back ps f.2)
  step_is_act (one (ins_row before n)) ids b f = ap (λ (i : LineId). record X { rows = inserted X.rows (before_place X.rows before) i }) (sym b)
  step_is_act (one (ins_col before n)) ids b f = ap (λ (i : LineId). record X { cols = inserted X.cols (before_place X.cols before) i }) (sym b)
  step_is_act (one (del_row r)) ids b f = ap (λ (i : LineId). record X { rows = deleted X.rows i }) (at_of_place (λ l. l.rec) X.rows.lines r f)
  step_is_act (one (del_col r)) ids b f = ap (λ (i : LineId). record X { cols = deleted X.cols i }) (at_of_place (λ l. l.rec) X.cols.lines r f)
  step_is_act (one (sort S R)) ids b f = ap (λ (A : Axis). record X { rows = A }) (sym (sorted_is_moved S R X.rows ok.rows f))

  pub meant_bears : (V : IdSheet) (site first : ℕ) (op : Intent) → Bears (resolve V site first op) (operation_ids site first (operations_of op))
  meant_bears V site first (intent.Write ps) = tt
  meant_bears V site first (intent.InsRow p) = refl
  meant_bears V site first (intent.InsCol p) = refl
  meant_bears V site first (intent.DelRow p) = tt
  meant_bears V site first (intent.DelCol p) = tt
  meant_bears V site first (intent.Sort ss rs) = tt

-- ---- how many operations are counted
pub length-operation_ids : (site first count : ℕ) → length (operation_ids site first count) ≡ count
length-operation_ids site first zero = refl
length-operation_ids site first (suc count) = ap suc (length-operation_ids site (suc first) count)

pub as_many_effects : (c : Intent) → operations_in (effect_of_intent c) ≡ operations_of c
as_many_effects (intent.Write ps) = refl
as_many_effects (intent.InsRow p) = refl
as_many_effects (intent.InsCol p) = refl
as_many_effects (intent.DelRow p) = refl
as_many_effects (intent.DelCol p) = refl
as_many_effects (intent.Sort ss rs) = refl

-- an operation located anywhere counts for as many as what it was resolved from
pub as_many_located : (Y V : IdSheet) (site first : ℕ) (op : Intent) → operations_of (locate Y (resolve V site first op)) ≡ operations_of op
as_many_located Y V site first (intent.Write ps) = refl
as_many_located Y V site first (intent.InsRow p) = refl
as_many_located Y V site first (intent.InsCol p) = refl
as_many_located Y V site first (intent.DelRow p) = refl
as_many_located Y V site first (intent.DelCol p) = refl
as_many_located Y V site first (intent.Sort ss rs) = refl

pub own_effect_fits : (size : Size) (c : Intent) → IntentFits size c → EffectFits size (effect_of_intent c)
own_effect_fits size (intent.Write ps) f = (f.1, f.2)
own_effect_fits size (intent.InsRow p) f = f
own_effect_fits size (intent.InsCol p) f = f
own_effect_fits size (intent.DelRow p) f = f
own_effect_fits size (intent.DelCol p) f = f
own_effect_fits size (intent.Sort ss rs) f = (sort_moves-perm size.rows ss rs f, sort_moves-below size.rows ss rs f)
