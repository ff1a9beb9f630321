-- The sizes that effects leave, and what fits, by kinds.
use Rattle.std.proofs.Common.{◌≡◌, ℕ, ◌+◌, ◌<◌, ◌≤◌, length, map, refl, ap, sym, ◌∙◌, subst, arith, Bool, true, false, Option, None, Some}
use Rattle.std.specs.Prelude.{insert, slice_set, IsNone}
use Rattle.std.proofs.lemmas.List.{length-map, length-set}
use Rattle.std.proofs.lemmas.List.Edits.{length-insert}
use Rattle.ss_base.specs.declared.types.Size.{Size}
use Rattle.marked_lines.proofs.Permuting.{length-permuted_from}
use Rattle.sheet_ops.specs.declared.operation.Intent.{Intent}
use Rattle.sheet_ops.specs.declared.operation.Intent.TheVariants as intent
use Rattle.sheet_ops.specs.declared.operation.Effect.{Effect}
use Rattle.sheet_ops.specs.declared.operation.Effect.TheVariants as effect
use Rattle.sheet_ops.specs.Naming.{effect_of_intent}
use Rattle.sheet_ops.specs.Maps.{LineMap, row_map, col_map, intent_moved}
use Rattle.sheet_ops.specs.Transforms.{own_past, other_past}
use Rattle.sheet_ops.specs.Identity.{IdSheet}
use Rattle.sheet_ops.specs.Placed.{PlacedSheet, placed, placed_size, size_of}
use Rattle.sheet_ops.specs.Effects.{effect_on}
use Rattle.sheet_ops.specs.Fits.{IntentFits, EffectFits, HasRoom}
use Rattle.sheet_ops.specs.Misfits.{MovesArePerm, misfit, intent_tests, effect_tests}
use Rattle.sheet_ops.proofs.FirstMisfit.{intent_misfit, effect_misfit}
use Rattle.sheet_ops.specs.Chains.{size_past}

-- identities are hidden, not lines
pub size_placed : (X : IdSheet) → placed_size (placed X) ≡ size_of X
size_placed X = λ i. record { rows = length-map X.rows.lines (λ l. X.rows.dead l.rec) i; cols = length-map X.cols.lines (λ l. X.cols.dead l.rec) i }

-- a transform keeps the kind
own_kind : (s : Size) (r c : LineMap) (op : Intent) → size_past s (effect_of_intent (intent_moved r c op)) ≡ size_past s (effect_of_intent op)
own_kind s r c (intent.Write ps) = refl
own_kind s r c (intent.InsRow p) = refl
own_kind s r c (intent.InsCol p) = refl
own_kind s r c (intent.DelRow p) = refl
own_kind s r c (intent.DelCol p) = refl
own_kind s r c (intent.Sort ss rs) = refl

other_kind : (s size : Size) (c : Intent) (e : Effect) → size_past s (other_past size c e) ≡ size_past s e
other_kind s size c (effect.Write es) = refl
other_kind s size c (effect.InsRow q) = refl
other_kind s size c (effect.InsCol q) = refl
other_kind s size c (effect.DelRow q) = refl
other_kind s size c (effect.DelCol q) = refl
other_kind s size c (effect.Move moves) = refl

-- an effect adds rows and columns
abbrev more_rows : Effect → ℕ
more_rows (effect.InsRow q) = 1
more_rows (effect.Write es) = 0
more_rows (effect.InsCol q) = 0
more_rows (effect.DelRow q) = 0
more_rows (effect.DelCol q) = 0
more_rows (effect.Move moves) = 0

abbrev more_cols : Effect → ℕ
more_cols (effect.InsCol q) = 1
more_cols (effect.Write es) = 0
more_cols (effect.InsRow q) = 0
more_cols (effect.DelRow q) = 0
more_cols (effect.DelCol q) = 0
more_cols (effect.Move moves) = 0

sum_of : (s : Size) (e : Effect) → ((size_past s e).rows ≡ s.rows + more_rows e) × ((size_past s e).cols ≡ s.cols + more_cols e)
sum_of s (effect.Write es) = (omega arith, omega arith)
sum_of s (effect.InsRow q) = (refl, omega arith)
sum_of s (effect.InsCol q) = (omega arith, refl)
sum_of s (effect.DelRow q) = (omega arith, omega arith)
sum_of s (effect.DelCol q) = (omega arith, omega arith)
sum_of s (effect.Move moves) = (omega arith, omega arith)

pub size_past-comm : (s : Size) (a b : Effect) → size_past (size_past s a) b ≡ size_past (size_past s b) a
size_past-comm s a b =
    let sa = sum_of s a in
    let sb = sum_of s b in
    let ab = sum_of (size_past s a) b in
    let ba = sum_of (size_past s b) a in
    let rows : (size_past (size_past s a) b).rows ≡ (size_past (size_past s b) a).rows = omega (arith, sa.0, sb.0, ab.0, ba.0) in
    let cols : (size_past (size_past s a) b).cols ≡ (size_past (size_past s b) a).cols = omega (arith, sa.1, sb.1, ab.1, ba.1) in
    λ i. record { rows = rows i; cols = cols i }

-- an effect brings one row or column at most
pub grows : (s : Size) (e : Effect) → ((size_past s e).rows ≤ s.rows + 1) × ((size_past s e).cols ≤ s.cols + 1) × (s.rows ≤ (size_past s e).rows) × (s.cols ≤ (size_past s e).cols)
grows s (effect.Write es) = (omega arith, omega arith, omega arith, omega arith)
grows s (effect.InsRow q) = (omega arith, omega arith, omega arith, omega arith)
grows s (effect.InsCol q) = (omega arith, omega arith, omega arith, omega arith)
grows s (effect.DelRow q) = (omega arith, omega arith, omega arith, omega arith)
grows s (effect.DelCol q) = (omega arith, omega arith, omega arith, omega arith)
grows s (effect.Move moves) = (omega arith, omega arith, omega arith, omega arith)

-- both ways round leave one size
pub sizes_meet : (s : Size) (c : Intent) (e : Effect) (c' : Intent) (e' : Effect) → c' ≡ own_past c e → e' ≡ other_past s c e →
    size_past (size_past s e) (effect_of_intent c') ≡ size_past (size_past s (effect_of_intent c)) e'
sizes_meet s c e c' e' own other =
    ap (λ (d : Intent). size_past (size_past s e) (effect_of_intent d)) own
    ∙ (own_kind (size_past s e) (row_map e) (col_map e) c
    ∙ (size_past-comm s e (effect_of_intent c)
    ∙ (sym (other_kind (size_past s (effect_of_intent c)) s c e) ∙ ap (size_past (size_past s (effect_of_intent c))) (sym other))))

-- the size that an effect leaves, by positions
pub size_on : (P : PlacedSheet) (e : Effect) → EffectFits (placed_size P) e → placed_size (effect_on P e) ≡ size_past (placed_size P) e
size_on P (effect.Write ps) f = refl
size_on P (effect.InsRow p) f = λ i. record { rows = length-insert P.rows p false f i; cols = length P.cols }
size_on P (effect.InsCol p) f = λ i. record { rows = length P.rows; cols = length-insert P.cols p false f i }
size_on P (effect.DelRow p) f = λ i. record { rows = length-set P.rows p true i; cols = length P.cols }
size_on P (effect.DelCol p) f = λ i. record { rows = length P.rows; cols = length-set P.cols p true i }
size_on P (effect.Move moves) f = λ i. record { rows = length-permuted_from moves P.rows 0 P.rows i; cols = length P.cols }

-- there is room for every effect on a sheet with fewer lines than the most
pub room_for : (s : Size) (e : Effect) → s.rows < 16000 → s.cols < 16000 → HasRoom s e
room_for s (effect.Write es) rows cols = tt
room_for s (effect.InsRow q) rows cols = rows
room_for s (effect.InsCol q) rows cols = cols
room_for s (effect.DelRow q) rows cols = tt
room_for s (effect.DelCol q) rows cols = tt
room_for s (effect.Move moves) rows cols = tt

-- what fits has no misfit
abbrev IsYes : Bool → Type 0
IsYes true = Unit {0}
IsYes false = ⊥

is_none : {A : Type 0} (m : Option A) → IsNone m → m ≡ None
is_none None h = refl
is_none (Some x) h = absurd (subst IsYes h tt)

pub intent_none : (s : Size) (c : Intent) → IntentFits s c → misfit (intent_tests s c) ≡ None
intent_none s c f = is_none (misfit (intent_tests s c)) ((intent_misfit s c).1 f)

pub effect_none : (s : Size) (e : Effect) → EffectFits s e → misfit (effect_tests s e) ≡ None
effect_none s e f = is_none (misfit (effect_tests s e)) ((effect_misfit s e (perm_of e f)).1 f)
  where
    perm_of : (e : Effect) → EffectFits s e → MovesArePerm e
    perm_of (effect.Write es) f = tt
    perm_of (effect.InsRow q) f = tt
    perm_of (effect.InsCol q) f = tt
    perm_of (effect.DelRow q) f = tt
    perm_of (effect.DelCol q) f = tt
    perm_of (effect.Move moves) f = f.0
