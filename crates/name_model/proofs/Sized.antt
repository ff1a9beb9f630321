-- How large a sheet is after operations.
use Rattle.std.proofs.Common.{◌≡◌, ℕ, ◌+◌, ◌<◌, ◌≤◌, false, true, List, [], ◌∷◌, length, refl, ap, sym, ◌∙◌, arith, length-set}
use Rattle.std.proofs.lemmas.List.Edits.{length-insert}
use Rattle.ss_base.specs.declared.types.Size.{Size}
use Rattle.marked_lines.proofs.Permuting.{length-permuted_from}
use Rattle.sheet_ops.specs.declared.operation.Effect.{Effect}
use Rattle.sheet_ops.specs.declared.operation.Effect.TheVariants as effect
use Rattle.sheet_ops.specs.declared.operation.Intent.{Intent}
use Rattle.sheet_ops.specs.declared.operation.Intent.TheVariants as intent
use Rattle.sheet_ops.specs.Chains.{size_past}
use Rattle.sheet_ops.specs.Effects.{effect_on}
use Rattle.sheet_ops.specs.Fits.{EffectFits, HasRoom}
use Rattle.sheet_ops.specs.Maps.{LineMap, row_map, col_map, intent_moved}
use Rattle.sheet_ops.specs.Naming.{effect_of_intent}
use Rattle.sheet_ops.specs.Placed.{PlacedSheet, placed_size}
use Rattle.sheet_ops.specs.Transforms.{own_past, other_past}
use Rattle.name_model.specs.InTurn.{size_past_each}

pub size_on : (P : PlacedSheet) (e : Effect) → EffectFits (placed_size P) e → placed_size (effect_on P e) ≡ size_past (placed_size P) e
size_on P (effect.Write es) f = refl
size_on P (effect.InsRow p) f = λ i. record { rows = length-insert P.rows p false f i; cols = length P.cols }
size_on P (effect.InsCol p) f = λ i. record { rows = length P.rows; cols = length-insert P.cols p false f i }
size_on P (effect.DelRow p) f = λ i. record { rows = length-set P.rows p true i; cols = length P.cols }
size_on P (effect.DelCol p) f = λ i. record { rows = length P.rows; cols = length-set P.cols p true i }
size_on P (effect.Move moves) f = λ i. record { rows = length-permuted_from moves P.rows 0 P.rows i; cols = length P.cols }

pub has_room : (s : Size) (e : Effect) → s.rows < 16000 → s.cols < 16000 → HasRoom s e
has_room s (effect.Write es) r c = tt
has_room s (effect.InsRow p) r c = r
has_room s (effect.InsCol p) r c = c
has_room s (effect.DelRow p) r c = tt
has_room s (effect.DelCol p) r c = tt
has_room s (effect.Move moves) r c = tt

-- ---- what an effect adds
abbrev more_rows : Effect → ℕ
more_rows (effect.InsRow q) = 1
more_rows (effect.Write es) = 0
more_rows (effect.InsCol q) = 0
more_rows (effect.DelRow q) = 0
more_rows (effect.DelCol q) = 0
more_rows (effect.Move moves) = 0

abbrev more_cols : Effect → ℕ
more_cols (effect.InsCol q) = 1
more_cols (effect.Write es) = 0
more_cols (effect.InsRow q) = 0
more_cols (effect.DelRow q) = 0
more_cols (effect.DelCol q) = 0
more_cols (effect.Move moves) = 0

sum_of : (s : Size) (e : Effect) → ((size_past s e).rows ≡ s.rows + more_rows e) × ((size_past s e).cols ≡ s.cols + more_cols e)
sum_of s (effect.Write es) = (omega arith, omega arith)
sum_of s (effect.InsRow q) = (refl, omega arith)
sum_of s (effect.InsCol q) = (omega arith, refl)
sum_of s (effect.DelRow q) = (omega arith, omega arith)
sum_of s (effect.DelCol q) = (omega arith, omega arith)
sum_of s (effect.Move moves) = (omega arith, omega arith)

one_more : (e : Effect) → (more_rows e ≤ 1) × (more_cols e ≤ 1)
one_more (effect.Write es) = (omega arith, omega arith)
one_more (effect.InsRow q) = (omega arith, omega arith)
one_more (effect.InsCol q) = (omega arith, omega arith)
one_more (effect.DelRow q) = (omega arith, omega arith)
one_more (effect.DelCol q) = (omega arith, omega arith)
one_more (effect.Move moves) = (omega arith, omega arith)

-- at most one line comes on each axis
pub grows : (s : Size) (e : Effect) → ((size_past s e).rows ≤ s.rows + 1) × ((size_past s e).cols ≤ s.cols + 1)
grows s e = let m = sum_of s e in let o = one_more e in (omega (arith, m.0, o.0), omega (arith, m.1, o.1))

-- ---- both ways round leave one size
own_kind : (s : Size) (r c : LineMap) (op : Intent) → size_past s (effect_of_intent (intent_moved r c op)) ≡ size_past s (effect_of_intent op)
own_kind s r c (intent.Write ps) = refl
own_kind s r c (intent.InsRow p) = refl
own_kind s r c (intent.InsCol p) = refl
own_kind s r c (intent.DelRow p) = refl
own_kind s r c (intent.DelCol p) = refl
own_kind s r c (intent.Sort ss rs) = refl

other_kind : (s size : Size) (c : Intent) (e : Effect) → size_past s (other_past size c e) ≡ size_past s e
other_kind s size c (effect.Write es) = refl
other_kind s size c (effect.InsRow q) = refl
other_kind s size c (effect.InsCol q) = refl
other_kind s size c (effect.DelRow q) = refl
other_kind s size c (effect.DelCol q) = refl
other_kind s size c (effect.Move moves) = refl

either_first : (s : Size) (a b : Effect) → size_past (size_past s a) b ≡ size_past (size_past s b) a
either_first s a b =
    let sa = sum_of s a in
    let sb = sum_of s b in
    let ab = sum_of (size_past s a) b in
    let ba = sum_of (size_past s b) a in
    let rows : (size_past (size_past s a) b).rows ≡ (size_past (size_past s b) a).rows = omega (arith, sa.0, sb.0, ab.0, ba.0) in
    let cols : (size_past (size_past s a) b).cols ≡ (size_past (size_past s b) a).cols = omega (arith, sa.1, sb.1, ab.1, ba.1) in
    λ i. record { rows = rows i; cols = cols i }

pub sizes_meet : (s : Size) (c : Intent) (e : Effect) → size_past (size_past s e) (effect_of_intent (own_past c e)) ≡ size_past (size_past s (effect_of_intent c)) (other_past s c e)
sizes_meet s c e =
    own_kind (size_past s e) (row_map e) (col_map e) c
    ∙ (either_first s e (effect_of_intent c) ∙ sym (other_kind (size_past s (effect_of_intent c)) s c e))
