-- An evaluation that takes the effects of the entries that come next.
use Rattle.std.proofs.Common.{◌≡◌, ℕ, suc, ◌+◌, ◌-◌, ◌<◌, ◌≤◌, List, length, map, ap, sym, ◌∙◌, subst, arith}
use Rattle.std.specs.Prelude.{slice_index_or}
use Rattle.std.specs.List.{range_with_len}
use Rattle.std.proofs.lemmas.List.FromFn.{length-map-range_with_len, get_or-map-range_with_len}
use Rattle.ss_base.specs.declared.types.Size.{Size}
use Rattle.sheet_ops.specs.declared.operation.Entry.{Entry}
use Rattle.sheet_ops.specs.declared.operation.Effect.{Effect}
use Rattle.sheet_ops.specs.Effects.{StepsTo}
use Rattle.sheet_ops.specs.Fits.{EffectFits, HasRoom, IsWellFormed}
use Rattle.sheet_ops.specs.History.{sheet_of}
use Rattle.sheet_ops.specs.Placed.{placed, placed_size}
use Rattle.sheet_ops.specs.Published.{effect_at}
use Rattle.sheet_ops.specs.Represents.{sheet_at}
use Rattle.sheet_grid.specs.Values.{placed_in}
use Rattle.hub.proofs.Ranges.{drop-map-range}
use Rattle.recalc_loop.specs.declared.evaluation.Evaluation.{Evaluation}
use Rattle.recalc_loop.specs.Evaluations.{AreNext}
use Rattle.sheet_ops.proofs.Beginnings.{sheet_whole, formed_whole, next_fits, next_room, next_sheet, few_entries}

module _ (size : Size) (sites : ℕ) (H : List Entry) (e0 : Evaluation) (effects : List Effect) (next : AreNext size sites H e0 effects) where
  effects_are : effects ≡ map (effect_at size H) (range_with_len e0.length (length H - e0.length))
  effects_are =
      let within = next.within in
      next.effects_are ∙ drop-map-range (effect_at size H) 0 (length H) e0.length e0.length (length H - e0.length) (omega arith) (omega (arith, within))

  pub as_many : length effects + e0.length ≡ length H
  as_many =
      let within = next.within in
      let count : length effects ≡ length H - e0.length = ap length effects_are ∙ length-map-range_with_len (effect_at size H) e0.length (length H - e0.length) in
      omega (arith, within, count)

  -- when it has taken some of them
  module _ (e : Evaluation) (i : ℕ) (count : e.length ≡ e0.length + i) (sheet : placed (sheet_at size H e.length) ≡ placed_in e.sheet) where
    -- one more
    module _ (inside : i < length effects) (x : Effect) (is : x ≡ slice_index_or effects i x) where
      more : e.length < length H
      more = omega (arith, as_many, count, inside)

      this : x ≡ effect_at size H e.length
      this =
          is
          ∙ ap (λ (es : List Effect). slice_index_or es i x) effects_are
          ∙ get_or-map-range_with_len (effect_at size H) e0.length (length H - e0.length) i e.length x (omega (arith, as_many, inside)) (sym count)

      pub may_fit : EffectFits (placed_size (placed_in e.sheet)) x
      may_fit = subst (λ (y : Effect). EffectFits (placed_size (placed_in e.sheet)) y) (sym this) (next_fits size sites H next.valid e.length more (placed_in e.sheet) sheet)

      pub may_grow : HasRoom (placed_size (placed_in e.sheet)) x
      may_grow = subst (λ (y : Effect). HasRoom (placed_size (placed_in e.sheet)) y) (sym this) (next_room size sites H next.valid e.length more (placed_in e.sheet) sheet next.rows next.cols next.few)

      pub short : e.length < 8000
      short = let few = few_entries size sites H next.valid next.few in omega (arith, few, more)

      pub taken : (e' : Evaluation) → e'.length ≡ e.length + 1 → StepsTo (placed_in e.sheet) x (placed_in e'.sheet) → placed (sheet_at size H e'.length) ≡ placed_in e'.sheet
      taken e' one steps =
          let k : e'.length ≡ suc e.length = omega (arith, one) in
          ap (λ (n : ℕ). placed (sheet_at size H n)) k
          ∙ next_sheet size sites H next.valid e.length more (placed_in e.sheet) sheet (placed_in e'.sheet) (subst (λ (y : Effect). StepsTo (placed_in e.sheet) y (placed_in e'.sheet)) this steps)

    -- or all
    module _ (low : i ≤ length effects) (high : length effects ≤ i) where
      pub all_taken : e.length ≡ length H
      all_taken = omega (arith, as_many, count, low, high)

      pub sheet_taken : placed (sheet_of size H) ≡ placed_in e.sheet
      sheet_taken = sym (ap placed (sheet_whole size H)) ∙ (sym (ap (λ (n : ℕ). placed (sheet_at size H n)) all_taken) ∙ sheet)

  pub formed : IsWellFormed (sheet_of size H)
  formed = formed_whole size sites H next.valid
