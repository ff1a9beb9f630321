-- The texts of a run's history and of its effects.
use Rattle.std.proofs.Common.{◌≡◌, ℕ, ◌<◌, List, length, All, sym, ◌∙◌, subst, arith}
use Rattle.std.proofs.lemmas.List.{ext_get_or}
use Rattle.std.proofs.lemmas.List.FromFn.{get_or-map-range_with_len, length-map-range_with_len}
use Rattle.std.proofs.lemmas.Option.{get_or_from_slice_get}
use Rattle.std.specs.Prelude.{get_or}
use Rattle.sheet_ops.specs.declared.operation.Effect.{Effect}
use Rattle.sheet_ops.specs.declared.operation.Effect.TheVariants as effect
use Rattle.sheet_ops.specs.Published.{effect_at}
use Rattle.sheet_text.specs.Operations.{IntentWithin, EffectWithin}
use Rattle.sheet_text.proofs.Within.{entries_within, effects_within}
use Rattle.script_run.specs.declared.published.PublishedSheet.{PublishedSheet}
use Rattle.script_run.specs.declared.room.Room.{Room}
use Rattle.script_run.specs.World.{World}
use Rattle.script_run.specs.Transcript.{effects}
use Rattle.script_run.specs.Runs.{RunStands}
use Rattle.script_run.proofs.Publishes.{valid, few_sites}

module _ (w : World) (es : List Effect) (r : Room) (p : PublishedSheet) (places : List (List ℕ × ℕ)) (all : RunStands w es r p places) where
  pub entries_short : All (λ e. IntentWithin 16000 e.intent) w.history
  entries_short = entries_within w.size r.server.sites all.run.rows all.run.cols (few_sites w es r p places all) w.history (valid w es r p places all)

  effect_here : (k : ℕ) (d : Effect) → k < length es → get_or es k d ≡ effect_at w.size w.history k
  effect_here k d h = get_or_from_slice_get es k (effect_at w.size w.history k) d (all.run.effects_of.each k (omega (arith, h, all.run.effects_of.as_many)))

  pub effects_short : All (EffectWithin 16000) es
  effects_short k d h =
      subst (λ (e : Effect). EffectWithin 16000 e) (sym (effect_here k d h))
      (effects_within w.size r.server.sites all.run.rows all.run.cols (few_sites w es r p places all) w.history (valid w es r p places all) k (omega (arith, h, all.run.effects_of.as_many)))

  pub effects_all : es ≡ effects w.size w.history
  effects_all =
      ext_get_or (effect.InsRow 0) es (effects w.size w.history)
      (all.run.effects_of.as_many ∙ sym (length-map-range_with_len (effect_at w.size w.history) 0 (length w.history)))
      (λ k h. effect_here k (effect.InsRow 0) h
      ∙ sym (get_or-map-range_with_len (effect_at w.size w.history) 0 (length w.history) k k (effect.InsRow 0) (omega (arith, h, all.run.effects_of.as_many)) (omega arith)))
