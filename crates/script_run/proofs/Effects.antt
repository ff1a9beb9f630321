-- The effects of a history with one more entry.
use Rattle.std.proofs.Common.{◌≡◌, ◌≢◌, ℕ, ◌<◌, List, [], ◌∷◌, ◌++◌, length, ap, sym, ◌∙◌, subst, arith, inl, inr, Some}
use Rattle.std.specs.Prelude.{◌⊎◌, slice_get}
use Rattle.std.proofs.lemmas.List.{length-append}
use Rattle.ss_base.specs.declared.types.Size.{Size}
use Rattle.sheet_ops.specs.declared.operation.Entry.{Entry}
use Rattle.sheet_ops.specs.declared.operation.Effect.{Effect}
use Rattle.sheet_ops.specs.Published.{effect_at}
use Rattle.sheet_ops.proofs.Beginnings.{effect_before}
use Rattle.script_run.specs.Runs.{AreEffectsOf}
use Rattle.script_run.proofs.Lists.{same_or_not, get_more-before, get_more-last}

pub effects_more : (size : Size) (H : List Entry) (e : Entry) (es : List Effect) (x : Effect) → AreEffectsOf size H es → x ≡ effect_at size (H ++ e ∷ []) (length H) → AreEffectsOf size (H ++ e ∷ []) (es ++ x ∷ [])
effects_more size H e es x old is = record {
  as_many = omega (arith, length-append es (x ∷ []), length-append H (e ∷ []), old.as_many);
  each = λ k h. by_place k h (same_or_not k (length H));
}
  where
    by_place : (k : ℕ) → k < length (H ++ e ∷ []) → ((k ≡ length H) ⊎ (k ≢ length H)) → slice_get (es ++ x ∷ []) k ≡ Some (effect_at size (H ++ e ∷ []) k)
    by_place k h (inl same) =
        subst (λ n. slice_get (es ++ x ∷ []) n ≡ Some (effect_at size (H ++ e ∷ []) n)) (sym same)
        (ap (slice_get (es ++ x ∷ [])) (sym old.as_many) ∙ (get_more-last es x ∙ ap Some is))
    by_place k h (inr apart) =
        let below : k < length H = omega (arith, h, length-append H (e ∷ []), apart) in
        get_more-before es x k (omega (arith, below, old.as_many)) ∙ (old.each k below ∙ ap Some (sym (effect_before size H e k below)))
