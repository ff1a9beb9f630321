-- The effects of a history with one more entry.
use Rattle.std.proofs.Common.{◌≡◌, ℕ, zero, suc, ◌+◌, ◌<◌, List, [], ◌∷◌, ◌++◌, length, map, get_or, refl, ap, ◌∙◌, arith}
use Rattle.std.specs.List.{range_with_len}
use Rattle.std.proofs.lemmas.List.{length-append}
use Rattle.std.proofs.lemmas.List.FromFn.{fill_by_all, length-map-range_with_len, get_or-map-range_with_len, map-range_with_len_more}
use Rattle.ss_base.specs.declared.types.Size.{Size}
use Rattle.sheet_ops.specs.declared.operation.Entry.{Entry}
use Rattle.sheet_ops.specs.declared.operation.Effect.{Effect}
use Rattle.sheet_ops.specs.Published.{effect_at}
use Rattle.sheet_ops.proofs.Beginnings.{effect_before}
use Rattle.hub.specs.Messages.{effects_of}

pub effects_more : (size : Size) (H : List Entry) (e : Entry) → effects_of size (H ++ e ∷ []) ≡ effects_of size H ++ effect_at size (H ++ e ∷ []) (length H) ∷ []
effects_more size H e =
    let longer = effect_at size (H ++ e ∷ []) in
    let n = length H in
    let one_more : length (H ++ e ∷ []) ≡ n + 1 = length-append H (e ∷ []) in
    ap (λ m. map longer (range_with_len 0 m)) one_more
    ∙ (map-range_with_len_more longer 0 n n (omega arith)
    ∙ ap (λ (es : List Effect). es ++ longer n ∷ [])
    (fill_by_all (effect_at size H) (map longer (range_with_len 0 n)) n (longer 0) (length-map-range_with_len longer 0 n)
    (λ k h. get_or-map-range_with_len longer 0 n k k (longer 0) h (omega arith) ∙ effect_before size H e k h)))

-- what is kept at a place of the history
pub effect_in : (size : Size) (H : List Entry) (es : List Effect) (k : ℕ) (x : Effect) → es ≡ effects_of size H → k < length H → x ≡ get_or es k x → x ≡ effect_at size H k
effect_in size H es k x same h is = is ∙ (ap (λ (l : List Effect). get_or l k x) same ∙ get_or-map-range_with_len (effect_at size H) 0 (length H) k k x h (omega arith))
