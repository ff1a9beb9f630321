-- The sheets of the beginnings of a history, and the effects that lead from one to the next.
use Rattle.std.proofs.Common.{◌≡◌, ℕ, zero, suc, ◌+◌, ◌<◌, ◌≤◌, false, List, [], ◌∷◌, ◌++◌, length, take, drop, refl, ap, sym, ◌∙◌, subst, arith}
use Rattle.std.specs.Prelude.{nat_eq, nat_le, slice_index_or}
use Rattle.std.proofs.lemmas.Bool.Decides.{nat_tests}
use Rattle.std.proofs.lemmas.List.{append-nil, take-append-drop, length-take-le}
use Rattle.ss_base.specs.declared.types.Size.{Size}
use Rattle.sheet_ops.specs.declared.operation.Entry.{Entry}
use Rattle.sheet_ops.specs.declared.operation.Effect.{Effect}
use Rattle.sheet_ops.specs.LineIds.{operation_id}
use Rattle.sheet_ops.specs.Identity.{IdOp, opened}
use Rattle.sheet_ops.specs.Act.{acts}
use Rattle.sheet_ops.specs.Naming.{operations_of, locate, effect_of_intent}
use Rattle.sheet_ops.specs.Placed.{PlacedSheet, placed, placed_size, size_of}
use Rattle.sheet_ops.specs.Fits.{EffectFits, HasRoom, IsWellFormed, EachNew}
use Rattle.sheet_ops.specs.Effects.{StepsTo}
use Rattle.sheet_ops.specs.Chains.{Leads}
use Rattle.sheet_ops.specs.History.{own_entries, operations, resolved, sheet_of, IsValidHistory}
use Rattle.sheet_ops.specs.Represents.{sheet_at, entry_at, ids_at}
use Rattle.sheet_ops.specs.Published.{no_operation, effect_at}
use Rattle.sheet_ops.proofs.Acknowledged.{resolved_front}
use Rattle.sheet_ops.proofs.Histories.{site_positive, length-resolved, resolved-push, resolved_before}
use Rattle.sheet_ops.proofs.Lengths.{each_new_for, small_at, valid_few}
use Rattle.sheet_ops.proofs.Names.{each_new}
use Rattle.sheet_ops.proofs.Prefixes.{sheet_front}
use Rattle.sheet_ops.proofs.Published.{published_leads}
use Rattle.sheet_ops.proofs.Sizes.{room_for, size_placed}
use Rattle.sheet_ops.proofs.Views.{IsFresh, known_after, sheets_fresh}

-- ---- sheets
-- the sheet after so many entries is that of so many first entries
pub sheet_of_front : (size : Size) (H : List Entry) (k : ℕ) → k ≤ length H → sheet_at size H k ≡ sheet_of size (take k H)
sheet_of_front size H k h =
    let long : length (take k H) ≡ k = length-take-le k H h in
    (λ i. sheet_at size (sym (take-append-drop k H) i) (sym long i)) ∙ sheet_front size (take k H) (drop k H)

-- and doesn't depend on what comes later
pub sheet_before : (size : Size) (H more : List Entry) (k : ℕ) → k ≤ length H → sheet_at size (H ++ more) k ≡ sheet_at size H k
sheet_before size H more k h = ap (acts (opened size)) (resolved_front size more H k h)

-- the sheet after all entries
pub sheet_whole : (size : Size) (H : List Entry) → sheet_at size H (length H) ≡ sheet_of size H
sheet_whole size H = subst (λ (es : List Entry). sheet_at size es (length H) ≡ sheet_of size H) (append-nil H) (sheet_front size H [])

-- ---- effects
pub index_before : {A : Type 0} (xs : List A) (x d : A) (k : ℕ) → k < length xs → slice_index_or (xs ++ x ∷ []) k d ≡ slice_index_or xs k d
index_before [] x d k h = absurd (omega arith)
index_before (y ∷ xs) x d zero h = refl
index_before (y ∷ xs) x d (suc k) h = index_before xs x d k (omega arith)

-- an effect doesn't depend on what comes later
pub effect_before : (size : Size) (H : List Entry) (e : Entry) (k : ℕ) → k < length H → effect_at size (H ++ e ∷ []) k ≡ effect_at size H k
effect_before size H e k h =
    let here : slice_index_or (resolved size (H ++ e ∷ [])) k no_operation ≡ slice_index_or (resolved size H) k no_operation =
    ap (λ (Rs : List IdOp). slice_index_or Rs k no_operation) (resolved-push size H e) ∙ index_before (resolved size H) _ no_operation k (omega (arith, h, length-resolved size H)) in
    λ i. effect_of_intent (locate (acts (opened size) (resolved_before size H e k (omega (arith, h)) i)) (here i))

-- ---- an operation that its site hasn't issued yet is in no history
too_many : (n m : ℕ) → suc m ≤ n → nat_le n m ≡ false
too_many n m h = grind (arith, nat_tests)

not_zero : (n : ℕ) → 0 < n → nat_eq n 0 ≡ false
not_zero n h = grind (arith, nat_tests)

pub unknown : (site : ℕ) (es : List Entry) → 0 < site → (n : ℕ) → suc (operations (own_entries site es)) ≤ n → known_after es (operation_id site n) ≡ false
unknown site es h n low = rw (not_zero site h) (too_many n (operations (own_entries site es)) low)

-- ---- from one beginning to the next
module _ (size : Size) (sites : ℕ) (H : List Entry) (valid : IsValidHistory size sites H) where
  fresh_at : (k : ℕ) → k ≤ length H → IsFresh (known_after (take k H)) (sheet_at size H k)
  fresh_at k h = sheets_fresh size sites H valid k h

  pub formed_at : (k : ℕ) → k ≤ length H → IsWellFormed (sheet_at size H k)
  formed_at k h = (fresh_at k h).formed

  pub formed_whole : IsWellFormed (sheet_of size H)
  formed_whole = subst IsWellFormed (sheet_whole size H) (formed_at (length H) (omega arith))

  -- the effect of the next entry
  module _ (k : ℕ) (more : k < length H) (P : PlacedSheet) (is : placed (sheet_at size H k) ≡ P) where
    lead : Leads (sheet_at size H k) (sheet_at size H (suc k)) (effect_at size H k) (ids_at H k)
    lead = published_leads size sites H valid k more

    sized : size_of (sheet_at size H k) ≡ placed_size P
    sized = sym (size_placed (sheet_at size H k)) ∙ ap placed_size is

    pub next_fits : EffectFits (placed_size P) (effect_at size H k)
    next_fits = subst (λ (z : Size). EffectFits z (effect_at size H k)) sized lead.fits

    pub next_room : size.rows ≤ 1000 → size.cols ≤ 64 → sites ≤ 8 → HasRoom (placed_size P) (effect_at size H k)
    next_room rows cols few =
        let many = valid_few size sites H valid in
        let small = small_at size sites H valid k (omega (arith, more)) in
        room_for (placed_size P) (effect_at size H k)
        (omega (arith, small.0, rows, many, few, more, ap (λ (z : Size). z.rows) sized))
        (omega (arith, small.1, cols, many, few, more, ap (λ (z : Size). z.cols) sized))

    next_new : EachNew (sheet_at size H k) (ids_at H k)
    next_new =
        let site = (entry_at H k).site.0 in
        each_new (sheet_at size H k) site (suc (operations (own_entries site (take k H)))) (operations_of (entry_at H k).intent)
        (λ n low. (fresh_at k (omega (arith, more))).new (operation_id site n) (unknown site (take k H) (site_positive size sites H valid k more) n low))

    pub next_sheet : (Q : PlacedSheet) → StepsTo P (effect_at size H k) Q → placed (sheet_at size H (suc k)) ≡ Q
    next_sheet Q steps =
        let formed = formed_at k (omega (arith, more)) in
        sym (ap placed lead.same) ∙ steps (sheet_at size H k) (ids_at H k) formed (each_new_for (sheet_at size H k) (ids_at H k) formed next_new (effect_at size H k) lead.as_many) is

-- a history has at most 8,000 entries
pub few_entries : (size : Size) (sites : ℕ) (H : List Entry) → IsValidHistory size sites H → sites ≤ 8 → length H ≤ 8000
few_entries size sites H valid few = let many = valid_few size sites H valid in omega (arith, many, few)
