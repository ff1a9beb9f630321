-- Positions that are not above the lines of a sheet, and those of a valid history.
use Rattle.std.proofs.Common.{◌≡◌, ℕ, zero, suc, ◌+◌, ◌-◌, ◌<◌, ◌≤◌, Bool, true, false, cond, List, [], ◌∷◌, length, take, get_or, All, refl, ap, sym, ◌∙◌, subst, arith}
use Rattle.std.specs.Prelude.{nat_le, reverse, insert}
use Rattle.std.proofs.lemmas.List.{length-take, length-reverse, reverse-reverse, get_or-reverse}
use Rattle.ss_base.specs.declared.types.Size.{Size}
use Rattle.marked_lines.proofs.Shifts.{images_below}
use Rattle.sheet_ops.specs.declared.content.Put.{Put}
use Rattle.sheet_ops.specs.declared.operation.Entry.{Entry}
use Rattle.sheet_ops.specs.declared.operation.Intent.{Intent}
use Rattle.sheet_ops.specs.declared.operation.Intent.TheVariants as intent
use Rattle.sheet_ops.specs.declared.operation.Effect.{Effect}
use Rattle.sheet_ops.specs.declared.operation.Effect.TheVariants as effect
use Rattle.sheet_ops.specs.Lines.{new_line, before_place, sorted_moves}
use Rattle.sheet_ops.specs.Identity.{IdOp, one, write, ins_row, ins_col, del_row, del_col, sort, IdSheet, opened}
use Rattle.sheet_ops.specs.Act.{act, acts}
use Rattle.sheet_ops.specs.Naming.{resolve}
use Rattle.sheet_ops.specs.Fits.{IntentFits, EffectFits, PutsFit}
use Rattle.sheet_ops.specs.Placed.{size_of}
use Rattle.sheet_ops.specs.History.{own_entries, operations, view_of, resolved_from, MayFollow, EachFollows, IsValidHistory}
use Rattle.sheet_ops.specs.Represents.{sheet_at}
use Rattle.sheet_ops.specs.Published.{effect_at}
use Rattle.sheet_ops.proofs.Ids.{length-opening_lines}
use Rattle.sheet_ops.proofs.Carried.{length-lines_moved_from}
use Rattle.sheet_ops.proofs.Lengths.{length-operations, valid_few, small_at}
use Rattle.sheet_ops.proofs.Published.{published_leads}
use Rattle.sheet_text.specs.Operations.{IntentWithin, EffectWithin}

-- ---- what fits
module _ (size : Size) (most : ℕ) (rows : size.rows ≤ most) (cols : size.cols ≤ most) where
  puts_within : (ps : List Put) → PutsFit size ps → (k : ℕ) (d : Put) → k < length ps → ((get_or ps k d).row ≤ most) × ((get_or ps k d).col ≤ most)
  puts_within [] f k d h = absurd (omega arith)
  puts_within (p ∷ ps) f zero d h = let r = f.0 in let c = f.1 in (omega (arith, r), omega (arith, c))
  puts_within (p ∷ ps) f (suc k) d h = puts_within ps f.4 k d (omega arith)

  below_within : (n : ℕ) → n ≤ most → (ps : List ℕ) → All (λ p. p < n) ps → All (λ p. p ≤ most) ps
  below_within n few ps below = λ k d h. let lt = below k d h in omega (arith, lt)

  pub intent_within : (c : Intent) → IntentFits size c → IntentWithin most c
  intent_within (intent.Write ps) f = puts_within ps f.2
  intent_within (intent.InsRow p) f = omega arith
  intent_within (intent.InsCol p) f = omega arith
  intent_within (intent.DelRow p) f = omega arith
  intent_within (intent.DelCol p) f = omega arith
  intent_within (intent.Sort ss rs) f = (below_within size.rows rows ss f.slots_below, below_within size.rows rows rs f.recs_below)

  pub effect_within : (e : Effect) → EffectFits size e → EffectWithin most e
  effect_within (effect.Write ps) f = puts_within ps f.1
  effect_within (effect.InsRow p) f = omega arith
  effect_within (effect.InsCol p) f = omega arith
  effect_within (effect.DelRow p) f = omega arith
  effect_within (effect.DelCol p) f = omega arith
  effect_within (effect.Move moves) f = λ k d h. let lt = images_below moves f.0 size.rows f.1 k d h in (omega (arith, lt.0), omega (arith, lt.1))

-- ---- how large a view is
-- a sheet with at most so many rows and columns
abbrev AtMost : ℕ → ℕ → IdSheet → Type 0
AtMost rows cols X = (length X.rows.lines ≤ rows) × (length X.cols.lines ≤ cols)

length_inserted : {A : Type 0} (xs : List A) (i : ℕ) (x : A) → length (insert xs i x) ≡ length xs + 1
length_inserted [] zero x = refl
length_inserted [] (suc i) x = refl
length_inserted (y ∷ ys) zero x = omega arith
length_inserted (y ∷ ys) (suc i) x = let rest = length_inserted ys i x in omega (arith, rest)

act_at_most : (X : IdSheet) (N : IdOp) (rows cols : ℕ) → AtMost rows cols X → AtMost (suc rows) (suc cols) (act X N)
act_at_most X (one (write ps)) rows cols (r, c) = (omega arith, omega arith)
act_at_most X (one (ins_row before id)) rows cols (r, c) = let n = length_inserted X.rows.lines (before_place X.rows before) (new_line id) in (omega (arith, n), omega arith)
act_at_most X (one (ins_col before id)) rows cols (r, c) = let n = length_inserted X.cols.lines (before_place X.cols before) (new_line id) in (omega arith, omega (arith, n))
act_at_most X (one (del_row rec)) rows cols (r, c) = (omega arith, omega arith)
act_at_most X (one (del_col rec)) rows cols (r, c) = (omega arith, omega arith)
act_at_most X (one (sort ss rs)) rows cols (r, c) = let n = length-lines_moved_from (sorted_moves X.rows ss rs) X.rows.lines 0 X.rows.lines in (omega (arith, n), omega arith)

acts_at_most : (X : IdSheet) (Ns : List IdOp) (rows cols : ℕ) → AtMost rows cols X → AtMost (rows + length Ns) (cols + length Ns) (acts X Ns)
acts_at_most X [] rows cols (r, c) = (omega arith, omega arith)
acts_at_most X (N ∷ Ns) rows cols few =
    let (r, c) = acts_at_most (act X N) Ns (suc rows) (suc cols) (act_at_most X N rows cols few) in
    (omega (arith, r), omega (arith, c))

-- a view has at most one line more for each entry that was taken, and for each own one
view_at_most : (size : Size) (H : List Entry) (Rs : List IdOp) (site taken : ℕ) (G : List Entry) → AtMost (size.rows + taken + length G) (size.cols + taken + length G) (view_of size H Rs site taken G)
view_at_most size H Rs site taken G = by_own G
  where
    taken_at_most : (n : ℕ) → AtMost (size.rows + taken + n) (size.cols + taken + n) (acts (opened size) (take taken Rs))
    taken_at_most n =
        let (r, c) = acts_at_most (opened size) (take taken Rs) size.rows size.cols (let a = length-opening_lines 0 size.rows in omega (arith, a), let b = length-opening_lines 0 size.cols in omega (arith, b)) in
        let few = length-take taken Rs in
        (omega (arith, r, few), omega (arith, c, few))

    by_own : (G : List Entry) → AtMost (size.rows + taken + length G) (size.cols + taken + length G) (view_of size H Rs site taken G)
    by_own [] = taken_at_most 0
    by_own (g ∷ G) = by_held (nat_le (suc (length G)) (length (own_entries site (take taken H)))) (by_own G)
      where
        N : IdOp
        N = resolve (view_of size H Rs site g.seen G) site (suc (operations G)) g.intent

        by_held : (b : Bool) → AtMost (size.rows + taken + length G) (size.cols + taken + length G) (view_of size H Rs site taken G) →
            AtMost (size.rows + taken + suc (length G)) (size.cols + taken + suc (length G)) (cond b (acts (opened size) (take taken Rs)) (act (view_of size H Rs site taken G) N))
        by_held true before = taken_at_most (suc (length G))
        by_held false before =
            let (r, c) = act_at_most (view_of size H Rs site taken G) N (size.rows + taken + length G) (size.cols + taken + length G) before in
            (omega (arith, r), omega (arith, c))

-- ---- valid histories
module _ (size : Size) (sites : ℕ) (rows : size.rows ≤ 1000) (cols : size.cols ≤ 64) (few : sites ≤ 8) where
  follows_within : (L : List Entry) → EachFollows size sites L → (e : Entry) → MayFollow size sites L e → IntentWithin 16000 e.intent
  follows_within L v e may =
      let (r, c) = view_at_most size (reverse L) (resolved_from size L) e.site.0 e.seen (own_entries e.site.0 L) in
      let long = valid_few size sites (reverse L) (subst (EachFollows size sites) (sym (reverse-reverse L)) v) in
      let same = length-reverse L in
      let own = length-operations (own_entries e.site.0 L) in
      let issued = may.few in
      let seen = may.seen in
      intent_within (size_of (view_of size (reverse L) (resolved_from size L) e.site.0 e.seen (own_entries e.site.0 L))) 16000
      (omega (arith, r, long, same, own, issued, seen)) (omega (arith, c, long, same, own, issued, seen)) e.intent may.fits

  newest_within : (L : List Entry) → EachFollows size sites L → (k : ℕ) (d : Entry) → k < length L → IntentWithin 16000 (get_or L k d).intent
  newest_within [] v k d h = absurd (omega arith)
  newest_within (e ∷ L) v zero d h = follows_within L v.1 e v.0
  newest_within (e ∷ L) v (suc k) d h = newest_within L v.1 k d (omega arith)

  pub entries_within : (H : List Entry) → IsValidHistory size sites H → (k : ℕ) (d : Entry) → k < length H → IntentWithin 16000 (get_or H k d).intent
  entries_within H v k d h =
      let n = length-reverse H in
      let same : get_or H k d ≡ get_or (reverse H) (length (reverse H) - 1 - k) d = ap (λ (es : List Entry). get_or es k d) (sym (reverse-reverse H)) ∙ get_or-reverse (reverse H) k d (omega (arith, n)) in
      subst (λ (e : Entry). IntentWithin 16000 e.intent) (sym same) (newest_within (reverse H) v (length (reverse H) - 1 - k) d (omega (arith, n)))

  pub effects_within : (H : List Entry) → IsValidHistory size sites H → (k : ℕ) → k < length H → EffectWithin 16000 (effect_at size H k)
  effects_within H v k h =
      let (r, c) = small_at size sites H v k (omega arith) in
      let long = valid_few size sites H v in
      effect_within (size_of (sheet_at size H k)) 16000 (omega (arith, r, long)) (omega (arith, c, long)) (effect_at size H k) (published_leads size sites H v k h).fits
