-- Lines that were done beside a history were done beside each longer one, and one line more.
use Rattle.std.proofs.Common.{◌≡◌, ℕ, zero, suc, ◌≤◌, List, [], ◌∷◌, ◌++◌, length, take, refl, ap, sym, ◌∙◌, subst, arith, inl, inr, Some, None, Option, Ok, Err}
use Rattle.std.specs.Prelude.{◌⊎◌, Result, nat_eq, reverse, true, false}
use Rattle.std.proofs.lemmas.List.{length-append, reverse-append, take-append-le}
use Rattle.ss_base.specs.Lists.{IsPrefixOf}
use Rattle.sheet_value.specs.Tables.{Table}
use Rattle.sheet_ops.specs.declared.edit.Edit.{Edit}
use Rattle.sheet_ops.specs.declared.edit.EditErr.{EditErr}
use Rattle.sheet_ops.specs.declared.operation.Entry.{Entry}
use Rattle.sheet_ops.specs.declared.operation.Intent.{Intent}
use Rattle.sheet_ops.specs.Identity.{IdSheet}
use Rattle.sheet_ops.specs.History.{own_entries, operations, resolved, view, SeenRises}
use Rattle.sheet_ops.proofs.Acknowledged.{resolved_front}
use Rattle.sheet_ops.proofs.Histories.{view_of-same}
use Rattle.sheet_ops.proofs.Ids.{true_or_false}
use Rattle.sheet_ops.proofs.Views.{rises_later}
use Rattle.author_ops.specs.Edits.{intended}
use Rattle.sheet_text.specs.Texts.{refusal_of}
use Rattle.sort_keys.specs.Keys.{keys_of}
use Rattle.client_edits.specs.Decided.{unless_spent}
use Rattle.live_script.specs.declared.script.Action.{Action}
use Rattle.live_script.specs.declared.script.Action.TheVariants as action
use Rattle.live_script.specs.declared.script.SiteLine.{SiteLine}
use Rattle.live_record.specs.declared.note.Note.{Note}
use Rattle.live_record.specs.Replays.{Beside, Done, nothing_done, own_within, with_own, after_edit, after_push, after_pull, after_sync, after_read, PullsSoMany, DoesAction, DoesLine, Does}

-- ---- what holds between two lines: what is taken is in the history, and what own entries had seen was taken
pub record IsInside (H : List Entry) (d : Done) : Type 0 where
  pub within : d.taken ≤ length H
  pub rises : SeenRises d.taken (reverse d.own)

pub nothing_inside : (H : List Entry) → IsInside H nothing_done
nothing_inside H = record { within = omega arith; rises = tt }

module _ (b : Beside) where
  own_inside : (d : Done) (r : Result Intent EditErr) (log : List ℕ) → IsInside b.history d → IsInside b.history (record (with_own b.site d r) { log = log })
  own_inside d (Ok op) log s = record {
    within = s.within;
    rises = subst (SeenRises d.taken) (sym (reverse-append d.own (record { site = record { 0 = b.site }; seen = d.taken; intent = op } ∷ []))) (omega arith, s.rises);
  }
  own_inside d (Err e) log s = record { within = s.within; rises = s.rises }

  action_inside : (n : ℕ) (a : Action) (d d' : Done) (notes rest : List Note) → IsInside b.history d → DoesAction b n a d notes d' rest → IsInside b.history d'
  action_inside n (action.Edit e) d d' notes rest s (left, is) = subst (λ (x : Done). IsInside b.history x) (sym is) (own_inside d _ _ s)
  action_inside n (action.Push count) d d' notes rest s (l, note, may, is) = subst (λ (x : Done). IsInside b.history x) (sym is) (record { within = s.within; rises = s.rises })
  action_inside n (action.Pull count) d d' notes rest s (l, note, may, is) =
      subst (λ (x : Done). IsInside b.history x) (sym is) (record { within = may.within; rises = rises_later d.taken l (reverse d.own) may.from s.rises })
  action_inside n action.Sync d d' notes rest s (l, note, may, is) = subst (λ (x : Done). IsInside b.history x) (sym is) (record { within = s.within; rises = s.rises })
  action_inside n (action.Read range) d d' notes rest s (l, T, note, may, is) = subst (λ (x : Done). IsInside b.history x) (sym is) (record { within = s.within; rises = s.rises })

  pub does_inside : (lines : List SiteLine) (d : Done) (notes : List Note) (end : Done) → IsInside b.history d → Does b lines d notes end → IsInside b.history end
  does_inside [] d notes end s (none, is) = subst (λ (x : Done). IsInside b.history x) (sym is) s
  does_inside (line ∷ lines) d notes end s (d', rest, first, others) =
      does_inside lines d' rest end (action_inside line.number line.action d d' notes rest s first) others

-- ---- beside a longer history, with more values to read
-- own entries among so many first ones
own_grows : (site l : ℕ) (H more : List Entry) → length (own_entries site (take l H)) ≤ length (own_entries site (take l (H ++ more)))
own_grows site zero H more = omega arith
own_grows site (suc l) [] more = omega arith
own_grows site (suc l) (e ∷ H) more = by_test (true_or_false (nat_eq e.site.0 site)) (own_grows site l H more)
  where
    by_test : ((nat_eq e.site.0 site ≡ true) ⊎ (nat_eq e.site.0 site ≡ false)) → length (own_entries site (take l H)) ≤ length (own_entries site (take l (H ++ more))) →
        length (own_entries site (e ∷ take l H)) ≤ length (own_entries site (e ∷ take l (H ++ more)))
    by_test (inl k) rest = simp k (omega (arith, rest))
    by_test (inr k) rest = simp k rest

module _ (b : Beside) (more : List Entry) (Shows : ℕ → Table → Type 0) (shows : (l : ℕ) (T : Table) → b.Shows l T → Shows l T) where
  abbrev H : List Entry
  H = b.history

  abbrev later : Beside
  later = record b { history = b.history ++ more; Shows = Shows }

  front : (l : ℕ) → l ≤ length H → take l (H ++ more) ≡ take l H
  front l h = take-append-le l H more h

  within_same : (l : ℕ) → l ≤ length H → own_within later l ≡ own_within b l
  within_same l h = ap (λ (es : List Entry). length (own_entries b.site es)) (front l h)

  longer : (l : ℕ) → l ≤ length H → l ≤ length (H ++ more)
  longer l h = let n = length-append H more in omega arith

  view_same : (d : Done) → IsInside H d → view b.size (H ++ more) b.site d.taken d.own ≡ view b.size H b.site d.taken d.own
  view_same d s = view_of-same b.size H (H ++ more) (resolved b.size H) (resolved b.size (H ++ more)) (length H) front (resolved_front b.size more H) b.site (reverse d.own) d.taken s.within s.rises

  edit_same : (d : Done) (n : ℕ) (e : Edit) → IsInside H d → after_edit later d n e ≡ after_edit b d n e
  edit_same d n e s =
      ap (λ (X : IdSheet). let answer = unless_spent (operations d.own) (intended X e (keys_of X e)) in record (with_own b.site d answer) { log = d.log ++ refusal_of n answer }) (view_same d s)

  pulls_same : (d : Done) (count : Option ℕ) (l : ℕ) → l ≤ length H → PullsSoMany b d count l → PullsSoMany later d count l
  pulls_same d None l h m = (m.0, within_same l h ∙ m.1)
  pulls_same d (Some count) l h m = (m.0, m.1, subst (λ n. n ≤ d.pushed) (sym (within_same l h)) m.2)

  action_later : (n : ℕ) (a : Action) (d d' : Done) (notes rest : List Note) → IsInside H d → DoesAction b n a d notes d' rest → DoesAction later n a d notes d' rest
  action_later n (action.Edit e) d d' notes rest s (left, is) = (left, is ∙ sym (edit_same d n e s))
  action_later n (action.Push count) d d' notes rest s (l, note, may, is) =
      (l, note, record { within = longer l may.within; holds = within_same l may.within ∙ may.holds; later = may.later }, is)
  action_later n (action.Pull count) d d' notes rest s (l, note, may, is) =
      (l, note, record { within = longer l may.within; from = may.from; so_many = pulls_same d count l may.within may.so_many }, is)
  action_later n action.Sync d d' notes rest s (l, note, may, is) =
      (l, note, record { shown = (may.shown.0, shows l may.shown.0 may.shown.1); holds = let g = own_grows b.site l H more in let h = may.holds in omega (arith, g, h) }, is)
  action_later n (action.Read range) d d' notes rest s (l, T, note, may, is) =
      (l, T, note, record { later = may.later; shown = shows l T may.shown }, is)

  lines_later : (lines : List SiteLine) (d : Done) (notes : List Note) (end : Done) → IsInside H d → Does b lines d notes end → Does later lines d notes end
  lines_later [] d notes end s does = does
  lines_later (line ∷ lines) d notes end s (d', rest, first, others) =
      (d', rest, action_later line.number line.action d d' notes rest s first, lines_later lines d' rest end (action_inside b line.number line.action d d' notes rest s first) others)

pub does_later : (b : Beside) (H : List Entry) (Shows : ℕ → Table → Type 0) → IsPrefixOf b.history H → ((l : ℕ) (T : Table) → b.Shows l T → Shows l T) →
    (lines : List SiteLine) (notes : List Note) (end : Done) → Does b lines nothing_done notes end → Does (record b { history = H; Shows = Shows }) lines nothing_done notes end
does_later b H Shows (more, is) shows lines notes end does =
    subst (λ (K : List Entry). Does (record b { history = K; Shows = Shows }) lines nothing_done notes end) is
    (lines_later b more Shows shows lines nothing_done notes end (nothing_inside b.history) does)

-- ---- one line more
module _ (b : Beside) (more : List Note) where
  -- notes that are left may have more behind them
  action_before : (n : ℕ) (a : Action) (d d' : Done) (notes rest : List Note) → DoesAction b n a d notes d' rest → DoesAction b n a d (notes ++ more) d' (rest ++ more)
  action_before n (action.Edit e) d d' notes rest (left, is) = (ap (λ (ns : List Note). ns ++ more) left, is)
  action_before n (action.Push count) d d' notes rest (l, note, may, is) = (l, ap (λ (ns : List Note). ns ++ more) note, may, is)
  action_before n (action.Pull count) d d' notes rest (l, note, may, is) = (l, ap (λ (ns : List Note). ns ++ more) note, may, is)
  action_before n action.Sync d d' notes rest (l, note, may, is) = (l, ap (λ (ns : List Note). ns ++ more) note, may, is)
  action_before n (action.Read range) d d' notes rest (l, T, note, may, is) = (l, T, ap (λ (ns : List Note). ns ++ more) note, may, is)

  pub does_then : (lines : List SiteLine) (line : SiteLine) (d mid end : Done) (notes : List Note) → Does b lines d notes mid → DoesLine b line mid more end [] → Does b (lines ++ line ∷ []) d (notes ++ more) end
  does_then [] line d mid end notes (none, is) last =
      (end, [], subst (λ (ns : List Note). DoesLine b line d (ns ++ more) end []) (sym none) (subst (λ (x : Done). DoesLine b line x more end []) is last), (refl, refl))
  does_then (first ∷ lines) line d mid end notes (d', rest, does, others) last =
      (d', rest ++ more, action_before first.number first.action d d' notes rest does, does_then lines line d' mid end rest others last)
