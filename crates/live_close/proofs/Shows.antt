-- What a site read of its store is what the history has at that length.
use Rattle.std.proofs.Common.{◌≡◌, ℕ, ◌≤◌, List, [], ◌∷◌, ◌++◌, length, take, refl, ap, sym, ◌∙◌, subst, arith, inl, inr}
use Rattle.std.specs.Prelude.{◌⊎◌, Contains}
use Rattle.std.proofs.lemmas.List.{length-append, take-append-le, take_all}
use Rattle.ss_base.specs.declared.types.Size.{Size}
use Rattle.ss_base.specs.Lists.{IsPrefixOf}
use Rattle.sheet_ops.specs.declared.operation.Entry.{Entry}
use Rattle.sheet_ops.specs.History.{sheet_of}
use Rattle.sheet_value.specs.declared.batch.Batch.{Batch}
use Rattle.sheet_value.specs.Snapshots.{replay}
use Rattle.sheet_value.specs.Tables.{Table}
use Rattle.full_calc.specs.Values.{value_table}
use Rattle.value_snap.specs.declared.published.Published.{Published}
use Rattle.value_snap.specs.declared.published.Published.TheVariants.{Full, End}
use Rattle.value_snap.specs.Lists.{batches_of, replay_of}
use Rattle.recalc_loop.specs.Standing.{EachStands, snapshot_values}
use Rattle.live_script.specs.declared.script.Action.{Action}
use Rattle.live_script.specs.declared.script.Action.TheVariants as action
use Rattle.live_script.specs.declared.script.SiteLine.{SiteLine}
use Rattle.live_record.specs.declared.note.Note.{Note}
use Rattle.live_record.specs.declared.note.NoteKind.{NoteKind}
use Rattle.live_record.specs.declared.note.NoteKind.TheVariants as kind
use Rattle.live_record.specs.Replays.{Beside, Done, DoesAction, Does}
use Rattle.live_record.specs.Records.{ShowsPrefix}
use Rattle.live_site.specs.SiteRuns.{ShowsKnown}
use Rattle.live_close.proofs.Lists.{first_or_later, none_contains, begins_twice}

-- ---- the mark changes no values
same_more : (x : Published) (xs ys : List Published) → batches_of xs ≡ batches_of ys → batches_of (x ∷ xs) ≡ batches_of (x ∷ ys)
same_more (Full b) xs ys e = ap (λ (bs : List Batch). b ∷ bs) e
same_more End xs ys e = e

-- a beginning of a list with the mark leads to what a beginning without it does
without_mark : (xs es : List Published) → IsPrefixOf xs (es ++ End ∷ []) → (before : List Published) × IsPrefixOf before es × (batches_of xs ≡ batches_of before)
without_mark [] es p = ([], (es, refl), refl)
without_mark (x ∷ xs) [] (rest, e) =
    let here : x ≡ End = cc (e) in
    let over : xs ++ rest ≡ [] = cc (e) in
    ([], ([], refl), marked x xs rest here over)
  where
    marked : (x : Published) (xs rest : List Published) → x ≡ End → xs ++ rest ≡ [] → batches_of (x ∷ xs) ≡ []
    marked x [] rest here over = ap (λ (z : Published). batches_of (z ∷ [])) here
    marked x (y ∷ xs) rest here over = absurd (cc (over))
without_mark (x ∷ xs) (y ∷ es) (rest, e) =
    let here : x ≡ y = cc (e) in
    let over : xs ++ rest ≡ es ++ End ∷ [] = cc (e) in
    let (before, (more, is), same) = without_mark xs es (rest, over) in
    (x ∷ before, (more, (λ i. here i ∷ is i)), same_more x xs before same)

-- ---- beginnings of a history
front_of : (h H : List Entry) (l : ℕ) → IsPrefixOf h H → l ≡ length h → take l H ≡ h
front_of h H l (more, is) long =
    (λ i. take (long i) (sym is i)) ∙ (take-append-le (length h) h more (omega arith) ∙ take_all (length h) h (omega arith))

not_longer : (h H : List Entry) → IsPrefixOf h H → length h ≤ length H
not_longer h H (more, is) = let n = length-append h more in let e = ap length is in omega (arith, n, e)

module _ (size : Size) (H : List Entry) where
  -- what a site knew of a store that stands for the history is what the history has
  pub known_shows : (list known : List Published) → EachStands size list H → IsPrefixOf known (list ++ End ∷ []) → (l : ℕ) (T : Table) → ShowsKnown size known l T → ShowsPrefix size H l T
  known_shows list known stands begins l T (xs, first, long, is) =
      let (before, part, same) = without_mark xs list (begins_twice xs known (list ++ End ∷ []) first begins) in
      let (h, front, here) = stands before part in
      let replayed : replay_of size xs ≡ replay_of size before = ap (replay size) same in
      let count : l ≡ length h = sym long ∙ (ap (λ s. s.length) replayed ∙ here.count) in
      let n = not_longer h H front in
      (omega (arith, count, n), is ∙ (ap snapshot_values replayed ∙ (here.values ∙ ap (λ (es : List Entry). value_table (sheet_of size es)) (sym (front_of h H l front count)))))

  -- and so has each longer one
  pub shows_later : (K : List Entry) → IsPrefixOf H K → (l : ℕ) (T : Table) → ShowsPrefix size H l T → ShowsPrefix size K l T
  shows_later K (more, is) l T (within, values) =
      let n = not_longer H K (more, is) in
      (omega (arith, within, n), values ∙ ap (λ (es : List Entry). value_table (sheet_of size es)) (sym (take-append-le l H more within) ∙ ap (take l) is))

-- ---- what was noted of values could be read
module _ (b : Beside) (n : Note) (values : (n.kind ≡ kind.Read) ⊎ (n.kind ≡ kind.Synced)) where
  abbrev Shown : Type 0
  Shown = (T : Table) × b.Shows n.length T

  is_kind : (k : NoteKind) (line l : ℕ) → record { line = line; kind = k; length = l } ≡ n → k ≡ n.kind
  is_kind k line l e = ap (λ (m : Note). m.kind) e

  is_length : (k : NoteKind) (line l : ℕ) → record { line = line; kind = k; length = l } ≡ n → l ≡ n.length
  is_length k line l e = ap (λ (m : Note). m.length) e

  no_hold : (k : NoteKind) → k ≡ n.kind → (k ≡ kind.Read) ⊎ (k ≡ kind.Synced)
  no_hold k e = subst (λ (j : NoteKind). (j ≡ kind.Read) ⊎ (j ≡ kind.Synced)) (sym e) values

  not_pushed : {B : Type 0} → (kind.Pushed ≡ kind.Read) ⊎ (kind.Pushed ≡ kind.Synced) → B
  not_pushed (inl e) = absurd (cc (e))
  not_pushed (inr e) = absurd (cc (e))

  not_taken : {B : Type 0} → (kind.Taken ≡ kind.Read) ⊎ (kind.Taken ≡ kind.Synced) → B
  not_taken (inl e) = absurd (cc (e))
  not_taken (inr e) = absurd (cc (e))

  first_shown : (line : ℕ) (a : Action) (d d' : Done) (notes rest : List Note) → DoesAction b line a d notes d' rest → Contains notes n → Shown ⊎ Contains rest n
  first_shown line (action.Edit e) d d' notes rest (left, is) there = inr (subst (λ (ns : List Note). Contains ns n) (sym left) there)
  first_shown line (action.Push count) d d' notes rest (l, note, may, is) there =
      at_first (first_or_later _ rest n (subst (λ (ns : List Note). Contains ns n) note there))
    where
      at_first : (record { line = line; kind = kind.Pushed; length = l } ≡ n) ⊎ Contains rest n → Shown ⊎ Contains rest n
      at_first (inl e) = not_pushed (no_hold kind.Pushed (is_kind kind.Pushed line l e))
      at_first (inr later) = inr later
  first_shown line (action.Pull count) d d' notes rest (l, note, may, is) there =
      at_first (first_or_later _ rest n (subst (λ (ns : List Note). Contains ns n) note there))
    where
      at_first : (record { line = line; kind = kind.Taken; length = l } ≡ n) ⊎ Contains rest n → Shown ⊎ Contains rest n
      at_first (inl e) = not_taken (no_hold kind.Taken (is_kind kind.Taken line l e))
      at_first (inr later) = inr later
  first_shown line action.Sync d d' notes rest (l, note, may, is) there =
      at_first (first_or_later _ rest n (subst (λ (ns : List Note). Contains ns n) note there))
    where
      at_first : (record { line = line; kind = kind.Synced; length = l } ≡ n) ⊎ Contains rest n → Shown ⊎ Contains rest n
      at_first (inl e) = inl (may.shown.0, subst (λ (m : ℕ). b.Shows m may.shown.0) (is_length kind.Synced line l e) may.shown.1)
      at_first (inr later) = inr later
  first_shown line (action.Read range) d d' notes rest (l, T, note, may, is) there =
      at_first (first_or_later _ rest n (subst (λ (ns : List Note). Contains ns n) note there))
    where
      at_first : (record { line = line; kind = kind.Read; length = l } ≡ n) ⊎ Contains rest n → Shown ⊎ Contains rest n
      at_first (inl e) = inl (T, subst (λ (m : ℕ). b.Shows m T) (is_length kind.Read line l e) may.shown)
      at_first (inr later) = inr later

  pub noted_shown : (lines : List SiteLine) (d : Done) (notes : List Note) (end : Done) → Does b lines d notes end → Contains notes n → Shown
  noted_shown [] d notes end (none, is) there = none_contains n (subst (λ (ns : List Note). Contains ns n) none there)
  noted_shown (line ∷ lines) d notes end (d', rest, first, others) there =
      further (first_shown line.number line.action d d' notes rest first there) (λ later. noted_shown lines d' rest end others later)
    where
      further : Shown ⊎ Contains rest n → (Contains rest n → Shown) → Shown
      further (inl shown) next = shown
      further (inr later) next = next later
