-- A line with its note.
use Rattle.std.proofs.Common.{◌≡◌, ℕ, ◌+◌, ◌-◌, ◌<◌, ◌≤◌, List, [], ◌∷◌, ◌++◌, length, refl, ap, sym, ◌∙◌, subst, arith, Option, Ok, Err}
use Rattle.std.specs.Prelude.{◌≢◌, ◌^◌, min, Result, OnOk, OnErr, IfErr}
use Rattle.std.proofs.lemmas.List.{append-nil, length-append}
use Rattle.ss_base.specs.declared.types.Span.{Span}
use Rattle.ss_base.specs.Lists.{IsPrefixOf}
use Rattle.sheet_ops.specs.declared.edit.Edit.{Edit}
use Rattle.sheet_ops.specs.declared.edit.EditErr.{EditErr}
use Rattle.sheet_ops.specs.declared.edit.EditErr.TheVariants as fault
use Rattle.sheet_ops.specs.declared.operation.Entry.{Entry}
use Rattle.sheet_ops.specs.declared.operation.Intent.{Intent}
use Rattle.sheet_ops.specs.History.{own_entries, operations}
use Rattle.sheet_ops.proofs.Lengths.{length-operations}
use Rattle.sheet_text.specs.Texts.{TextOf}
use Rattle.sheet_text.specs.Values.{range_values_text}
use Rattle.client_edits.specs.Decided.{Decides, with_operation}
use Rattle.jup_client.specs.Clients.{own_entry}
use Rattle.value_snap.specs.declared.published.Published.{Published}
use Rattle.value_snap.specs.Lists.{upto_from}
use Rattle.value_snap.specs.Stores.{known_snapshot}
use Rattle.value_snap.specs.Views.{store_size}
use Rattle.recalc_loop.specs.Standing.{snapshot_values}
use Rattle.live_session.specs.Sessions.{SessionOf, ReplicaStands}
use Rattle.turn_book.specs.Passes.{seen_by, made_in}
use Rattle.live_session.specs.Pulling.{HasTakenMore}
use Rattle.live_script.specs.declared.script.Action.TheVariants as action
use Rattle.live_script.specs.declared.script.SiteLine.{SiteLine}
use Rattle.live_record.specs.declared.note.Note.{Note}
use Rattle.live_record.specs.declared.note.NoteKind.TheVariants as kind
use Rattle.live_record.specs.Replays.{Done, after_edit, after_push, after_pull, after_sync, after_read, DoesLine}
use Rattle.live_site.specs.declared.work.Work.{Work}
use Rattle.live_site.specs.SiteRuns.{holds_noted}
use Rattle.live_site.specs.Lines.{Agrees, beside_session, DidLine}
use Rattle.live_site.proofs.Doing.{most_of, longer, may_push, pushed_agrees, may_pull, pulled_agrees, may_sync, synced_agrees, edited_agrees}
use Rattle.live_site.proofs.Parts.{may_read, read_agrees}

did_line : (name : List ℕ) (line : SiteLine) (made : List Note) (old new : Work) (t : SessionOf) (log : List ℕ) → new.session ≡ t → new.log.items ≡ log → new.notes ≡ old.notes ++ made → holds_noted made + old.session.pass.holds ≤ t.pass.holds →
    ((d : Done) → Agrees d old.session old.log.items → (e : Done) × DoesLine (beside_session name t) line d made e [] × Agrees e t log) → DidLine name line old new
did_line name line made old new t log same logged noted held does = record {
  made = made;
  notes = noted;
  holds = subst (λ (z : SessionOf). holds_noted made + old.session.pass.holds ≤ z.pass.holds) (sym same) held;
  does = λ d a.
      subst (λ (z : SessionOf). (e : Done) × DoesLine (beside_session name z) line d made e [] × Agrees e z new.log.items) (sym same)
      (subst (λ (l : List ℕ). (e : Done) × DoesLine (beside_session name t) line d made e [] × Agrees e t l) (sym logged) (does d a));
}

weaker : {E : Type 0} (r : Result (Unit {0}) E) (P Q : Type 0) → (P → Q) → OnOk r P → OnOk r Q
weaker (Ok u) P Q f p = f p
weaker (Err e) P Q f p = tt

module _ {E : Type 0} (r : Result (Unit {0}) E) (number : ℕ) (old new : Work) (t : SessionOf) (same : new.session ≡ t) where
  module _ (e : Edit) (answer : Result (Unit {0}) EditErr) (text : List ℕ) (logged : OnOk r (new.log.items ≡ old.log.items ++ text)) (noted : new.notes ≡ old.notes) (stands : ReplicaStands old.session.client old.session.pass old.session.unpushed)
      (ok : OnOk answer ((op : Intent) × Decides old.session.client e (Ok op) × (t ≡ record old.session { client = with_operation old.session.client op; unpushed = old.session.unpushed ++ own_entry old.session.client op ∷ [] })))
      (cause : IfErr answer (λ (x : EditErr). x ≢ fault.Memory → Decides old.session.client e (Err x))) (err : OnErr answer (t ≡ old.session)) (held : old.session.pass.holds ≤ t.pass.holds) (is : TextOf answer number text) where
    pub edited_line : (name : List ℕ) → OnOk r (DidLine name (record { number = number; action = action.Edit e }) old new)
    edited_line name =
        weaker r (new.log.items ≡ old.log.items ++ text) (DidLine name (record { number = number; action = action.Edit e }) old new) (λ (is_logged : new.log.items ≡ old.log.items ++ text).
        did_line name (record { number = number; action = action.Edit e }) [] old new t (old.log.items ++ text) same is_logged (noted ∙ sym (append-nil old.notes)) (omega (arith, held))
        (λ d a. (after_edit (beside_session name t) d number e, (refl, refl), edited_agrees name old.session old.log.items d a stands t answer e number text ok cause err is))) logged

  module _ (l : ℕ) (logged : new.log.items ≡ old.log.items) (held : t.pass.holds ≡ old.session.pass.holds + 1) (seen : IsPrefixOf (seen_by old.session.pass) (seen_by t.pass)) (stands : ReplicaStands t.client t.pass t.unpushed) where
    -- all own entries are few
    few_own : made_in t.pass ++ t.unpushed ≡ made_in old.session.pass ++ old.session.unpushed → length old.session.unpushed ≤ 1000
    few_own own =
        let a = length-operations (made_in t.pass ++ t.unpushed) in
        let b = length-append (made_in old.session.pass) old.session.unpushed in
        let f = ap length own in
        omega (arith, a, b, f, stands.represents.issued, stands.issued)

    pub pushed_line : (count : Option ℕ) (n : ℕ) → OnOk r (new.notes ≡ old.notes ++ record { line = number; kind = kind.Pushed; length = l } ∷ []) → t ≡ record old.session { pass = t.pass; unpushed = t.unpushed } →
        made_in t.pass ++ t.unpushed ≡ made_in old.session.pass ++ old.session.unpushed → length old.session.unpushed ≡ n + length t.unpushed → n ≡ min (most_of count) (length old.session.unpushed) → l ≡ length (seen_by t.pass) →
        (name : List ℕ) → OnOk r (DidLine name (record { number = number; action = action.Push count }) old new)
    pushed_line count n noted kept own left all l_is name =
        weaker r (new.notes ≡ old.notes ++ record { line = number; kind = kind.Pushed; length = l } ∷ []) (DidLine name (record { number = number; action = action.Push count }) old new) (λ (is_noted : new.notes ≡ old.notes ++ record { line = number; kind = kind.Pushed; length = l } ∷ []).
        did_line name (record { number = number; action = action.Push count }) (record { line = number; kind = kind.Pushed; length = l } ∷ []) old new t old.log.items same logged is_noted (omega (arith, held))
        (λ d a. (
          after_push d count l,
          (l, refl, may_push name old.session t old.log.items d a count n l kept seen own left all (few_own own) stands.own l_is, refl),
          pushed_agrees name old.session t old.log.items d a count n l kept seen own left all (few_own own) stands.own l_is,
        ))) noted

    pub pulled_line : (count : Option ℕ) (n : ℕ) → OnOk r (new.notes ≡ old.notes ++ record { line = number; kind = kind.Taken; length = l } ∷ []) → t ≡ record old.session { pass = t.pass; client = t.client } → t.pass.made ≡ old.session.pass.made →
        HasTakenMore n old.session.client t.client → n ≡ min (most_of count) (length (seen_by t.pass) - old.session.client.taken) → length (seen_by t.pass) < 2 ^ 32 → l ≡ t.client.taken →
        (name : List ℕ) → OnOk r (DidLine name (record { number = number; action = action.Pull count }) old new)
    pulled_line count n noted kept made took all few l_is name =
        weaker r (new.notes ≡ old.notes ++ record { line = number; kind = kind.Taken; length = l } ∷ []) (DidLine name (record { number = number; action = action.Pull count }) old new) (λ (is_noted : new.notes ≡ old.notes ++ record { line = number; kind = kind.Taken; length = l } ∷ []).
        did_line name (record { number = number; action = action.Pull count }) (record { line = number; kind = kind.Taken; length = l } ∷ []) old new t old.log.items same logged is_noted (omega (arith, held))
        (λ d a. (
          after_pull d l,
          (l, refl, may_pull name old.session t old.log.items d a count n l kept seen made took all (omega (arith, few)) stands.own stands.represents.within l_is, refl),
          pulled_agrees name old.session t old.log.items d a count n l kept seen made took all (omega (arith, few)) stands.own stands.represents.within l_is,
        ))) noted

    pub synced_line : OnOk r (new.notes ≡ old.notes ++ record { line = number; kind = kind.Synced; length = l } ∷ []) → t ≡ record old.session { pass = t.pass; unpushed = t.unpushed; reader = t.reader } →
        made_in t.pass ++ t.unpushed ≡ made_in old.session.pass ++ old.session.unpushed → t.unpushed ≡ [] → length (seen_by t.pass) ≤ l → ((told : List Published) × IsPrefixOf told t.reader.known × (l ≡ upto_from 0 told)) →
        l ≤ upto_from 0 t.reader.known → upto_from 0 old.session.reader.known ≤ upto_from 0 t.reader.known →
        (name : List ℕ) → OnOk r (DidLine name (record { number = number; action = action.Sync }) old new)
    synced_line noted kept own none reach told later known name =
        weaker r (new.notes ≡ old.notes ++ record { line = number; kind = kind.Synced; length = l } ∷ []) (DidLine name (record { number = number; action = action.Sync }) old new) (λ (is_noted : new.notes ≡ old.notes ++ record { line = number; kind = kind.Synced; length = l } ∷ []).
        did_line name (record { number = number; action = action.Sync }) (record { line = number; kind = kind.Synced; length = l } ∷ []) old new t old.log.items same logged is_noted (omega (arith, held))
        (λ d a. (
          after_sync d l,
          (l, refl, may_sync name old.session t old.log.items d a l kept seen own none reach told later known stands.own, refl),
          synced_agrees name old.session t old.log.items d a l kept seen own none reach told later known stands.own,
        ))) noted

  pub read_line : (range : Span) (name text : List ℕ) (l : ℕ) → new.log.items ≡ old.log.items ++ text → OnOk r (new.notes ≡ old.notes ++ record { line = number; kind = kind.Read; length = l } ∷ []) →
      t ≡ record old.session { reader = t.reader; read_length = t.read_length } → t.reader.store ≡ old.session.reader.store → t.read_length ≡ upto_from 0 t.reader.known → upto_from 0 old.session.reader.known ≤ t.read_length →
      store_size old.session.reader.store ≡ old.session.client.size → l ≡ t.read_length → text ≡ range_values_text number name range t.read_length (snapshot_values (known_snapshot t.reader)) →
      OnOk r (DidLine name (record { number = number; action = action.Read range }) old new)
  read_line range name text l logged noted kept store length_is later sized l_is is =
      weaker r (new.notes ≡ old.notes ++ record { line = number; kind = kind.Read; length = l } ∷ []) (DidLine name (record { number = number; action = action.Read range }) old new) (λ (is_noted : new.notes ≡ old.notes ++ record { line = number; kind = kind.Read; length = l } ∷ []).
      did_line name (record { number = number; action = action.Read range }) (record { line = number; kind = kind.Read; length = l } ∷ []) old new t (old.log.items ++ text) same logged is_noted
      (let h = ap (λ (z : SessionOf). z.pass.holds) kept in omega (arith, h))
      (λ d a.
      subst (λ (n : ℕ). (e : Done) × DoesLine (beside_session name t) (record { number = number; action = action.Read range }) d (record { line = number; kind = kind.Read; length = n } ∷ []) e [] × Agrees e t (old.log.items ++ text)) (sym l_is) (
        after_read (beside_session name t) d number range t.read_length (snapshot_values (known_snapshot t.reader)),
        (t.read_length, snapshot_values (known_snapshot t.reader), refl, may_read name old.session t old.log.items d a kept store length_is later sized, refl),
        read_agrees name old.session t old.log.items d a kept store length_is later sized number range text is,
      ))) noted

-- what stands behind a list stands behind an equal one
pub behind : {E A : Type 0} (r : Result (Unit {0}) E) (new mid old more : List A) → mid ≡ old → OnOk r (new ≡ mid ++ more) → OnOk r (new ≡ old ++ more)
behind {E} {A} r new mid old more same is = subst (λ (xs : List A). OnOk r (new ≡ xs ++ more)) same is
