-- How a session goes on, and lines one after another.
use Rattle.std.proofs.Common.{◌≡◌, ℕ, suc, ◌+◌, ◌<◌, ◌≤◌, Bool, true, false, List, [], ◌∷◌, ◌++◌, length, take, get_or, refl, ap, sym, ◌∙◌, subst, arith, append_assoc, Ok, Err}
use Rattle.std.specs.Prelude.{Result, IfOk, OnOk, OnErr, min, ◌&&◌, is_ok, All}
use Rattle.std.proofs.lemmas.List.{append-nil, length-append}
use Rattle.std.proofs.lemmas.Grind.{take_at_read}
use Rattle.std.proofs.lemmas.List.Elements.{All-get_or}
use Rattle.ss_base.specs.declared.types.Size.{Size}
use Rattle.ss_base.specs.Lists.{IsPrefixOf}
use Rattle.sheet_value.specs.Tables.{Table}
use Rattle.value_snap.specs.declared.published.Published.{Published}
use Rattle.turn_book.specs.Passes.{PassOf, IsSamePass, seen_by, made_in}
use Rattle.sheet_ops.specs.declared.edit.Edit.{Edit}
use Rattle.sheet_ops.specs.declared.edit.EditErr.{EditErr}
use Rattle.sheet_ops.specs.declared.operation.Intent.{Intent}
use Rattle.sheet_ops.specs.History.{operations}
use Rattle.sheet_ops.specs.Represents.{ClientState}
use Rattle.sheet_ops.proofs.Lengths.{length-operations}
use Rattle.jup_client.specs.Clients.{own_entry}
use Rattle.client_edits.specs.Decided.{Decides, with_operation}
use Rattle.live_session.specs.Pulling.{HasTakenMore}
use Rattle.live_session.specs.Sessions.{SessionOf, ReplicaStands}
use Rattle.sheet_ops.specs.declared.operation.Entry.{Entry}
use Rattle.value_snap.specs.Stores.{ReaderOf}
use Rattle.live_script.specs.declared.script.SiteScript.{SiteScript}
use Rattle.live_site.specs.declared.run.SiteEnd.{SiteEnd}
use Rattle.live_script.specs.declared.script.SiteLine.{SiteLine}
use Rattle.live_record.specs.declared.note.Note.{Note}
use Rattle.live_record.specs.declared.note.NoteKind.TheVariants as kind
use Rattle.live_record.specs.Replays.{Done, nothing_done, Does}
use Rattle.live_record.proofs.Later.{does_later, does_then}
use Rattle.live_site.specs.declared.work.Work.{Work}
use Rattle.live_site.specs.SiteRuns.{ShowsKnown, beside_seen, is_hold, holds_noted, IsSiteRun}
use Rattle.live_site.specs.Lines.{SessionGoesOn, Agrees, beside_session, DidLine, DidAll, IsNewSession}

-- ---- beginnings
pub prefix_same : {A : Type 0} (xs ys : List A) → xs ≡ ys → IsPrefixOf xs ys
prefix_same xs ys e = ([], append-nil xs ∙ e)

pub prefix_trans : {A : Type 0} (xs ys zs : List A) → IsPrefixOf xs ys → IsPrefixOf ys zs → IsPrefixOf xs zs
prefix_trans {A} xs ys zs p q = (p.0 ++ q.0, sym (append_assoc xs p.0 q.0) ∙ (ap (λ (l : List A). l ++ q.0) p.1 ∙ q.1))

-- ---- sessions
pub goes_nowhere : (s t : SessionOf) → t ≡ s → SessionGoesOn s t
goes_nowhere s t e = record {
  pass = record { book = ap (λ (z : SessionOf). z.pass.book) e; number = ap (λ (z : SessionOf). z.pass.number) e; opening = ap (λ (z : SessionOf). z.pass.opening) e };
  seen = prefix_same _ _ (sym (ap (λ (z : SessionOf). seen_by z.pass) e));
  site = ap (λ (z : SessionOf). z.client.site) e;
  size = ap (λ (z : SessionOf). z.client.size) e;
  store = ap (λ (z : SessionOf). z.reader.store) e;
  known = prefix_same _ _ (sym (ap (λ (z : SessionOf). z.reader.known) e));
}

pub goes_further : (s t u : SessionOf) → SessionGoesOn s t → SessionGoesOn t u → SessionGoesOn s u
goes_further s t u a b = record {
  pass = record { book = b.pass.book ∙ a.pass.book; number = b.pass.number ∙ a.pass.number; opening = b.pass.opening ∙ a.pass.opening };
  seen = prefix_trans (seen_by s.pass) (seen_by t.pass) (seen_by u.pass) a.seen b.seen;
  site = b.site ∙ a.site;
  size = b.size ∙ a.size;
  store = b.store ∙ a.store;
  known = prefix_trans s.reader.known t.reader.known u.reader.known a.known b.known;
}

-- the same replica, over the same pass
pub goes_by : (s t : SessionOf) → IsSamePass s.pass t.pass → IsPrefixOf (seen_by s.pass) (seen_by t.pass) → t.client.site ≡ s.client.site → t.client.size ≡ s.client.size → t.reader ≡ s.reader → SessionGoesOn s t
goes_by s t pass seen site size reader = record {
  pass = pass;
  seen = seen;
  site = site;
  size = size;
  store = λ i. (reader i).store;
  known = prefix_same s.reader.known t.reader.known (λ i. (sym reader i).known);
}

module _ (s t : SessionOf) where
  pub push_goes : t ≡ record s { pass = t.pass; unpushed = t.unpushed } → IsSamePass s.pass t.pass → IsPrefixOf (seen_by s.pass) (seen_by t.pass) → SessionGoesOn s t
  push_goes same pass seen = goes_by s t pass seen (ap (λ (z : SessionOf). z.client.site) same) (ap (λ (z : SessionOf). z.client.size) same) (ap (λ (z : SessionOf). z.reader) same)

  pub end_goes : t ≡ record s { pass = t.pass } → IsSamePass s.pass t.pass → IsPrefixOf (seen_by s.pass) (seen_by t.pass) → SessionGoesOn s t
  end_goes same pass seen = goes_by s t pass seen (ap (λ (z : SessionOf). z.client.site) same) (ap (λ (z : SessionOf). z.client.size) same) (ap (λ (z : SessionOf). z.reader) same)

  pub pull_goes : (n : ℕ) → HasTakenMore n s.client t.client → t ≡ record s { pass = t.pass; client = t.client } → IsSamePass s.pass t.pass → IsPrefixOf (seen_by s.pass) (seen_by t.pass) → SessionGoesOn s t
  pull_goes n took same pass seen = goes_by s t pass seen took.site took.size (ap (λ (z : SessionOf). z.reader) same)

  pub sync_goes : t ≡ record s { pass = t.pass; unpushed = t.unpushed; reader = t.reader } → IsSamePass s.pass t.pass → IsPrefixOf (seen_by s.pass) (seen_by t.pass) → t.reader.store ≡ s.reader.store → IsPrefixOf s.reader.known t.reader.known → SessionGoesOn s t
  sync_goes same pass seen store known = record {
    pass = pass;
    seen = seen;
    site = ap (λ (z : SessionOf). z.client.site) same;
    size = ap (λ (z : SessionOf). z.client.size) same;
    store = store;
    known = known;
  }

  pub read_goes : t ≡ record s { reader = t.reader; read_length = t.read_length } → t.reader.store ≡ s.reader.store → IsPrefixOf s.reader.known t.reader.known → SessionGoesOn s t
  read_goes same store known = record {
    pass = record { book = ap (λ (z : SessionOf). z.pass.book) same; number = ap (λ (z : SessionOf). z.pass.number) same; opening = ap (λ (z : SessionOf). z.pass.opening) same };
    seen = prefix_same (seen_by s.pass) (seen_by t.pass) (sym (ap (λ (z : SessionOf). seen_by z.pass) same));
    site = ap (λ (z : SessionOf). z.client.site) same;
    size = ap (λ (z : SessionOf). z.client.size) same;
    store = store;
    known = known;
  }

  edited : (c : ClientState) (w : List Entry) → c.site ≡ s.client.site → c.size ≡ s.client.size → t ≡ record s { client = c; unpushed = w } → SessionGoesOn s t
  edited c w site size same = record {
    pass = record { book = ap (λ (z : SessionOf). z.pass.book) same; number = ap (λ (z : SessionOf). z.pass.number) same; opening = ap (λ (z : SessionOf). z.pass.opening) same };
    seen = prefix_same (seen_by s.pass) (seen_by t.pass) (sym (ap (λ (z : SessionOf). seen_by z.pass) same));
    site = ap (λ (z : SessionOf). z.client.site) same ∙ site;
    size = ap (λ (z : SessionOf). z.client.size) same ∙ size;
    store = ap (λ (z : SessionOf). z.reader.store) same;
    known = prefix_same s.reader.known t.reader.known (sym (ap (λ (z : SessionOf). z.reader.known) same));
  }

  pub edit_goes : (answer : Result (Unit {0}) EditErr) (e : Edit) →
      OnOk answer ((op : Intent) × Decides s.client e (Ok op) × (t ≡ record s { client = with_operation s.client op; unpushed = s.unpushed ++ own_entry s.client op ∷ [] })) → OnErr answer (t ≡ s) → SessionGoesOn s t
  edit_goes (Ok u) e ok err = edited (with_operation s.client ok.0) (s.unpushed ++ own_entry s.client ok.0 ∷ []) refl refl ok.2
  edit_goes (Err x) e ok err = goes_nowhere s t err

  pub edit_holds : (answer : Result (Unit {0}) EditErr) (e : Edit) →
      OnOk answer ((op : Intent) × Decides s.client e (Ok op) × (t ≡ record s { client = with_operation s.client op; unpushed = s.unpushed ++ own_entry s.client op ∷ [] })) → OnErr answer (t ≡ s) → s.pass.holds ≤ t.pass.holds
  edit_holds (Ok u) e ok err = let h = ap (λ (z : SessionOf). z.pass.holds) ok.2 in omega (arith, h)
  edit_holds (Err x) e ok err = let h = ap (λ (z : SessionOf). z.pass.holds) err in omega (arith, h)

  -- a push of all leaves nothing
  pub all_left : {E : Type 0} (r : Result ℕ E) → ReplicaStands s.client s.pass s.unpushed → IfOk r (λ (n : ℕ). length s.unpushed ≡ n + length t.unpushed) → IfOk r (λ (n : ℕ). n ≡ min 4294967295 (length s.unpushed)) → OnOk r (t.unpushed ≡ [])
  all_left (Ok n) stands count all =
      let a = length-operations (made_in s.pass ++ s.unpushed) in
      let b = length-append (made_in s.pass) s.unpushed in
      let none : length t.unpushed ≡ 0 = omega (arith, a, b, stands.represents.issued, stands.issued, count, all) in
      empty t.unpushed none
    where
      empty : (xs : List Entry) → length xs ≡ 0 → xs ≡ []
      empty [] e = refl
      empty (x ∷ xs) e = absurd (omega (arith, e))
  all_left (Err x) stands count all = tt

-- the end of a site leaves what waits
pub left_by_end : {E : Type 0} (t u : SessionOf) (r : Result ℕ E) → u ≡ record t { pass = u.pass } → OnOk r (t.unpushed ≡ []) → OnOk r (u.unpushed ≡ [])
left_by_end t u (Ok n) same none = ap (λ (z : SessionOf). z.unpushed) same ∙ none
left_by_end t u (Err x) same none = tt

-- it goes on to an equal session
pub session_at : (s t : SessionOf) → t ≡ s → (u : SessionOf) → SessionGoesOn u s → SessionGoesOn u t
session_at s t same u g = subst (SessionGoesOn u) (sym same) g

-- ---- notes
holds_more : (ns ms : List Note) → holds_noted (ns ++ ms) ≡ holds_noted ns + holds_noted ms
holds_more [] ms = omega arith
holds_more (n ∷ ns) ms = by_kind (is_hold n.kind) refl (holds_more ns ms)
  where
    by_kind : (b : Bool) → is_hold n.kind ≡ b → holds_noted (ns ++ ms) ≡ holds_noted ns + holds_noted ms → holds_noted (n ∷ (ns ++ ms)) ≡ holds_noted (n ∷ ns) + holds_noted ms
    by_kind true e rest = simp e (omega (arith, rest))
    by_kind false e rest = simp e rest

-- ---- lines
-- what may be read of a list may be read of a longer one
shows_more : (size : Size) (known more : List Published) → IsPrefixOf known more → (l : ℕ) (T : Table) → ShowsKnown size known l T → ShowsKnown size more l T
shows_more size known more p l T (L, front, length_is, values) = (L, prefix_trans L known more front p, length_is, values)

pub does_on : (name : List ℕ) (s t : SessionOf) (lines : List SiteLine) (notes : List Note) (end : Done) → SessionGoesOn s t → Does (beside_session name s) lines nothing_done notes end → Does (beside_session name t) lines nothing_done notes end
does_on name s t lines notes end g does =
    let here : Does (beside_seen s.client.size s.client.site name t.pass t.reader.known) lines nothing_done notes end =
    does_later (beside_session name s) (seen_by t.pass) (ShowsKnown s.client.size t.reader.known) g.seen (shows_more s.client.size s.reader.known t.reader.known g.known) lines notes end does in
    subst (λ (z : Size). Does (beside_seen z t.client.site name t.pass t.reader.known) lines nothing_done notes end) (sym g.size)
    (subst (λ (n : ℕ). Does (beside_seen s.client.size n name t.pass t.reader.known) lines nothing_done notes end) (sym g.site) here)

pub nothing_did : (name : List ℕ) (work : Work) → work.notes ≡ [] → work.log.items ≡ [] → IsNewSession work.session → DidAll name [] work
nothing_did name work notes log new =
    let made : made_in work.session.pass ≡ [] = λ i. made_in (record work.session.pass { made = new.made i }) in
    record {
      done = nothing_done;
      does = (notes, refl);
      agrees = record {
        own = sym ((λ i. made i ++ new.unpushed i));
        pushed = ap length (sym made);
        taken = sym new.taken;
        pushed_to = omega arith;
        known = omega arith;
        read = omega arith;
        log = sym log;
      };
      holds = let none : holds_noted work.notes ≡ 0 = ap holds_noted notes in omega (arith, none);
    }

pub one_more : (name : List ℕ) (lines : List SiteLine) (line : SiteLine) (old new : Work) → DidAll name lines old → DidLine name line old new → SessionGoesOn old.session new.session → DidAll name (lines ++ line ∷ []) new
one_more name lines line old new all one on =
    let last = one.does all.done all.agrees in
    record {
      done = last.0;
      does = subst (λ (ns : List Note). Does (beside_session name new.session) (lines ++ line ∷ []) nothing_done ns last.0) (sym one.notes)
          (does_then (beside_session name new.session) one.made lines line nothing_done all.done last.0 old.notes (does_on name old.session new.session lines old.notes all.done on all.does) last.1);
      agrees = last.2;
      holds = let sum = ap holds_noted one.notes ∙ holds_more old.notes one.made in omega (arith, sum, one.holds, all.holds);
    }

-- one element more of a list that is gone through
pub one_taken : {A : Type 0} (xs : List A) (i : ℕ) (x : A) → x ≡ get_or xs i x → i < length xs → take i xs ++ x ∷ [] ≡ take (i + 1) xs
one_taken {A} xs i x is within = ap (λ (y : A). take i xs ++ y ∷ []) is ∙ sym (take_at_read xs i x within).1

pub at_taken : {A : Type 0} (P : A → Type 0) (xs : List A) (i : ℕ) (x : A) → x ≡ get_or xs i x → i < length xs → All P xs → P x
at_taken P xs i x is within all = subst P (sym is) (All-get_or P xs i x within all)

pub both_ok : {E F : Type 0} (a : Result (Unit {0}) E) (b : Result ℕ F) (P Q : Type 0) → (is_ok a && is_ok b) ≡ true → OnOk a P → OnOk b Q → P × Q
both_ok (Ok u) (Ok n) P Q e p q = (p, q)
both_ok (Ok u) (Err y) P Q e p q = absurd (cc)
both_ok (Err x) b P Q e p q = absurd (cc)

-- ---- the end of all lines
module _ (s : SiteScript) (w : Work) (t : SessionOf) (end : SiteEnd) (all : DidAll s.name s.lines w) (on : SessionGoesOn w.session t) (same : t ≡ record w.session { pass = t.pass; unpushed = t.unpushed })
    (held : w.session.pass.holds ≤ t.pass.holds) (own : made_in t.pass ++ t.unpushed ≡ made_in w.session.pass ++ w.session.unpushed) (none : t.unpushed ≡ [])
    (client : end.ended.client ≡ t.client) (pass : end.ended.pass ≡ t.pass) (reader : end.ended.reader ≡ t.reader) (stands : ReplicaStands end.ended.client end.ended.pass t.unpushed) (notes : end.notes ≡ w.notes) (log : end.log ≡ w.log.items) where
  does_seen : Does (beside_session s.name t) s.lines nothing_done w.notes all.done
  does_seen = does_on s.name w.session t s.lines w.notes all.done on all.does

  does_end : (size : Size) (site : ℕ) → t.client.size ≡ size → t.client.site ≡ site → Does (beside_seen size site s.name end.ended.pass end.ended.reader.known) s.lines nothing_done end.notes all.done
  does_end size site sized number =
      subst (λ (z : Size). Does (beside_seen z site s.name end.ended.pass end.ended.reader.known) s.lines nothing_done end.notes all.done) sized
      (subst (λ (n : ℕ). Does (beside_seen t.client.size n s.name end.ended.pass end.ended.reader.known) s.lines nothing_done end.notes all.done) number
      (subst (λ (p : PassOf Entry). Does (beside_seen t.client.size t.client.site s.name p end.ended.reader.known) s.lines nothing_done end.notes all.done) (sym pass)
      (subst (λ (r : ReaderOf). Does (beside_seen t.client.size t.client.site s.name t.pass r.known) s.lines nothing_done end.notes all.done) (sym reader)
      (subst (λ (ns : List Note). Does (beside_seen t.client.size t.client.site s.name t.pass t.reader.known) s.lines nothing_done ns all.done) (sym notes) does_seen))))

  pub site_run : (size : Size) (site : ℕ) → t.client.size ≡ size → t.client.site ≡ site → IsSiteRun size site s end
  site_run size site sized number = record {
    done = all.done;
    does = does_end size site sized number;
    own = all.agrees.own ∙ (sym own ∙ ((λ i. made_in t.pass ++ none i) ∙ (append-nil (made_in t.pass) ∙ (λ i. made_in (sym pass i)))));
    log = all.agrees.log ∙ sym log;
    holds = let n = ap holds_noted notes in let h = ap (λ (p : PassOf Entry). p.holds) pass in omega (arith, n, h, held, all.holds);
    stands = subst (λ (w : List Entry). ReplicaStands end.ended.client end.ended.pass w) none stands;
  }
