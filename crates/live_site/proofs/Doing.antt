-- What a session's call does beside the history that is seen then.
use Rattle.std.proofs.Common.{◌≡◌, ℕ, ◌+◌, ◌-◌, ◌<◌, ◌≤◌, List, [], ◌∷◌, ◌++◌, length, take, refl, ap, sym, ◌∙◌, subst, arith, append_assoc, Some, None, Option, Ok, Err}
use Rattle.std.specs.Prelude.{◌≢◌, min, max, unwrap_or, Result, OnOk, OnErr, IfErr}
use Rattle.std.proofs.lemmas.List.{append-nil, length-append, take_all}
use Rattle.ss_base.specs.declared.types.Size.{Size}
use Rattle.ss_base.specs.Lists.{IsPrefixOf}
use Rattle.sheet_ops.specs.declared.edit.Edit.{Edit}
use Rattle.sheet_ops.specs.declared.edit.Edit.TheVariants as edit
use Rattle.script_read.specs.Commands.{EditWithin}
use Rattle.sheet_ops.specs.declared.edit.EditErr.{EditErr}
use Rattle.sheet_ops.specs.declared.operation.Entry.{Entry}
use Rattle.sheet_ops.specs.declared.operation.Intent.{Intent}
use Rattle.sheet_ops.specs.Fits.{IsWellFormed}
use Rattle.sheet_ops.specs.Identity.{IdSheet}
use Rattle.sheet_ops.specs.History.{own_entries, operations, view}
use Rattle.sheet_ops.proofs.Views.{own_grows, views_fresh}
use Rattle.jup_client.specs.Clients.{own_entry}
use Rattle.author_ops.specs.Edits.{intended}
use Rattle.sort_keys.specs.Keys.{keys_of, IsOrderly}
use Rattle.client_edits.specs.Decided.{unless_spent, Decides, with_operation}
use Rattle.script_run.specs.World.{at_most}
use Rattle.sheet_text.specs.Texts.{refusal_text, refusal_of, TextOf}
use Rattle.sheet_ops.specs.declared.edit.EditErr.TheVariants as fault
use Rattle.sheet_ops.specs.Placed.{placed}
use Rattle.value_snap.specs.declared.published.Published.{Published}
use Rattle.value_snap.specs.Lists.{replay_of, upto_from}
use Rattle.value_snap.proofs.Replays.{replay_length}
use Rattle.recalc_loop.specs.Standing.{snapshot_values}
use Rattle.live_session.specs.Sessions.{SessionOf, ReplicaStands}
use Rattle.turn_book.specs.Passes.{seen_by, made_in}
use Rattle.live_session.specs.Pulling.{HasTakenMore}
use Rattle.live_record.specs.Replays.{Beside, Done, own_within, decided_beside, after_push, MayNotePush, after_pull, PullsSoMany, MayNotePull, after_sync, MayNoteSync, after_edit, with_own}
use Rattle.live_site.specs.SiteRuns.{ShowsKnown}
use Rattle.live_site.specs.Lines.{Agrees, beside_session}

abbrev pub most_of : Option ℕ → ℕ
most_of count = unwrap_or count 4294967295

pub longer : (H K : List Entry) → IsPrefixOf H K → length H ≤ length K
longer H K p = let e = ap length p.1 in omega (arith, e, length-append H p.0)

own_all : (site : ℕ) (H made : List Entry) (l : ℕ) → own_entries site H ≡ made → length H ≤ l → length (own_entries site (take l H)) ≡ length made
own_all site H made l own h = ap (λ (es : List Entry). length (own_entries site es)) (take_all l H h) ∙ ap length own

-- ---- numbers
so_many : (count : Option ℕ) (n own pushed waiting : ℕ) → n ≡ min (most_of count) waiting → waiting ≤ 1000 → own ≡ pushed + waiting → at_most count (own - pushed) ≡ n
so_many None n own pushed waiting all few sum = omega arith
so_many (Some k) n own pushed waiting all few sum = omega arith

module _ (name : List ℕ) (s t : SessionOf) (log : List ℕ) (d : Done) (agrees : Agrees d s log) where
  -- ---- a push
  module _ (count : Option ℕ) (n l : ℕ) (same : t ≡ record s { pass = t.pass; unpushed = t.unpushed }) (seen : IsPrefixOf (seen_by s.pass) (seen_by t.pass)) (own : made_in t.pass ++ t.unpushed ≡ made_in s.pass ++ s.unpushed)
      (left : length s.unpushed ≡ n + length t.unpushed) (all : n ≡ min (most_of count) (length s.unpushed)) (few : length s.unpushed ≤ 1000) (mine : own_entries t.client.site (seen_by t.pass) ≡ made_in t.pass) (l_is : l ≡ length (seen_by t.pass)) where
    now_pushed : (after_push d count l).pushed ≡ length (made_in t.pass)
    now_pushed =
        let so = so_many count n (length d.own) d.pushed (length s.unpushed) all few (omega (arith, ap length agrees.own, length-append (made_in s.pass) s.unpushed, agrees.pushed)) in
        omega (arith, so, left, agrees.pushed, ap length own, length-append (made_in s.pass) s.unpushed, length-append (made_in t.pass) t.unpushed)

    pub may_push : MayNotePush (beside_session name t) d count l
    may_push = record {
      within = omega (arith, l_is);
      holds = own_all t.client.site (seen_by t.pass) (made_in t.pass) l mine (omega (arith, l_is)) ∙ sym now_pushed;
      later = omega (arith, l_is, agrees.known, longer (seen_by s.pass) (seen_by t.pass) seen);
    }

    pub pushed_agrees : Agrees (after_push d count l) t log
    pushed_agrees =
        let more = longer (seen_by s.pass) (seen_by t.pass) seen in
        record {
          own = agrees.own ∙ sym own;
          pushed = now_pushed;
          taken = agrees.taken ∙ sym (ap (λ (z : SessionOf). z.client.taken) same);
          pushed_to = omega (arith, more, agrees.pushed_to, l_is);
          known = omega (arith, more, agrees.known, l_is);
          read = subst (λ (z : SessionOf). d.read ≤ upto_from 0 z.reader.known) (sym same) agrees.read;
          log = agrees.log;
        }

  -- ---- a pull
  module _ (count : Option ℕ) (n l : ℕ) (same : t ≡ record s { pass = t.pass; client = t.client }) (seen : IsPrefixOf (seen_by s.pass) (seen_by t.pass)) (made : t.pass.made ≡ s.pass.made) (took : HasTakenMore n s.client t.client)
      (all : n ≡ min (most_of count) (length (seen_by t.pass) - s.client.taken)) (few : length (seen_by t.pass) ≤ 4294967295) (mine : own_entries t.client.site (seen_by t.pass) ≡ made_in t.pass) (within : t.client.taken ≤ length (seen_by t.pass)) (l_is : l ≡ t.client.taken) where
    same_made : made_in t.pass ≡ made_in s.pass
    same_made = λ i. made_in (record t.pass { made = made i })

    own_is : (own_within (beside_session name t) (length (seen_by t.pass))) ≡ d.pushed
    own_is = own_all t.client.site (seen_by t.pass) (made_in t.pass) (length (seen_by t.pass)) mine (omega arith) ∙ (ap length same_made ∙ sym agrees.pushed)

    pulls : (c : Option ℕ) → n ≡ min (most_of c) (length (seen_by t.pass) - s.client.taken) → PullsSoMany (beside_session name t) d c l
    pulls None most =
        let more = longer (seen_by s.pass) (seen_by t.pass) seen in
        let whole : l ≡ length (seen_by t.pass) = omega (arith, most, few, within, l_is, took.taken) in
        (omega (arith, more, whole, agrees.pushed_to), subst (λ (k : ℕ). own_within (beside_session name t) k ≡ d.pushed) (sym whole) own_is)
    pulls (Some k) most =
        let more = longer (seen_by s.pass) (seen_by t.pass) seen in
        let grows = own_grows t.client.site (seen_by t.pass) l (length (seen_by t.pass)) (omega (arith, l_is, within)) in
        (omega (arith, most, l_is, took.taken, agrees.taken), omega (arith, most, more, l_is, took.taken, agrees.taken, agrees.pushed_to, within), omega (arith, grows, own_is))

    pub may_pull : MayNotePull (beside_session name t) d count l
    may_pull = record {
      within = omega (arith, l_is, within);
      from = omega (arith, l_is, took.taken, agrees.taken);
      so_many = pulls count all;
    }

    pub pulled_agrees : Agrees (after_pull d l) t log
    pulled_agrees =
        let more = longer (seen_by s.pass) (seen_by t.pass) seen in
        record {
          own = agrees.own ∙ (λ i. sym same_made i ++ (sym same i).unpushed);
          pushed = agrees.pushed ∙ ap length (sym same_made);
          taken = l_is;
          pushed_to = omega (arith, more, agrees.pushed_to);
          known = omega (arith, more, agrees.known, l_is, within);
          read = subst (λ (z : SessionOf). d.read ≤ upto_from 0 z.reader.known) (sym same) agrees.read;
          log = agrees.log;
        }

  -- ---- a push of all, with values that reach as far
  module _ (l : ℕ) (same : t ≡ record s { pass = t.pass; unpushed = t.unpushed; reader = t.reader }) (seen : IsPrefixOf (seen_by s.pass) (seen_by t.pass)) (own : made_in t.pass ++ t.unpushed ≡ made_in s.pass ++ s.unpushed) (none : t.unpushed ≡ [])
      (reach : length (seen_by t.pass) ≤ l) (told : (told : List Published) × IsPrefixOf told t.reader.known × (l ≡ upto_from 0 told)) (later : l ≤ upto_from 0 t.reader.known) (kept : upto_from 0 s.reader.known ≤ upto_from 0 t.reader.known)
      (mine : own_entries t.client.site (seen_by t.pass) ≡ made_in t.pass) where
    all_own : d.own ≡ made_in t.pass
    all_own = agrees.own ∙ (sym own ∙ (ap (λ (w : List Entry). made_in t.pass ++ w) none ∙ append-nil (made_in t.pass)))

    pub may_sync : MayNoteSync (beside_session name t) d l
    may_sync = record {
      shown = (snapshot_values (replay_of t.client.size told.0), (told.0, told.1, replay_length t.client.size told.0 ∙ sym told.2, refl));
      holds = omega (arith, own_all t.client.site (seen_by t.pass) (made_in t.pass) l mine reach, ap length all_own);
    }

    pub synced_agrees : Agrees (after_sync d l) t log
    synced_agrees =
        let more = longer (seen_by s.pass) (seen_by t.pass) seen in
        record {
          own = agrees.own ∙ sym own;
          pushed = ap length all_own;
          taken = agrees.taken ∙ sym (ap (λ (z : SessionOf). z.client.taken) same);
          pushed_to = omega (arith, more, agrees.pushed_to);
          known = omega (arith, more, agrees.known);
          read = omega (arith, agrees.read, later, kept);
          log = agrees.log;
        }

-- ---- an edit
pub orderly : (e : Edit) → EditWithin 4096 e → IsOrderly e
orderly (edit.Set spot entry) h = omega (arith, h)
orderly (edit.Clear spot) h = tt
orderly (edit.InsRow before) h = tt
orderly (edit.InsCol before) h = tt
orderly (edit.DelRow at) h = tt
orderly (edit.DelCol at) h = tt
orderly (edit.Copy from to) h = h
orderly (edit.Sort first last col down) h = h

module _ (name : List ℕ) (s : SessionOf) (log : List ℕ) (d : Done) (agrees : Agrees d s log) (stands : ReplicaStands s.client s.pass s.unpushed) where
  abbrev sight : IdSheet
  sight = view s.client.size (seen_by s.pass) s.client.site d.taken d.own

  sees : sight ≡ view s.client.size (seen_by s.pass) s.client.site s.client.taken (made_in s.pass ++ s.unpushed)
  sees = λ i. view s.client.size (seen_by s.pass) s.client.site (agrees.taken i) (agrees.own i)

  formed : IsWellFormed sight
  formed =
      let r = stands.represents in
      subst IsWellFormed (sym sees)
      (views_fresh s.client.size stands.sites (seen_by s.pass) stands.valid s.client.site stands.from s.client.taken r.within (made_in s.pass ++ s.unpushed) r.ordered.agrees r.ordered.rises).formed

  -- what an edit comes to at the client it comes to beside the history
  decided_here : (e : Edit) (x : Result Intent EditErr) → Decides s.client e x → decided_beside (beside_session name s) d e ≡ x
  decided_here e x h =
      ap (λ (n : ℕ). unless_spent n (intended sight e (keys_of sight e))) (ap operations agrees.own ∙ sym stands.represents.issued)
      ∙ h sight formed (ap placed sees ∙ sym stands.represents.sheet)

  abbrev with_edit : Intent → SessionOf
  with_edit op = record s { client = with_operation s.client op; unpushed = s.unpushed ++ own_entry s.client op ∷ [] }

  abbrev after_answer : ℕ → Result Intent EditErr → Done
  after_answer number x = record (with_own s.client.site d x) { log = d.log ++ refusal_of number x }

  abbrev entry_at : Intent → ℕ → Entry
  entry_at op taken = record { site = record { 0 = s.client.site }; seen = taken; intent = op }

  done_own : (op : Intent) → d.own ++ entry_at op d.taken ∷ [] ≡ (made_in s.pass ++ s.unpushed) ++ entry_at op s.client.taken ∷ []
  done_own op = λ i. agrees.own i ++ entry_at op (agrees.taken i) ∷ []

  done_agrees : (op : Intent) (number : ℕ) → Agrees (after_answer number (Ok op)) (with_edit op) (log ++ [])
  done_agrees op number = record {
    own = done_own op ∙ append_assoc (made_in s.pass) s.unpushed (own_entry s.client op ∷ []);
    pushed = agrees.pushed;
    taken = agrees.taken;
    pushed_to = agrees.pushed_to;
    known = agrees.known;
    read = agrees.read;
    log = ap (λ (l : List ℕ). l ++ []) agrees.log;
  }

  refused_agrees : (x : EditErr) (number : ℕ) → Agrees (after_answer number (Err x)) s (log ++ refusal_text number x)
  refused_agrees x number = record {
    own = agrees.own;
    pushed = agrees.pushed;
    taken = agrees.taken;
    pushed_to = agrees.pushed_to;
    known = agrees.known;
    read = agrees.read;
    log = ap (λ (l : List ℕ). l ++ refusal_text number x) agrees.log;
  }

  pub edited_agrees : (t : SessionOf) (answer : Result (Unit {0}) EditErr) (e : Edit) (number : ℕ) (text : List ℕ) →
      OnOk answer ((op : Intent) × Decides s.client e (Ok op) × (t ≡ with_edit op)) →
      IfErr answer (λ (x : EditErr). x ≢ fault.Memory → Decides s.client e (Err x)) →
      OnErr answer (t ≡ s) → TextOf answer number text → Agrees (after_edit (beside_session name t) d number e) t (log ++ text)
  edited_agrees t (Ok u) e number text ok cause err is =
      subst (λ (z : SessionOf). Agrees (after_edit (beside_session name z) d number e) z (log ++ text)) (sym ok.2)
      (subst (λ (l : List ℕ). Agrees (after_edit (beside_session name s) d number e) (with_edit ok.0) (log ++ l)) (sym is)
      (subst (λ (x : Result Intent EditErr). Agrees (after_answer number x) (with_edit ok.0) (log ++ [])) (sym (decided_here e (Ok ok.0) ok.1)) (done_agrees ok.0 number)))
  edited_agrees t (Err x) e number text ok cause err is =
      subst (λ (z : SessionOf). Agrees (after_edit (beside_session name z) d number e) z (log ++ text)) (sym err)
      (subst (λ (l : List ℕ). Agrees (after_edit (beside_session name s) d number e) s (log ++ l)) (sym is.1)
      (subst (λ (r : Result Intent EditErr). Agrees (after_answer number r) s (log ++ refusal_text number x)) (sym (decided_here e (Err x) (cause is.0))) (refused_agrees x number)))
