-- What a site's lines leave of its session.
use Rattle.std.specs.Prelude.{ℕ, ◌≡◌, ◌≤◌, ◌+◌, List, [], ◌++◌, length}
use Rattle.ss_base.specs.Lists.{IsPrefixOf}
use Rattle.value_snap.specs.Lists.{upto_from}
use Rattle.turn_book.specs.Passes.{IsSamePass, seen_by, made_in}
use Rattle.live_session.specs.Sessions.{SessionOf}
use Rattle.live_script.specs.declared.script.SiteLine.{SiteLine}
use Rattle.live_record.specs.declared.note.Note.{Note}
use Rattle.live_record.specs.Replays.{Beside, Done, nothing_done, DoesLine, Does}
use Rattle.live_site.specs.declared.work.Work.{Work}
use Rattle.live_site.specs.SiteRuns.{beside_seen, holds_noted}

-- the pass, the client and the store are the same, and no less of the history and of what was published is known
pub record SessionGoesOn (old new : SessionOf) : Type 0 where
  pub pass : IsSamePass old.pass new.pass
  pub seen : IsPrefixOf (seen_by old.pass) (seen_by new.pass)
  pub site : new.client.site ≡ old.client.site
  pub size : new.client.size ≡ old.client.size
  pub store : new.reader.store ≡ old.reader.store
  pub known : IsPrefixOf old.reader.known new.reader.known

-- what a site has done is what its session has, and no length that was noted is above what the session knows
pub record Agrees (d : Done) (s : SessionOf) (logged : List ℕ) : Type 0 where
  pub own : d.own ≡ made_in s.pass ++ s.unpushed
  pub pushed : d.pushed ≡ length (made_in s.pass)
  pub taken : d.taken ≡ s.client.taken
  pub pushed_to : d.pushed_to ≤ length (seen_by s.pass)
  pub known : d.known ≤ length (seen_by s.pass)
  pub read : d.read ≤ upto_from 0 s.reader.known
  pub log : d.log ≡ logged

abbrev pub beside_session : List ℕ → SessionOf → Beside
beside_session name s = beside_seen s.client.size s.client.site name s.pass s.reader.known

-- One line was done beside what the session knows then, whatever was done before. These are its notes, and it had the hub at
-- least once for each that is of a push or a pull.
pub record DidLine (name : List ℕ) (line : SiteLine) (old new : Work) : Type 0 where
  pub made : List Note
  pub notes : new.notes ≡ old.notes ++ made
  pub holds : holds_noted made + old.session.pass.holds ≤ new.session.pass.holds
  pub does : (d : Done) → Agrees d old.session old.log.items → (e : Done) × DoesLine (beside_session name new.session) line d made e [] × Agrees e new.session new.log.items

-- all of these lines were done, from the first one on
pub record DidAll (name : List ℕ) (lines : List SiteLine) (work : Work) : Type 0 where
  pub done : Done
  pub does : Does (beside_session name work.session) lines nothing_done work.notes done
  pub agrees : Agrees done work.session work.log.items
  pub holds : holds_noted work.notes ≤ work.session.pass.holds

-- a session that has done nothing
pub record IsNewSession (s : SessionOf) : Type 0 where
  pub seen : s.pass.seen ≡ []
  pub made : s.pass.made ≡ []
  pub unpushed : s.unpushed ≡ []
  pub taken : s.client.taken ≡ 0
