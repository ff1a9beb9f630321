-- Threads of sites: when they may begin, and what they leave.
use Rattle.std.proofs.Common.{◌≡◌, ◌≢◌, ℕ, suc, ◌+◌, ◌<◌, ◌≤◌, true, false, List, [], length, max, refl, ap, sym, ◌∙◌, subst, arith, Some, None, All}
use Rattle.std.specs.Prelude.{slice_get, get_or}
use Rattle.std.proofs.lemmas.Option.{same_Some, slice_get_within}
use Rattle.std.proofs.lemmas.List.Elements.{All-weaker}
use Rattle.ss_base.specs.declared.types.Size.{Size}
use Rattle.sheet_ops.specs.declared.operation.Entry.{Entry}
use Rattle.sheet_ops.specs.Represents.{ClientState}
use Rattle.turn_book.specs.Passes.{BookId, BookOf, PassOf, IsSamePass}
use Rattle.value_snap.specs.declared.rule.Store.{Store}
use Rattle.value_snap.specs.Stores.{PublisherOf}
use Rattle.value_snap.specs.Views.{store_size}
use Rattle.live_session.specs.Sessions.{SessionOf}
use Rattle.live_script.specs.declared.script.LiveScript.{LiveScript}
use Rattle.live_script.specs.declared.script.SiteScript.{SiteScript}
use Rattle.live_script.specs.SoFar.{IsOpened, LinesWithin}
use Rattle.live_site.specs.declared.run.SiteEnd.{SiteEnd}
use Rattle.live_site.specs.SiteRuns.{IsSiteRun}
use Rattle.recalc_loop.specs.declared.state.Finished.{Finished}
use Rattle.recalc_loop.specs.Desks.{IsDesk}
use Rattle.live_threads.specs.declared.opening.Opening.{Opening}
use Rattle.live_threads.specs.declared.threads.Begun.{Begun}
use Rattle.live_threads.specs.Threads.{hub_site_count, IsFresh, IsNewPublisher, IsOpening, IsEnd, IsRan, LeftBy, no_publisher, stores_of}
use Rattle.live_threads.specs.Begun.{Keeps, IsAtWork, MayAllBegin, MayBeginOne, AreAtWork, AreEnds, AllLeft}
use Rattle.live_threads.proofs.Lists.{all_there, all_from}

-- ---- before
-- The threads may begin over what was opened.
pub may_begin : (s : LiveScript) (o : Opening) (id : BookId) (size : Size) (sites : ℕ) (stores : ℕ → Store) → IsOpened s → IsOpening s o → id ≡ o.book.id → size ≡ s.size → sites ≡ hub_site_count s → stores ≡ stores_of o.publishers → MayAllBegin id size stores sites s o.book o.sessions
may_begin s o id size sites stores opened opens id_is size_is sites_is stores_are = record {
  book_is = sym id_is;
  as_many = opens.begun.as_many;
  few = opened.few;
  each = λ k t session at there.
      let within : k < length s.sites = slice_get_within s.sites k t at in
      let enough : k < length o.publishers = let count = opens.begun.count in omega (arith, count, within) in
      let fresh : IsFresh s.size o.book (suc k) (stores (suc k)) session = subst (λ (f : ℕ → Store). IsFresh s.size o.book (suc k) (f (suc k)) session) (sym stores_are) (opens.begun.fresh k session there) in
      record {
        book_is = sym id_is;
        from = omega arith;
        to = omega (arith, sites_is, within);
        fresh = subst (λ (z : Size). IsFresh z o.book (suc k) (stores (suc k)) session) (sym size_is) fresh;
        sized = ap (λ (f : ℕ → Store). store_size (f (suc k))) stores_are ∙ ((opens.begun.publishers k no_publisher enough).sized ∙ sym size_is);
        within = all_there (λ (x : SiteScript). LinesWithin x.lines) s.sites opened.within k t at;
      };
}

-- what new publishers are
pub all_unspent : (size : Size) (qs : List PublisherOf) → All (IsNewPublisher size) qs → All (λ (q : PublisherOf). q.spent ≡ false) qs
all_unspent size qs new = All-weaker (IsNewPublisher size) (λ (q : PublisherOf). q.spent ≡ false) (λ q is. is.unspent) qs new

pub all_unpublished : (size : Size) (qs : List PublisherOf) → All (IsNewPublisher size) qs → All (λ (q : PublisherOf). q.list ≡ []) qs
all_unpublished size qs new = All-weaker (IsNewPublisher size) (λ (q : PublisherOf). q.list ≡ []) (λ q is. is.unpublished) qs new

-- ---- after
-- each thread that was begun keeps its promise
pub all_keep : (sites : List SiteScript) (sessions : List SessionOf) (begun : List Begun) → AreAtWork sites sessions begun → All (λ (b : Begun). Keeps b.work b.running) begun
all_keep sites sessions begun work = all_from (λ (b : Begun). Keeps b.work b.running) begun (λ k b at. let (session, t, there, is, at_work) = work.each k b at in at_work.keeps)

left_by : (site : ℕ) (session : SessionOf) (t : SiteScript) (b : Begun) (e : SiteEnd) → IsAtWork site session t b → LeftBy b.work.session.value b.work.site.0 b.work.script.value e → LeftBy session site t e
left_by site session t b e work left =
    subst (λ (x : SiteScript). LeftBy session site x e) work.script_is
    (subst (λ (n : ℕ). LeftBy session n b.work.script.value e) work.site_is
    (subst (λ (x : SessionOf). LeftBy x b.work.site.0 b.work.script.value e) work.session_is left))

-- what was begun and has ended
pub all_left : (s : LiveScript) (sessions : List SessionOf) (begun : List Begun) (ends : List SiteEnd) → AreAtWork s.sites sessions begun → AreEnds begun ends → AllLeft s sessions ends
all_left s sessions begun ends work ended = record {
  as_many = ended.as_many ∙ work.as_many;
  each = λ k t e at there.
      let (b, begun_at, left) = ended.each k e there in
      let (session, x, session_at, site_at, at_work) = work.each k b begun_at in
      let same : x ≡ t = same_Some x t (sym site_at ∙ at) in
      (session, session_at, subst (λ (y : SiteScript). LeftBy session (suc k) y e) same (left_by (suc k) session x b e at_work left));
}

-- no site has left anything
pub none_left : (s : LiveScript) (sessions : List SessionOf) (ends : List SiteEnd) → sessions ≡ [] → ends ≡ [] → AllLeft s sessions ends
none_left s sessions ends none nothing = record {
  as_many = ap length nothing ∙ sym (ap length none);
  each = λ k t e at there. absurd (let clash : None ≡ Some e = sym (ap (λ (l : List SiteEnd). slice_get l k) nothing) ∙ there in cc);
}

is_end : (size : Size) (book : BookOf) (store : Store) (site : ℕ) (session : SessionOf) (t : SiteScript) (e : SiteEnd) → IsFresh size book site store session → LeftBy session site t e → IsEnd size book store site t e
is_end size book store site session t e fresh left = record {
  pass = subst (λ (p : PassOf Entry). IsSamePass p e.ended.pass) fresh.pass left.pass;
  store_is = left.store_is ∙ fresh.store_is;
  run = λ done. subst (λ (z : Size). IsSiteRun z site t e) (ap (λ (c : ClientState). c.size) fresh.client) (left.run done);
}

-- All threads of what was opened have ended.
pub is_ran : (s : LiveScript) (o : Opening) (id : BookId) (size : Size) (sites : ℕ) (stores : ℕ → Store) (ends : List SiteEnd) (desk : Finished)
    → IsOpening s o → id ≡ o.book.id → size ≡ s.size → sites ≡ hub_site_count s → stores ≡ stores_of o.publishers
    → AllLeft s o.sessions ends → IsDesk id size sites stores desk.pass desk.publishers desk.spent
    → IsRan s stores (record { book = o.book; ends = ends; idle = o.idle; desk = desk })
is_ran s o id size sites stores ends desk opens id_is size_is sites_is stores_are left kept = record {
  opening = opens.opening;
  passes = opens.passes;
  as_many = left.as_many ∙ opens.begun.as_many;
  ends = λ k t e at there.
      let (session, session_at, by) = left.each k t e at there in
      let fresh : IsFresh s.size o.book (suc k) (stores (suc k)) session = subst (λ (f : ℕ → Store). IsFresh s.size o.book (suc k) (f (suc k)) session) (sym stores_are) (opens.begun.fresh k session session_at) in
      is_end s.size o.book (stores (suc k)) (suc k) session t e fresh by;
  taken = opens.begun.taken;
  left = opens.begun.left;
  desk = subst (λ (n : ℕ). IsDesk o.book.id s.size n stores desk.pass desk.publishers desk.spent) sites_is
      (subst (λ (z : Size). IsDesk o.book.id z sites stores desk.pass desk.publishers desk.spent) size_is
      (subst (λ (i : BookId). IsDesk i size sites stores desk.pass desk.publishers desk.spent) id_is kept));
}
