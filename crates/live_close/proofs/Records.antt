-- The record of a run, by what its threads left.
use Rattle.std.proofs.Common.{◌≡◌, ℕ, suc, ◌+◌, ◌<◌, ◌≤◌, List, [], ◌∷◌, ◌++◌, length, map, All, refl, ap, sym, ◌∙◌, subst, arith, inl, inr, Option, Some, None, true, nat_eq}
use Rattle.std.specs.Prelude.{◌⊎◌, ◌≢◌, max, slice_get, Contains, IsPermutation, option_to_list, reverse}
use Rattle.std.specs.List.{range_with_len}
use Rattle.std.proofs.lemmas.List.{append-nil, length-map, length-reverse, reverse-reverse}
use Rattle.std.proofs.lemmas.List.Elements.{All-append, All-cons, All-nil}
use Rattle.std.proofs.lemmas.List.Sorted.{IsPermutation-refl}
use Rattle.ss_base.specs.declared.types.Size.{Size}
use Rattle.ss_base.specs.Lists.{IsPrefixOf}
use Rattle.sheet_ops.specs.declared.operation.Entry.{Entry}
use Rattle.sheet_ops.specs.History.{own_entries, EachFollows, IsValidHistory}
use Rattle.sheet_ops.specs.Represents.{ClientState, ClientRepresents, ServerState, ServerRepresents}
use Rattle.sheet_ops.proofs.Counts.{own_reverse}
use Rattle.sheet_text.specs.Operations.{IntentWithin}
use Rattle.sheet_text.proofs.Within.{entries_within}
use Rattle.turn_book.specs.declared.kept.Made.{Made}
use Rattle.turn_book.specs.Entries.{made_by}
use Rattle.turn_book.specs.Passes.{BookOf, PassOf, ClosedOf, new_pass, IsSamePass, AreOf, AreAll, seen_by, made_in}
use Rattle.value_snap.specs.declared.published.Published.TheVariants.{End}
use Rattle.value_snap.specs.Stores.{PublisherOf}
use Rattle.hub.specs.Hubs.{HubOf, opening_of}
use Rattle.hub.specs.BookEntries.{book_entries}
use Rattle.live_session.specs.Pushing.{Finds, StandsIn}
use Rattle.live_session.proofs.Holding.{same_size, same_sites, seen_begins, own_found, stands_found}
use Rattle.live_script.specs.SoFar.{IsOpened}
use Rattle.live_script.specs.declared.script.LiveScript.{LiveScript}
use Rattle.live_script.specs.declared.script.SiteScript.{SiteScript}
use Rattle.live_record.specs.declared.note.Note.{Note}
use Rattle.live_record.specs.Replays.{Beside, nothing_done}
use Rattle.live_record.specs.Records.{ShowsPrefix, SiteHolds, HasTakenAll, AllHaveAll}
use Rattle.live_record.proofs.Later.{does_later}
use Rattle.live_record.proofs.Sites.{sites_hold}
use Rattle.live_site.specs.declared.run.SiteEnd.{SiteEnd}
use Rattle.live_site.specs.SiteRuns.{IsSiteRun, holds_noted, beside_seen}
use Rattle.recalc_loop.specs.Standing.{EachStands}
use Rattle.live_threads.specs.Threads.{hub_site_count}
use Rattle.live_close.specs.declared.agreeing.Parts.{Parts}
use Rattle.live_close.specs.Recorded.{IsOfValues, IsRecordOf}
use Rattle.live_close.specs.Parts.{parts_of, all_passes, IsDone, AreDone}
use Rattle.live_close.specs.Closing.{IsClosedBy, MayTakeRest, HaveTakenRest}
use Rattle.live_close.proofs.Lists.{all_there, all_from, contains_there, there_append, there_last, got, got_map, map_there, map_twice, within_there, begins_itself, some_same}
use Rattle.live_close.proofs.Shows.{known_shows, shows_later, noted_shown}

-- ---- a site that is done
pub site_done : (size : Size) (site : ℕ) (t : SiteScript) (e : SiteEnd) (q : PublisherOf) (H : List Entry) → IsSiteRun size site t e → EachStands size q.list H → IsPrefixOf e.ended.reader.known (q.list ++ End ∷ []) → IsDone size H site t e
site_done size site t e q H run stands begins = record {
  done = run.done;
  does = does_later (beside_seen size site t.name e.ended.pass e.ended.reader.known) (seen_by e.ended.pass) (ShowsPrefix size H) (begins_itself (seen_by e.ended.pass))
      (known_shows size H q.list e.ended.reader.known stands begins) t.lines e.notes run.done run.does;
  own = run.own;
  log = run.log;
  holds = run.holds;
  stands = run.stands;
}

-- ---- a hub for one site that made nothing
no_entries : (size : Size) (L : List Entry) → EachFollows size 1 L → own_entries 1 (reverse L) ≡ [] → L ≡ []
no_entries size [] valid none = refl
no_entries size (e ∷ L) (follows, valid) none =
    let one : e.site.0 ≡ 1 = let from = follows.from in let to = follows.to in omega (arith, from, to) in
    let mine : nat_eq e.site.0 1 ≡ true = ap (λ (n : ℕ). nat_eq n 1) one in
    let some : 1 ≤ length (own_entries 1 (e ∷ L)) = simp mine (omega arith) in
    let long : length (own_entries 1 (e ∷ L)) ≡ 0 = sym (length-reverse (own_entries 1 (e ∷ L))) ∙ ap length (sym (own_reverse 1 (e ∷ L)) ∙ none) in
    absurd (omega (arith, some, long))

no_history : (size : Size) (H : List Entry) → IsValidHistory size 1 H → own_entries 1 H ≡ [] → H ≡ []
no_history size H valid none =
    sym (reverse-reverse H) ∙ ap (λ (l : List Entry). reverse l) (no_entries size (reverse H) valid (ap (own_entries 1) (reverse-reverse H) ∙ none))

-- the hub is for as many sites as are declared, or for one
count_some : (sites : List SiteScript) → sites ≢ [] → max 1 (length sites) ≡ length sites
count_some [] some = absurd (some refl)
count_some (t ∷ sites) some = omega arith

-- ---- the passes
numbers_from : (first : ℕ) (ends : List SiteEnd) → ((k : ℕ) (e : SiteEnd) → slice_get ends k ≡ Some e → e.ended.pass.number ≡ first + k) → map (λ (p : PassOf Entry). p.number) (map (λ (e : SiteEnd). e.ended.pass) ends) ≡ range_with_len first (length ends)
numbers_from first [] each = refl
numbers_from first (e ∷ ends) each =
    let head : e.ended.pass.number ≡ first = let h = each 0 e refl in omega (arith, h) in
    let rest = numbers_from (first + 1) ends (λ k x there. let h = each (suc k) x there in omega (arith, h)) in
    (λ i. head i ∷ rest i)

module _ (s : LiveScript) (book : BookOf) (desk : PassOf Entry) (ends : List SiteEnd) (idle : Option (PassOf Entry)) (done : AreDone s book desk ends idle) where
  abbrev passes : List (PassOf Entry)
  passes = all_passes desk ends idle

  -- where each pass stands
  desk_there : slice_get passes 0 ≡ Some desk
  desk_there = refl

  site_there : (k : ℕ) (e : SiteEnd) → slice_get ends k ≡ Some e → slice_get passes (suc k) ≡ Some e.ended.pass
  site_there k e at = there_append (map (λ (x : SiteEnd). x.ended.pass) ends) (option_to_list idle) k e.ended.pass (map_there (λ (x : SiteEnd). x.ended.pass) ends k e at)

  idle_there : (p : PassOf Entry) → idle ≡ Some p → slice_get passes (suc (length ends)) ≡ Some p
  idle_there p is =
      let here = there_last (map (λ (x : SiteEnd). x.ended.pass) ends) p in
      let long : length (map (λ (x : SiteEnd). x.ended.pass) ends) ≡ length ends = length-map ends (λ (x : SiteEnd). x.ended.pass) in
      subst (λ (n : ℕ). slice_get (map (λ (x : SiteEnd). x.ended.pass) ends ++ option_to_list idle) n ≡ Some p) long
      (subst (λ (o : Option (PassOf Entry)). slice_get (map (λ (x : SiteEnd). x.ended.pass) ends ++ option_to_list o) (length (map (λ (x : SiteEnd). x.ended.pass) ends)) ≡ Some p) (sym is) here)

  -- each is of this book
  idle_case : (o : Option (PassOf Entry)) → (s.sites ≢ [] → o ≡ None) → (s.sites ≡ [] → o ≡ Some (new_pass book 1)) → (sites : List SiteScript) → s.sites ≡ sites → ((o ≡ None) × (0 < length sites)) ⊎ ((o ≡ Some (new_pass book 1)) × (length sites ≡ 0))
  idle_case o taken left [] is = inr (left is, refl)
  idle_case o taken left (t ∷ sites) is = inl (taken (λ none. none_left (sym is ∙ none)), omega arith)
    where
      none_left : t ∷ sites ≡ [] → ⊥
      none_left e = absurd (cc (e))

  numbers : map (λ (p : PassOf Entry). p.number) passes ≡ range_with_len 0 book.passes
  numbers = by_idle (idle_case idle done.taken done.left s.sites refl)
    where
      heads : desk.number ≡ 0
      heads = done.desk_pass.number

      sites_numbers : map (λ (p : PassOf Entry). p.number) (map (λ (e : SiteEnd). e.ended.pass) ends) ≡ range_with_len 1 (length ends)
      sites_numbers = numbers_from 1 ends (λ k e at. let h = (done.own k e at).number in omega (arith, h))

      by_idle : ((idle ≡ None) × (0 < length s.sites)) ⊎ ((idle ≡ Some (new_pass book 1)) × (length s.sites ≡ 0)) → map (λ (p : PassOf Entry). p.number) passes ≡ range_with_len 0 book.passes
      by_idle (inl (none, some)) =
          let count : book.passes ≡ suc (length ends) = let b = done.passes in let m = done.as_many in omega (arith, b, m, some) in
          let end : passes ≡ desk ∷ map (λ (e : SiteEnd). e.ended.pass) ends = ap (λ (o : Option (PassOf Entry)). all_passes desk ends o) none ∙ append-nil (desk ∷ map (λ (e : SiteEnd). e.ended.pass) ends) in
          ap (λ (ps : List (PassOf Entry)). map (λ (p : PassOf Entry). p.number) ps) end ∙ ((λ i. heads i ∷ sites_numbers i) ∙ ap (range_with_len 0) (sym count))
      by_idle (inr (only, none)) =
          let count : book.passes ≡ 2 = let b = done.passes in omega (arith, b, none) in
          let empty : ends ≡ [] = nothing ends (let m = done.as_many in omega (arith, m, none)) in
          (λ i. map (λ (p : PassOf Entry). p.number) (all_passes desk (empty i) (only i))) ∙ ((λ i. heads i ∷ (1 ∷ [])) ∙ ap (range_with_len 0) (sym count))
        where
          nothing : (xs : List SiteEnd) → length xs ≡ 0 → xs ≡ []
          nothing [] e = refl
          nothing (x ∷ xs) e = absurd (omega (arith, e))

  pub logs_are : length (map (λ (e : SiteEnd). e.log) ends) ≡ length s.sites
  logs_are = length-map ends (λ (e : SiteEnd). e.log) ∙ done.as_many

  pub passes_are : (parts : Parts) (ps : List (PassOf Entry)) → parts ≡ parts_of desk ends → ps ≡ parts.passes ++ option_to_list idle → ps ≡ passes
  passes_are parts ps is together = together ∙ ap (λ (x : Parts). x.passes ++ option_to_list idle) is

  pub are_all : AreAll book passes
  are_all = subst (λ (ns : List ℕ). IsPermutation (range_with_len 0 book.passes) ns) (sym numbers) (IsPermutation-refl (range_with_len 0 book.passes))

  abbrev IsOfBook : PassOf Entry → Type 0
  IsOfBook p = p.book ≡ book.id

  pub are_of : AreOf book passes
  are_of =
      All-append IsOfBook (desk ∷ map (λ (e : SiteEnd). e.ended.pass) ends) (option_to_list idle)
      (All-cons IsOfBook desk (map (λ (e : SiteEnd). e.ended.pass) ends) done.desk_pass.book (all_from IsOfBook (map (λ (e : SiteEnd). e.ended.pass) ends) site_of))
      (of_idle (idle_case idle done.taken done.left s.sites refl))
    where
      site_of : (k : ℕ) (p : PassOf Entry) → slice_get (map (λ (e : SiteEnd). e.ended.pass) ends) k ≡ Some p → IsOfBook p
      site_of k p there = let (e, at, is) = got_map (λ (x : SiteEnd). x.ended.pass) ends k p there in subst IsOfBook is (done.own k e at).book

      of_idle : ((idle ≡ None) × (0 < length s.sites)) ⊎ ((idle ≡ Some (new_pass book 1)) × (length s.sites ≡ 0)) → All IsOfBook (option_to_list idle)
      of_idle (inl (none, some)) = subst (λ (o : Option (PassOf Entry)). All IsOfBook (option_to_list o)) (sym none) (All-nil IsOfBook)
      of_idle (inr (only, none)) = subst (λ (o : Option (PassOf Entry)). All IsOfBook (option_to_list o)) (sym only) (All-cons IsOfBook (new_pass book 1) [] refl (All-nil IsOfBook))

  module _ (c : ClosedOf HubOf) (ended : IsClosedBy book passes c) (valid : IsValidHistory c.state.size c.state.sites c.state.entries) (few : length s.sites ≤ 8) where
    abbrev H : List Entry
    H = c.state.entries

    opens : opening_of c.state.size c.state.sites ≡ opening_of s.size (hub_site_count s)
    opens = ended.opening ∙ done.opening

    pub sized : c.state.size ≡ s.size
    sized = same_size c.state.size s.size c.state.sites (hub_site_count s) opens

    counted : c.state.sites ≡ hub_site_count s
    counted = same_sites c.state.size s.size c.state.sites (hub_site_count s) opens

    -- what a pass of the book found
    finds : (n k : ℕ) (p : PassOf Entry) → slice_get passes n ≡ Some p → IsSamePass (new_pass book k) p → Finds p c.state
    finds n k p there same = record {
      opening = ended.opening ∙ sym same.opening;
      seen = all_there (λ (q : PassOf Entry). IsPrefixOf q.seen (book_entries H)) passes ended.seen n p there;
      made = all_there (λ (q : PassOf Entry). made_by q.number (book_entries H) ≡ q.made) passes ended.made n p there;
    }

    holds_there : (n k : ℕ) (p : PassOf Entry) → slice_get passes n ≡ Some p → IsSamePass (new_pass book k) p → Contains c.holds (k, p.holds)
    holds_there n k p there same =
        let at = contains_there (map (λ (q : PassOf Entry). (q.number, q.holds)) passes) n (p.number, p.holds) (map_there (λ (q : PassOf Entry). (q.number, q.holds)) passes n p there) in
        subst (λ (m : ℕ). Contains c.holds (m, p.holds)) same.number (subst (λ (hs : List (ℕ × ℕ)). Contains hs (p.number, p.holds)) (sym ended.holds) at)

    desk_finds : Finds desk c.state
    desk_finds = finds 0 0 desk desk_there done.desk_pass

    evaluated_begins : IsPrefixOf (seen_by desk) H
    evaluated_begins = seen_begins desk c.state desk_finds

    site_finds : (k : ℕ) (e : SiteEnd) → slice_get ends k ≡ Some e → Finds e.ended.pass c.state
    site_finds k e at = finds (suc k) (suc k) e.ended.pass (site_there k e at) (done.own k e at)

    -- the entries of a site are those that its pass made
    own_made : (k : ℕ) (e : SiteEnd) → slice_get ends k ≡ Some e → own_entries (suc k) H ≡ made_in e.ended.pass
    own_made k e at = ap (λ (n : ℕ). own_entries n H) (sym (done.own k e at).number) ∙ own_found e.ended.pass c.state (site_finds k e at)

    site_holds : (k : ℕ) (t : SiteScript) (e : SiteEnd) → slice_get s.sites k ≡ Some t → slice_get ends k ≡ Some e → SiteHolds s.size H (suc k) t e.notes e.log
    site_holds k t e there at =
        let d = done.each k t e there at in
        let b : Beside = record { size = s.size; history = seen_by e.ended.pass; site = suc k; name = t.name; Shows = ShowsPrefix s.size (seen_by desk) } in (
          d.done,
          does_later b H (ShowsPrefix s.size H) (seen_begins e.ended.pass c.state (site_finds k e at)) (shows_later s.size (seen_by desk) H evaluated_begins) t.lines e.notes d.done d.does,
          d.own ∙ sym (own_made k e at),
          d.log,
        )

    -- what is there for each site
    site_at : (k : ℕ) (e : SiteEnd) → slice_get ends k ≡ Some e → (t : SiteScript) × (slice_get s.sites k ≡ Some t)
    site_at k e at = got s.sites k (let h = within_there ends k e at in let m = done.as_many in omega (arith, h, m))

    pub may_take : (k : ℕ) (x : ClientState) → slice_get (map (λ (e : SiteEnd). e.ended.client) ends) k ≡ Some x → MayTakeRest c.state (suc k) x
    may_take k x there =
        let (e, at, is) = got_map (λ (y : SiteEnd). y.ended.client) ends k x there in
        let (t, declared) = site_at k e at in
        let d = done.each k t e declared at in
        let f = site_finds k e at in
        let number : e.ended.client.site ≡ suc k = sym d.stands.number ∙ (done.own k e at).number in
        let stands : StandsIn c.state e.ended.client e.ended.client.site [] = stands_found e.ended.pass c.state f e.ended.client e.ended.client.site [] refl d.stands valid in
        let represents : ClientRepresents e.ended.client H (own_entries (suc k) H) =
        subst (λ (G : List Entry). ClientRepresents e.ended.client H G) (append-nil (own_entries e.ended.client.site H) ∙ ap (λ (n : ℕ). own_entries n H) number) stands.represents in
        subst (MayTakeRest c.state (suc k)) is (record { few = (let n = counted in omega (arith, n, few)); valid = valid; number = number; to = subst (λ (n : ℕ). n ≤ c.state.sites) number stands.to; sized = stands.size; within = represents.within; represents = represents })

    whole : IsValidHistory s.size (hub_site_count s) H
    whole = subst (λ (n : ℕ). IsValidHistory s.size n H) counted (subst (λ (z : Size). IsValidHistory z c.state.sites H) sized valid)

    pub entries_short : IsOpened s → All (λ (e : Entry). IntentWithin 16000 e.intent) H
    entries_short opened = entries_within s.size (hub_site_count s) opened.rows.1 opened.cols.1 (omega (arith, few)) H whole

    valid_sites : IsValidHistory s.size (length s.sites) H
    valid_sites = by_idle (idle_case idle done.taken done.left s.sites refl)
      where
        by_idle : ((idle ≡ None) × (0 < length s.sites)) ⊎ ((idle ≡ Some (new_pass book 1)) × (length s.sites ≡ 0)) → IsValidHistory s.size (length s.sites) H
        by_idle (inl (none, some)) = subst (λ (n : ℕ). IsValidHistory s.size n H) (let z : hub_site_count s ≡ length s.sites = omega (arith, some) in z) whole
        by_idle (inr (only, none)) =
            let one : hub_site_count s ≡ 1 = omega (arith, none) in
            let at = idle_there (new_pass book 1) only in
            let f = finds (suc (length ends)) 1 (new_pass book 1) at (record { book = refl; number = refl; opening = refl }) in
            let empty : H ≡ [] = no_history s.size H (subst (λ (n : ℕ). IsValidHistory s.size n H) one whole) (own_found (new_pass book 1) c.state f) in
            subst (IsValidHistory s.size (length s.sites)) (sym empty) tt

    -- values of an entry are there only where the recalculation had the hub
    recalculated : (k : ℕ) (t : SiteScript) (e : SiteEnd) (n : Note) → slice_get s.sites k ≡ Some t → slice_get ends k ≡ Some e → Contains e.notes n → IsOfValues n → 0 < desk.holds
    recalculated k t e n there at noted (some, values) =
        let d = done.each k t e there at in
        let b : Beside = record { size = s.size; history = seen_by e.ended.pass; site = suc k; name = t.name; Shows = ShowsPrefix s.size (seen_by desk) } in
        let (T, (within, is)) = noted_shown b n values t.lines nothing_done e.notes d.done d.does noted in
        all_there (λ (p : PassOf Entry). p.seen ≢ [] → 0 < p.holds) passes ended.held 0 desk desk_there (λ none. nothing_seen (ap (λ (ms : List (Made Entry)). length (map (λ (m : Made Entry). m.item) ms)) none) within)
      where
        nothing_seen : length (seen_by desk) ≡ 0 → n.length ≤ length (seen_by desk) → ⊥
        nothing_seen none within = omega (arith, none, within, some)

    -- the passes are those of the recalculation and of each site
    passes_held : map (λ (h : ℕ × ℕ). h.0) c.holds ≡ range_with_len 0 (hub_site_count s + 1)
    passes_held =
        ap (λ (hs : List (ℕ × ℕ)). map (λ (h : ℕ × ℕ). h.0) hs) ended.holds
        ∙ (map_twice (λ (p : PassOf Entry). (p.number, p.holds)) (λ (h : ℕ × ℕ). h.0) passes ∙ (numbers ∙ ap (range_with_len 0) (let b = done.passes in let more : book.passes ≡ hub_site_count s + 1 = omega (arith, b) in more)))

    pub all_have_all : (server : ServerState) → server.size ≡ c.state.size → ServerRepresents server H → (clients : List ClientState) → HaveTakenRest c.state (map (λ (e : SiteEnd). e.ended.client) ends) clients → AllHaveAll s.size H server clients
    all_have_all server server_sized represents clients taken = record {
      sized = server_sized ∙ sized;
      server_is = represents;
      each = λ k x there. subst (λ (z : Size). HasTakenAll z H (suc k) x) sized (taken.each k x there);
    }

    pub clients_are : (clients : List ClientState) → HaveTakenRest c.state (map (λ (e : SiteEnd). e.ended.client) ends) clients → length clients ≡ length s.sites
    clients_are clients taken = taken.as_many ∙ (length-map ends (λ (e : SiteEnd). e.ended.client) ∙ done.as_many)

    pub record_of : (clients : List ClientState) → HaveTakenRest c.state (map (λ (e : SiteEnd). e.ended.client) ends) clients → IsRecordOf s (record { hub = c; clients = clients; notes = map (λ (e : SiteEnd). e.notes) ends }) (map (λ (e : SiteEnd). e.log) ends)
    record_of clients taken = record {
      size = sized;
      record_is = record {
        valid = valid_sites;
        hold = sites_hold s.size H s.sites (map (λ (e : SiteEnd). e.notes) ends) (map (λ (e : SiteEnd). e.log) ends)
            (length-map ends (λ (e : SiteEnd). e.notes) ∙ done.as_many) logs_are each_holds;
      };
      as_many = clients_are clients taken;
      clients = λ k x there. subst (λ (z : Size). HasTakenAll z H (suc k) x) sized (taken.each k x there);
      passes = passes_held;
      held = each_held;
      recalculated = each_recalculated;
    }
      where
        each_holds : (k : ℕ) (t : SiteScript) (ns : List Note) (log : List ℕ) → slice_get s.sites k ≡ Some t → slice_get (map (λ (e : SiteEnd). e.notes) ends) k ≡ Some ns → slice_get (map (λ (e : SiteEnd). e.log) ends) k ≡ Some log → SiteHolds s.size H (suc k) t ns log
        each_holds k t ns log there noted logged =
            let (e, at, is) = got_map (λ (x : SiteEnd). x.notes) ends k ns noted in
            let text : e.log ≡ log = some_same e.log log (sym (map_there (λ (x : SiteEnd). x.log) ends k e at) ∙ logged) in
            subst (λ (ms : List Note). SiteHolds s.size H (suc k) t ms log) is (subst (λ (l : List ℕ). SiteHolds s.size H (suc k) t e.notes l) text (site_holds k t e there at))

        each_held : (k : ℕ) (ns : List Note) → slice_get (map (λ (e : SiteEnd). e.notes) ends) k ≡ Some ns → (holds : ℕ) × Contains c.holds (suc k, holds) × (holds_noted ns ≤ holds)
        each_held k ns noted =
            let (e, at, is) = got_map (λ (x : SiteEnd). x.notes) ends k ns noted in
            let (t, there) = site_at k e at in (
              e.ended.pass.holds,
              holds_there (suc k) (suc k) e.ended.pass (site_there k e at) (done.own k e at),
              subst (λ (ms : List Note). holds_noted ms ≤ e.ended.pass.holds) is (done.each k t e there at).holds,
            )

        each_recalculated : (k : ℕ) (ns : List Note) (n : Note) → slice_get (map (λ (e : SiteEnd). e.notes) ends) k ≡ Some ns → Contains ns n → IsOfValues n → (holds : ℕ) × Contains c.holds (0, holds) × (0 < holds)
        each_recalculated k ns n noted has values =
            let (e, at, is) = got_map (λ (x : SiteEnd). x.notes) ends k ns noted in
            let (t, there) = site_at k e at in
            (desk.holds, holds_there 0 0 desk desk_there done.desk_pass, recalculated k t e n there at (subst (λ (ms : List Note). Contains ms n) (sym is) has) values)
