-- What the threads left, once the stores are closed.
use Rattle.std.proofs.Common.{◌≡◌, ℕ, suc, ◌+◌, true, List, [], ◌∷◌, ◌++◌, length, map, All, get_or, refl, ap, sym, ◌∙◌, subst, arith, Some}
use Rattle.std.specs.Prelude.{slice_get}
use Rattle.std.proofs.lemmas.List.{length-map, map-append}
use Rattle.ss_base.specs.Lists.{IsPrefixOf}
use Rattle.turn_book.specs.Passes.{PassOf, seen_by}
use Rattle.value_snap.specs.declared.published.Published.{Published}
use Rattle.value_snap.specs.declared.published.Published.TheVariants.{Full, End}
use Rattle.value_snap.specs.declared.rule.Store.{Store}
use Rattle.value_snap.specs.Lists.{is_ended}
use Rattle.value_snap.specs.Stores.{PublisherOf}
use Rattle.sheet_ops.specs.declared.operation.Entry.{Entry}
use Rattle.live_script.specs.declared.script.LiveScript.{LiveScript}
use Rattle.live_script.specs.declared.script.SiteScript.{SiteScript}
use Rattle.live_site.specs.declared.run.SiteEnd.{SiteEnd}
use Rattle.recalc_loop.specs.Standing.{EachStands}
use Rattle.live_threads.specs.declared.threads.Ran.{Ran}
use Rattle.live_threads.specs.Threads.{IsEnd, IsRan}
use Rattle.live_close.specs.declared.agreeing.Parts.{Parts}
use Rattle.live_close.specs.Parts.{with_mark, parts_of, part_more, AllOver, AllKnow, IsDone, AreDone}
use Rattle.live_close.proofs.Lists.{all_there, all_from, each_more, some_same, got, got_map, there_get, map_there, within_there}
use Rattle.live_close.proofs.Records.{site_done}

-- ---- the stores with their marks
ended_marked : (es : List Published) → is_ended (es ++ End ∷ []) ≡ true
ended_marked [] = refl
ended_marked (Full b ∷ es) = ended_marked es
ended_marked (End ∷ []) = refl
ended_marked (End ∷ (e ∷ es)) = ended_marked (e ∷ es)

pub all_closed : (qs : List PublisherOf) → All (λ (q : PublisherOf). is_ended q.list ≡ true) (map with_mark qs)
all_closed qs = all_from (λ (q : PublisherOf). is_ended q.list ≡ true) (map with_mark qs)
    (λ k q there. let (p, at, is) = got_map with_mark qs k q there in subst (λ (x : PublisherOf). is_ended x.list ≡ true) is (ended_marked p.list))

pub over_closed : (ends : List SiteEnd) (qs : List PublisherOf) → AllOver ends qs → AllOver ends (map with_mark qs)
over_closed ends qs over = record {
  enough = let n = length-map qs with_mark in let m = over.enough in omega (arith, n, m);
  each = λ k e q at there. let (p, here, is) = got_map with_mark qs k q there in over.each k e p at here ∙ ap (λ (x : PublisherOf). x.store) is;
}

-- ---- taking apart what the sites left
-- as many as were taken apart
pub so_many : (p : PassOf Entry) (parts : Parts) (ends : List SiteEnd) → parts ≡ parts_of p ends → length parts.logs ≡ length ends
so_many p parts ends is = ap (λ (x : Parts). length x.logs) is ∙ length-map ends (λ (e : SiteEnd). e.log)

-- one more
pub more_parts : (p : PassOf Entry) (parts new : Parts) (ends : List SiteEnd) (e : SiteEnd) → parts ≡ parts_of p ends → new ≡ part_more parts e → new ≡ parts_of p (ends ++ e ∷ [])
more_parts p parts new ends e is more =
    more ∙ (ap (λ (x : Parts). part_more x e) is ∙ (λ i. record {
      passes = p ∷ sym (map-append (λ (x : SiteEnd). x.ended.pass) ends (e ∷ [])) i;
      clients = sym (map-append (λ (x : SiteEnd). x.ended.client) ends (e ∷ [])) i;
      notes = sym (map-append (λ (x : SiteEnd). x.notes) ends (e ∷ [])) i;
      logs = sym (map-append (λ (x : SiteEnd). x.log) ends (e ∷ [])) i;
    }))

pub more_known : (ends : List SiteEnd) (qs : List PublisherOf) (e : SiteEnd) (q : PublisherOf) → AllKnow ends qs → slice_get qs (length ends) ≡ Some q → IsPrefixOf e.ended.reader.known q.list → AllKnow (ends ++ e ∷ []) qs
more_known ends qs e q known here begins k x p there at =
    each_more (λ n (y : SiteEnd). (w : PublisherOf) → slice_get qs n ≡ Some w → IsPrefixOf y.ended.reader.known w.list) ends e
    (λ n y is w was. known n y w is was)
    (λ w was. subst (λ (v : PublisherOf). IsPrefixOf e.ended.reader.known v.list) (some_same q w (sym here ∙ was)) begins)
    k x there p at

-- the publisher of a site
pub publisher_there : (ends : List SiteEnd) (qs : List PublisherOf) (k place : ℕ) (e : SiteEnd) (q : PublisherOf) → AllOver ends qs → slice_get ends k ≡ Some e → place ≡ k → q ≡ get_or qs place q → slice_get qs k ≡ Some q
publisher_there ends qs k place e q over at same is =
    let less = within_there ends k e at in
    let enough = over.enough in
    there_get qs k q (omega (arith, less, enough)) (is ∙ ap (λ (n : ℕ). get_or qs n q) same)

-- ---- what the threads left
module _ (s : LiveScript) (stores : ℕ → Store) (r : Ran) (ran : IsRan s stores r) where
  site_at : (k : ℕ) (e : SiteEnd) → slice_get r.ends k ≡ Some e → (t : SiteScript) × (slice_get s.sites k ≡ Some t)
  site_at k e at = got s.sites k (let h = within_there r.ends k e at in let m = ran.as_many in omega (arith, h, m))

  end_at : (k : ℕ) (t : SiteScript) (e : SiteEnd) → slice_get s.sites k ≡ Some t → slice_get r.ends k ≡ Some e → IsEnd s.size r.book (stores (suc k)) (suc k) t e
  end_at k t e there at = ran.ends k t e there at

  pub all_over : AllOver r.ends r.desk.publishers
  all_over = record {
    enough = let m = ran.as_many in let n = ran.desk.count in omega (arith, m, n);
    each = λ k e q at there. let (t, declared) = site_at k e at in (end_at k t e declared at).store_is ∙ (ap stores (let z : suc k ≡ k + 1 = omega arith in z) ∙ sym (ran.desk.stores_are k q there));
  }

  publisher_at : (k : ℕ) (e : SiteEnd) → slice_get r.ends k ≡ Some e → (q : PublisherOf) × (slice_get r.desk.publishers k ≡ Some q)
  publisher_at k e at = got r.desk.publishers k (let h = within_there r.ends k e at in let m = ran.as_many in let n = ran.desk.count in omega (arith, h, m, n))

  pub are_done : All (λ (e : SiteEnd). e.done ≡ true) r.ends → AllKnow r.ends (map with_mark r.desk.publishers) → AreDone s r.book r.desk.pass r.ends r.idle
  are_done done known = record {
    opening = ran.opening;
    passes = let b = ran.passes in omega (arith, b);
    desk_pass = record { book = ran.desk.book_is; number = ran.desk.number; opening = ran.desk.opening ∙ sym ran.opening };
    as_many = ran.as_many;
    own = λ k e at. let (t, declared) = site_at k e at in (end_at k t e declared at).pass;
    each = each_done;
    taken = ran.taken;
    left = ran.left;
  }
    where
      each_done : (k : ℕ) (t : SiteScript) (e : SiteEnd) → slice_get s.sites k ≡ Some t → slice_get r.ends k ≡ Some e → IsDone s.size (seen_by r.desk.pass) (suc k) t e
      each_done k t e there at =
          let (q, here) = publisher_at k e at in
          let run = (end_at k t e there at).run (all_there (λ (x : SiteEnd). x.done ≡ true) r.ends done k e at) in
          let stands = all_there (λ (p : PublisherOf). EachStands s.size p.list (seen_by r.desk.pass)) r.desk.publishers ran.desk.each k q here in
          site_done s.size (suc k) t e q (seen_by r.desk.pass) run stands (known k e (with_mark q) at (map_there with_mark r.desk.publishers k q here))
