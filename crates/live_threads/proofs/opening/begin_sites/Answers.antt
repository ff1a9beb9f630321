use Rattle.std.proofs.Common.{◌≡◌, ◌≢◌, ◌≤◌, ◌+◌, ◌++◌, ◌∷◌, [], ℕ, suc, List, Some, length, drop, map, refl, ap, sym, ◌∙◌, subst, arith, All, length-append}
use Rattle.std.specs.Prelude.{slice_get, vec_len}
use Rattle.std.specs.List.{range_with_len}
use Rattle.std.proofs.lemmas.List.Elements.{All-push, All-same}
use Rattle.turn_book.specs.Passes.{BookOf, PassOf, new_pass}
use Rattle.value_snap.specs.Stores.{PublisherOf}
use Rattle.live_session.specs.Sessions.{SessionOf}
use Rattle.live_threads.specs.Threads.{hub_site_count, IsFresh, IsNewPublisher, stores_of}
use Rattle.live_threads.proofs.Lists.{numbered_length, rest_there, count_some}
use Rattle.live_threads.proofs.Openings.{fresh_more, pass_next}
use Rattle.live_threads.proofs.opening.begin_sites.Goals as goal

pub overflow_cast-site : goal.overflow_cast-site
overflow_cast-site g c =
    let (book, opens, are) = c.requires.passes in
    let many = numbered_length (new_pass book) (hub_site_count c.args.script.now) c.args.passes.items are in
    omega (arith, many, c.loop-pass.invariant.left, c.requires.script.few, c.len.ensures)

pub overflow_add-site : goal.overflow_add-site
overflow_add-site g c =
    let (book, opens, are) = c.requires.passes in
    let many = numbered_length (new_pass book) (hub_site_count c.args.script.now) c.args.passes.items are in
    omega (arith, many, c.loop-pass.invariant.left, c.requires.script.few, c.len.ensures)

pub begin_site-requires-clause-room : goal.begin_site-requires-clause-room
begin_site-requires-clause-room g c =
    let (book, opens, are) = c.requires.passes in
    let many = numbered_length (new_pass book) (hub_site_count c.args.script.now) c.args.passes.items are in
    let steps = c.in-Some.ensures.steps in
    omega (arith, many, steps.1, c.loop-pass.invariant.room, c.loop-pass.invariant.left, c.loop-pass.invariant.count, c.loop-pass.publishers.ok.0)

pub begin_site-requires-clause-pass : goal.begin_site-requires-clause-pass
begin_site-requires-clause-pass g c =
    let (book, opens, are) = c.requires.passes in
    let many = numbered_length (new_pass book) (hub_site_count c.args.script.now) c.args.passes.items are in
    let steps = c.in-Some.ensures.steps in
    let next = pass_next book (hub_site_count c.args.script.now) (vec_len c.loop-pass.sessions) c.args.passes.items c.in-Some.pass _ _ are c.loop-pass.invariant.rest steps.0 in (
      book,
      hub_site_count c.args.script.now,
      next ∙ ap (λ (n : ℕ). new_pass book (n + 1)) (sym c.len.ensures),
      opens,
      omega (arith, many, steps.1, c.loop-pass.invariant.left, c.len.ensures),
    )

pub loop-pass-preserved : goal.loop-pass-preserved
loop-pass-preserved g c =
    let (book0, opens0, are0) = c.requires.passes in
    let n = hub_site_count c.args.script.now in
    let k = vec_len c.loop-pass.sessions in
    let inv = c.loop-pass.invariant in
    let steps = c.in-Some.ensures.steps in
    let place : k ≡ length c.loop-pass.sessions.items = c.loop-pass.sessions.ok.0 in
    let made = λ (book : BookOf) (are : c.args.passes.items ≡ map (new_pass book) (range_with_len 1 n)).
    c.in_ok-begin_site.ensures.begun book (pass_next book n k c.args.passes.items c.in-Some.pass _ _ are inv.rest steps.0 ∙ ap (λ (m : ℕ). new_pass book (m + 1)) (sym c.len.ensures)) in
    let first = made book0 are0 in
    record {
      room = omega (arith, inv.room, c.begin_site.ensures.capacity);
      left = omega (arith, inv.left, steps.1, c.in_ok-push.ensures.len);
      rest = rest_there c.args.passes.items k _ c.in-Some.pass _ (sym inv.rest ∙ steps.0) c.in_ok-push.ensures.len;
      count = omega (arith, ap length first.1, length-append c.loop-pass.publishers.items (first.0 ∷ []), inv.count, c.in_ok-push.ensures.len);
      publishers = All-same (IsNewPublisher c.args.script.now.size) _ _ first.1 (All-push (IsNewPublisher c.args.script.now.size) c.loop-pass.publishers.items first.0 inv.publishers first.2);
      each = λ book are j t at.
          let b = made book are in
          let site : c.len.result + 1 ≡ suc (length c.loop-pass.sessions.items) = omega (arith, c.len.ensures, place) in
          let last : IsFresh c.args.script.now.size book (suc (length c.loop-pass.sessions.items)) b.0.store c.in_ok-begin_site.field-0 = subst (λ (m : ℕ). IsFresh c.args.script.now.size book m b.0.store c.in_ok-begin_site.field-0) site b.3 in
          subst (λ (qs : List PublisherOf). IsFresh c.args.script.now.size book (suc j) (stores_of qs (suc j)) t) (sym b.1)
          (fresh_more c.args.script.now.size book c.loop-pass.publishers.items b.0 c.loop-pass.sessions.items c.in_ok-begin_site.field-0 (inv.count ∙ place) (inv.each book are) last j t (ap (λ (l : List SessionOf). slice_get l j) (sym c.in_ok-push.ensures.items) ∙ at));
    }

pub returns : goal.returns
returns g c = λ book opens are.
    let inv = c.loop-pass.invariant in
    let done = c.in-None.ensures.steps in
    let many = numbered_length (new_pass book) (hub_site_count c.args.script.now) c.args.passes.items are in
    let some : c.args.script.now.sites ≢ [] = λ none. absurd (let test = c.if-is_empty.ensures.1 none in cc) in
    let count = count_some c.args.script.now.sites some in
    let all : vec_len c.loop-pass.sessions ≡ hub_site_count c.args.script.now = omega (arith, many, done.0, inv.left) in
    record {
      as_many = omega (arith, ap length c.from_vec.ensures, all, count, c.loop-pass.sessions.ok.0);
      fresh = λ k t at. inv.each book are k t (ap (λ (l : List SessionOf). slice_get l k) (sym c.from_vec.ensures) ∙ at);
      taken = λ _. refl;
      left = λ none. absurd (some none);
      count = inv.count ∙ all;
      publishers = inv.publishers;
    }
