use Rattle.std.proofs.Common.{◌≡◌, ℕ, ◌+◌, List, [], ◌∷◌, length, map, refl, ap, sym, ◌∙◌, subst, rules}
use Rattle.turn_book.specs.Passes.{BookOf, PassOf, new_pass}
use Rattle.value_snap.specs.Stores.{PublisherOf}
use Rattle.hub.specs.Hubs.{opening_of}
use Rattle.live_threads.specs.Threads.{hub_site_count, AreBegun}
use Rattle.live_threads.proofs.Lists.{numbered_first, numbered_behind}
use Rattle.live_threads.proofs.opening.open.Goals as goal

pub begin_sites-requires-clause-passes : goal.begin_sites-requires-clause-passes
begin_sites-requires-clause-passes g c =
    let s = c.args.script.now in
    let book = c.in_ok-book.book in
    let opens : book.opening ≡ opening_of s.size (hub_site_count s) = search rules in
    let many : book.passes ≡ hub_site_count s + 1 = search rules in
    let dealt = c.into_vec-passes.ensures ∙ c.in_ok-book.ensures.passes in
    (book, opens, numbered_behind (new_pass book) book.passes (hub_site_count s) c.into_vec-passes.result.items c.remove-desk_pass.new.self.items many dealt c.remove-desk_pass.ensures.items)

pub returns-in-Ok : goal.returns-in-Ok
returns-in-Ok g c =
    let s = c.args.script.now in
    let book = c.in_ok-book.book in
    let opens : book.opening ≡ opening_of s.size (hub_site_count s) = search rules in
    let many : book.passes ≡ hub_site_count s + 1 = search rules in
    let dealt = c.into_vec-passes.ensures ∙ c.in_ok-book.ensures.passes in
    record {
      opening = opens;
      passes = many;
      desk_pass = numbered_first (new_pass book) book.passes (hub_site_count s) c.into_vec-passes.result.items c.remove-desk_pass.result many dealt c.remove-desk_pass.ensures.value;
      begun = subst (λ (qs : List PublisherOf). AreBegun s book c.in-Ok.sessions c.in-Ok.idle qs) (sym c.from_vec.ensures) (c.in-Ok.ensures book opens (numbered_behind (new_pass book) book.passes (hub_site_count s) c.into_vec-passes.result.items c.remove-desk_pass.new.self.items many dealt c.remove-desk_pass.ensures.items));
    }
