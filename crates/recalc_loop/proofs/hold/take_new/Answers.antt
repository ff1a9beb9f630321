use Rattle.std.proofs.Common.{◌≡◌, ℕ, List, drop, ap, sym, ◌∙◌, subst, arith}
use Rattle.std.specs.Prelude.{IfOk}
use Rattle.ss_base.specs.declared.types.Size.{Size}
use Rattle.ss_base.specs.Lists.{IsPrefixOf}
use Rattle.sheet_ops.specs.declared.operation.Entry.{Entry}
use Rattle.sheet_ops.specs.History.{IsValidHistory}
use Rattle.hub.specs.BookEntries.{book_entries}
use Rattle.hub.specs.Hubs.{HubOf, opening_of}
use Rattle.hub.specs.Messages.{effects_of}
use Rattle.recalc_loop.proofs.Holds.{seen_within, seen_begins, seen_whole, opening_size, opening_sites}
use Rattle.recalc_loop.proofs.hold.take_new.Goals as goal

pub batch-effects-requires : goal.batch-effects-requires
batch-effects-requires g c =
    let found : IsPrefixOf c.args.pass.seen (book_entries c.state-hub.result.now.entries) = subst (λ (h : HubOf). IsPrefixOf c.args.pass.seen (book_entries h.entries)) (sym c.state-hub.ensures.value) c.enter-held.ensures.seen in
    let few = seen_within c.args.pass.seen c.state-hub.result.now.entries found in
    omega (arith, few, c.requires.from)

pub returns-clause-seen : goal.returns-clause-seen
returns-clause-seen g c =
    let found : IsPrefixOf c.args.pass.seen (book_entries c.state-hub.result.now.entries) = subst (λ (h : HubOf). IsPrefixOf c.args.pass.seen (book_entries h.entries)) (sym c.state-hub.ensures.value) c.enter-held.ensures.seen in
    let begins = seen_begins c.args.pass.seen c.state-hub.result.now.entries found in
    (begins.0, begins.1 ∙ sym (seen_whole c.leave-pass.result.seen c.state-hub.result.now.entries c.leave-pass.ensures.seen))

pub returns-clause-valid : goal.returns-clause-valid
returns-clause-valid g c size sites opening =
    let h = c.state-hub.result.now in
    let same : opening_of h.size h.sites ≡ opening_of size sites = ap (λ (x : HubOf). opening_of x.size x.sites) c.state-hub.ensures.value ∙ (c.enter-held.ensures.opening ∙ opening) in
    subst (λ (H : List Entry). IsValidHistory size sites H) (sym (seen_whole c.leave-pass.result.seen h.entries c.leave-pass.ensures.seen))
    (subst (λ (z : Size). IsValidHistory z sites h.entries) (opening_size h.size size h.sites sites same)
    (subst (λ (n : ℕ). IsValidHistory h.size n h.entries) (opening_sites h.size size h.sites sites same) c.history-history.ensures.valid))

pub returns-clause-effects : goal.returns-clause-effects
returns-clause-effects g c size sites opening =
    let h = c.state-hub.result.now in
    let same : opening_of h.size h.sites ≡ opening_of size sites = ap (λ (x : HubOf). opening_of x.size x.sites) c.state-hub.ensures.value ∙ (c.enter-held.ensures.opening ∙ opening) in
    subst (λ (H : List Entry). IfOk c.batch-effects.result (λ es. es ≡ drop c.args.from (effects_of size H))) (sym (seen_whole c.leave-pass.result.seen h.entries c.leave-pass.ensures.seen))
    (subst (λ (z : Size). IfOk c.batch-effects.result (λ es. es ≡ drop c.args.from (effects_of z h.entries))) (opening_size h.size size h.sites sites same) c.batch-effects.ensures)
