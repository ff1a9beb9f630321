use Rattle.std.proofs.Common.{◌≡◌, ◌≢◌, ◌<◌, ℕ, [], map, sym, ap, subst, ◌∙◌}
use Rattle.std.specs.Prelude.{IsPermutation}
use Rattle.std.specs.List.{range_with_len}
use Rattle.ss_base.specs.Lists.{IsPrefixOf}
use Rattle.turn_book.specs.Entries.{made_by, entries_of}
use Rattle.turn_book.proofs.Closing.{all_there, each_of, holds_are, none_else, not_all}
use Rattle.turn_book.proofs.book.Book.close.Goals as goal

pub returns-then-len-self-clause-missing : goal.returns-then-len-self-clause-missing
returns-then-len-self-clause-missing g c =
    not_all c.args.self c.args.passes (λ same. c.if-len-self.true (c.len.ensures ∙ (same ∙ sym (ap (λ b. b.passes) c.self.view_is))))

pub returns-clause-all : goal.returns-clause-all
returns-clause-all g c =
    subst (λ n. IsPermutation (range_with_len 0 n) (map (λ p. p.number) c.args.passes)) (sym c.self.invariant.2 ∙ ap (λ b. b.passes) c.self.view_is)
    (all_there c.self.inside.table.shared.table_id c.end-state.ensures c.gather-seat.ensures.passes)

pub returns-clause-openings : goal.returns-clause-openings
returns-clause-openings g c =
    each_of c.self.inside.table.shared.table_id c.end-state.ensures c.gather-seat.ensures.passes
    (λ p. p.opening ≡ g.S.Kept.opening c.end-state.result) (λ p k. k.opening_is ∙ sym c.end-state.ensures.opening_is)

pub returns-clause-seen : goal.returns-clause-seen
returns-clause-seen g c =
    each_of c.self.inside.table.shared.table_id c.end-state.ensures c.gather-seat.ensures.passes
    (λ p. IsPrefixOf p.seen (g.S.Kept.history c.end-state.result)) (λ p k. k.follows.seen)

pub returns-clause-made : goal.returns-clause-made
returns-clause-made g c =
    each_of c.self.inside.table.shared.table_id c.end-state.ensures c.gather-seat.ensures.passes
    (λ p. made_by p.number (g.S.Kept.history c.end-state.result) ≡ p.made) (λ p k. k.follows.made)

pub returns-clause-no_other : goal.returns-clause-no_other
returns-clause-no_other g c = none_else c.self.inside.table.shared.table_id c.end-state.ensures c.gather-seat.ensures.passes

pub returns-clause-numbered : goal.returns-clause-numbered
returns-clause-numbered g c =
    each_of c.self.inside.table.shared.table_id c.end-state.ensures c.gather-seat.ensures.passes
    (λ p. p.made ≡ entries_of p.number 0 (map (λ e. e.item) p.made)) (λ p k. k.follows.numbered)

pub returns-clause-held : goal.returns-clause-held
returns-clause-held g c =
    each_of c.self.inside.table.shared.table_id c.end-state.ensures c.gather-seat.ensures.passes (λ p. p.seen ≢ [] → 0 < p.holds) (λ p k. k.follows.held)

pub returns-clause-holds : goal.returns-clause-holds
returns-clause-holds g c =
    ap (λ seat. map {B = ℕ × ℕ} (λ p. (p.number, p.holds)) seat.me.0.standings) c.of-last.ensures
    ∙ holds_are c.self.inside.table.shared.table_id c.end-state.ensures c.gather-seat.ensures.passes
