use Rattle.std.proofs.Common.{◌++◌, [], ◌∷◌, Some, arith, sym, subst, ◌∙◌}
use Rattle.sheet_ops.specs.declared.operation.Entry.{Entry}
use Rattle.sheet_ops.specs.History.{IsValidHistory}
use Rattle.script_run.proofs.Deliveries.{valid_with}
use Rattle.script_run.proofs.Lists.{past_end}
use Rattle.script_run.proofs.Seats.{of_site}
use Rattle.script_run.proofs.deliver.hand_in.Goals as goal

pub returns-in-Ok-clause-next : goal.returns-in-Ok-clause-next
returns-in-Ok-clause-next c =
    let got = sym c.in-Some.ensures.value in
    let site = of_site c.args.site.0 c.args.seat.now.made c.args.seat.now.pushed c.in-Some.entry.now c.requires.holds.own got in
    got ∙ (λ i. Some (record { site = record { 0 = site i }; seen = c.in-Some.entry.now.seen; intent = sym c.in_ok-intent-in-Some.ensures i }))

pub unsubmitted-requires : goal.unsubmitted-requires
unsubmitted-requires c =
    let got = sym c.in-Some.ensures.value in
    let site = of_site c.args.site.0 c.args.seat.now.made c.args.seat.now.pushed c.in-Some.entry.now c.requires.holds.own got in
    c.in-Err.ensures.may c.requires.history c.requires.server
    (subst (λ (e : Entry). IsValidHistory c.args.server.now.size c.args.server.now.sites (c.requires.history ++ e ∷ []))
    (λ i. record { site = record { 0 = site i }; seen = c.in-Some.entry.now.seen; intent = sym c.in_ok-intent-in-Some.ensures i })
    (valid_with c.args.server.now c.args.site.0 c.args.seat.now c.requires c.in-Some.entry.now got))

pub unreachable-requires : goal.unreachable-requires
unreachable-requires c = let past = past_end c.args.seat.now.made c.args.seat.now.pushed c.in-None.ensures.value in omega (arith, past, c.requires.more)
