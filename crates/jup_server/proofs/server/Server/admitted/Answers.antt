use Rattle.std.proofs.Common.{◌≤◌, ◌<◌, ◌+◌, ◌-◌, length, ap, sym, ◌∙◌, subst, arith, refl, inl, inr}
use Rattle.std.specs.Prelude.{◌⊎◌}
use Rattle.ss_base.specs.declared.types.Size.{Size}
use Rattle.sheet_ops.specs.Chains.{sizes_past}
use Rattle.sheet_ops.specs.Fits.{IntentFits}
use Rattle.sheet_ops.specs.Misfits.{misfit, intent_tests}
use Rattle.sheet_ops.specs.Represents.{LinkState, ServerState, ServerRepresents}
use Rattle.jup_server.specs.declared.SubmitErr.TheVariants as fault
use Rattle.jup_server.specs.Servers.{seen_size, entry_of, IsRefused, IsAdmitted}
use Rattle.jup_server.proofs.Along.{front_small}
use Rattle.jup_server.proofs.Submitted.{link_here, link_long, link_small}
use Rattle.jup_server.proofs.Causes.{spent_here, far_here, misfit_here, admitted_here}
use Rattle.jup_server.proofs.server.Server.admitted.Goals as goal
use Rattle.jup_server.proofs.server.Server.admitted.Goals.{then-up-link-via-then-up-link, then-up-link-via-else-up-link+then-up-self}

pub returns-then-link-ge-MOST_OPERATIONS-clause-cause : goal.returns-then-link-ge-MOST_OPERATIONS-clause-cause
returns-then-link-ge-MOST_OPERATIONS-clause-cause c H r =
    let ok = c.self.invariant in
    let from : 0 < c.args.site.0 = omega (arith, c.if-site-eq0.false) in
    let to : c.args.site.0 ≤ length c.self.inside.links.items = omega (arith, c.if-site-len.false, c.len.ensures) in
    let is = link_here _ ok c.args.site.0 c.index-link.result.now from to c.index-link.ensures ∙ sym c.link.view_is in
    subst (λ (s : ServerState). IsRefused s.size s.sites H (entry_of c.args.site.0 c.args.up.now) fault.Spent) c.self.view_is
    (spent_here _ H (subst (λ (s : ServerState). ServerRepresents s H) (sym c.self.view_is) r) ok.rows ok.cols ok.sites c.args.site.0 c.args.up.now from to
    (subst (λ (l : LinkState). 1000 ≤ l.issued) (sym is) c.if-link-ge-MOST_OPERATIONS.true))

pub returns-then-up-link-clause-cause : goal.returns-then-up-link-clause-cause
returns-then-up-link-clause-cause c H r =
    let ok = c.self.invariant in
    let from : 0 < c.args.site.0 = omega (arith, c.if-site-eq0.false) in
    let to : c.args.site.0 ≤ length c.self.inside.links.items = omega (arith, c.if-site-len.false, c.len.ensures) in
    let is = link_here _ ok c.args.site.0 c.index-link.result.now from to c.index-link.ensures ∙ sym c.link.view_is in
    let far : (c.args.up.now.seen < c.link.inside.seen) ⊎ (c.self.inside.count < c.args.up.now.seen) =
    elim c.then-up-link.branch [ then-up-link-via-then-up-link w ↦ inl w.if-up-link.true | then-up-link-via-else-up-link+then-up-self w ↦ inr w.if-up-self.true ] in
    subst (λ (s : ServerState). IsRefused s.size s.sites H (entry_of c.args.site.0 c.args.up.now) (fault.BadSeen c.args.up.now.seen c.link.inside.seen c.self.inside.count)) c.self.view_is
    (subst (λ (l : LinkState). IsRefused c.self.inside.size (length c.self.inside.links.items) H (entry_of c.args.site.0 c.args.up.now) (fault.BadSeen c.args.up.now.seen l.seen c.self.inside.count)) is
    (far_here _ H (subst (λ (s : ServerState). ServerRepresents s H) (sym c.self.view_is) r) ok.rows ok.cols ok.sites c.args.site.0 c.args.up.now from to
    (subst (λ (l : LinkState). l.issued < 1000) (sym is) c.if-link-ge-MOST_OPERATIONS.false) (subst (λ (l : LinkState). (c.args.up.now.seen < l.seen) ⊎ (c.self.inside.count < c.args.up.now.seen)) (sym is) far)))

pub seen_size-size-requires-clause-within : goal.seen_size-size-requires-clause-within
seen_size-size-requires-clause-within c =
    let ok = c.self.invariant in
    let from : 0 < c.args.site.0 = omega (arith, c.if-site-eq0.false) in
    let to : c.args.site.0 ≤ length c.self.inside.links.items = omega (arith, c.if-site-len.false, c.len.ensures) in
    let is = link_here _ ok c.args.site.0 c.index-link.result.now from to c.index-link.ensures in
    let n = ap (λ (l : LinkState). l.seen + length l.chain) (sym is) ∙ link_long _ ok.history.0 ok.history.1 ok.rows ok.cols ok.sites c.args.site.0 from to in
    omega (arith, n, c.if-up-self.false)

pub seen_size-size-requires-clause-rows : goal.seen_size-size-requires-clause-rows
seen_size-size-requires-clause-rows c =
    let ok = c.self.invariant in
    let from : 0 < c.args.site.0 = omega (arith, c.if-site-eq0.false) in
    let to : c.args.site.0 ≤ length c.self.inside.links.items = omega (arith, c.if-site-len.false, c.len.ensures) in
    let is = link_here _ ok c.args.site.0 c.index-link.result.now from to c.index-link.ensures in
    let h = (link_small _ ok.history.0 ok.history.1 ok.rows ok.cols ok.sites c.args.site.0 from to).0 in
    let n = ap (λ (l : LinkState). (sizes_past l.base l.chain).rows) is in
    omega (arith, h, n)

pub seen_size-size-requires-clause-cols : goal.seen_size-size-requires-clause-cols
seen_size-size-requires-clause-cols c =
    let ok = c.self.invariant in
    let from : 0 < c.args.site.0 = omega (arith, c.if-site-eq0.false) in
    let to : c.args.site.0 ≤ length c.self.inside.links.items = omega (arith, c.if-site-len.false, c.len.ensures) in
    let is = link_here _ ok c.args.site.0 c.index-link.result.now from to c.index-link.ensures in
    let h = (link_small _ ok.history.0 ok.history.1 ok.rows ok.cols ok.sites c.args.site.0 from to).1 in
    let n = ap (λ (l : LinkState). (sizes_past l.base l.chain).cols) is in
    omega (arith, h, n)

pub fits-requires : goal.fits-requires
fits-requires c =
    let ok = c.self.invariant in
    let from : 0 < c.args.site.0 = omega (arith, c.if-site-eq0.false) in
    let to : c.args.site.0 ≤ length c.self.inside.links.items = omega (arith, c.if-site-len.false, c.len.ensures) in
    let x = c.index-link.result.now in
    let is = link_here _ ok c.args.site.0 c.index-link.result.now from to c.index-link.ensures in
    let h = (link_small _ ok.history.0 ok.history.1 ok.rows ok.cols ok.sites c.args.site.0 from to).0 in
    let n = ap (λ (l : LinkState). (sizes_past l.base l.chain).rows) is in
    let f = (front_small x.base x.chain (c.args.up.now.seen - x.seen)).0 in
    let z = ap (λ (z : Size). z.rows) c.seen_size-size.ensures in
    omega (arith, h, n, f, z)

pub returns-in-Some-clause-cause : goal.returns-in-Some-clause-cause
returns-in-Some-clause-cause c H r =
    let ok = c.self.invariant in
    let from : 0 < c.args.site.0 = omega (arith, c.if-site-eq0.false) in
    let to : c.args.site.0 ≤ length c.self.inside.links.items = omega (arith, c.if-site-len.false, c.len.ensures) in
    let up = c.args.up.now in
    let is = link_here _ ok c.args.site.0 c.index-link.result.now from to c.index-link.ensures in
    let its = is ∙ sym c.link.view_is in
    let found = ap (λ (l : LinkState). misfit (intent_tests (seen_size l up.seen) up.intent)) is
    ∙ (ap (λ (z : Size). misfit (intent_tests z up.intent)) (sym c.seen_size-size.ensures) ∙ (sym c.fits.ensures.misfit ∙ c.in-Some.is)) in
    subst (λ (s : ServerState). IsRefused s.size s.sites H (entry_of c.args.site.0 c.args.up.now) (fault.BadPlace c.in-Some.k)) c.self.view_is
    (misfit_here _ H (subst (λ (s : ServerState). ServerRepresents s H) (sym c.self.view_is) r) ok.rows ok.cols ok.sites c.args.site.0 c.args.up.now from to
    (subst (λ (l : LinkState). l.issued < 1000) (sym its) c.if-link-ge-MOST_OPERATIONS.false) (subst (λ (l : LinkState). l.seen ≤ c.args.up.now.seen) (sym its) c.if-up-link.false) c.if-up-self.false c.in-Some.k found)

pub returns-in-None-clause-cause : goal.returns-in-None-clause-cause
returns-in-None-clause-cause c H r =
    let ok = c.self.invariant in
    let from : 0 < c.args.site.0 = omega (arith, c.if-site-eq0.false) in
    let to : c.args.site.0 ≤ length c.self.inside.links.items = omega (arith, c.if-site-len.false, c.len.ensures) in
    let up = c.args.up.now in
    let is = link_here _ ok c.args.site.0 c.index-link.result.now from to c.index-link.ensures in
    let its = is ∙ sym c.link.view_is in
    subst (λ (s : ServerState). IsAdmitted s.size s.sites H (entry_of c.args.site.0 c.args.up.now)) c.self.view_is
    (admitted_here _ H (subst (λ (s : ServerState). ServerRepresents s H) (sym c.self.view_is) r) ok.rows ok.cols ok.sites c.args.site.0 c.args.up.now from to
    (record {
      from = from;
      to = to;
      few = subst (λ (l : LinkState). l.issued < 1000) (sym its) c.if-link-ge-MOST_OPERATIONS.false;
      low = subst (λ (l : LinkState). l.seen ≤ c.args.up.now.seen) (sym its) c.if-up-link.false;
      high = c.if-up-self.false;
      fits = subst (λ (z : Size). IntentFits z up.intent) (c.seen_size-size.ensures ∙ ap (λ (l : LinkState). seen_size l up.seen) (sym is)) (c.in-None.ensures.fits.0 refl);
    }))
