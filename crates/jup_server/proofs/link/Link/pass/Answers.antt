use Rattle.std.proofs.Common.{◌≡◌, ◌≤◌, ◌-◌, ap, sym, ◌∙◌, subst, drop, arith}
use Rattle.ss_base.specs.declared.types.Size.{Size}
use Rattle.sheet_ops.specs.Chains.{sizes_past, EachChainFits}
use Rattle.sheet_ops.specs.Represents.{LinkState}
use Rattle.jup_server.specs.Servers.{seen_size}
use Rattle.jup_server.proofs.Along.{cut_back, cut_fits}
use Rattle.jup_server.proofs.link.Link.pass.Goals as goal

pub pass_chain-requires-clause-rows : goal.pass_chain-requires-clause-rows
pass_chain-requires-clause-rows c =
    let n = c.args.seen - c.self.inside.seen in
    let xs = c.self.inside.chain.items in
    let small = subst (λ (l : LinkState). (sizes_past l.base l.chain).rows ≤ 15000) (sym c.self.view_is) c.requires.rows in
    let size = subst (λ (l : LinkState). c.args.size ≡ seen_size l c.args.seen) (sym c.self.view_is) c.requires.size in
    let e = ap (λ (z : Size). sizes_past z (drop n xs)) size ∙ cut_back c.self.inside.base xs n in
    omega (arith, small, ap (λ (z : Size). z.rows) e)

pub pass_chain-requires-clause-cols : goal.pass_chain-requires-clause-cols
pass_chain-requires-clause-cols c =
    let n = c.args.seen - c.self.inside.seen in
    let xs = c.self.inside.chain.items in
    let small = subst (λ (l : LinkState). (sizes_past l.base l.chain).cols ≤ 15000) (sym c.self.view_is) c.requires.cols in
    let size = subst (λ (l : LinkState). c.args.size ≡ seen_size l c.args.seen) (sym c.self.view_is) c.requires.size in
    let e = ap (λ (z : Size). sizes_past z (drop n xs)) size ∙ cut_back c.self.inside.base xs n in
    omega (arith, small, ap (λ (z : Size). z.cols) e)

pub pass_chain-requires-clause-chain : goal.pass_chain-requires-clause-chain
pass_chain-requires-clause-chain c =
    let n = c.args.seen - c.self.inside.seen in
    let xs = c.self.inside.chain.items in
    let size = subst (λ (l : LinkState). c.args.size ≡ seen_size l c.args.seen) (sym c.self.view_is) c.requires.size in
    let fits = subst (λ (l : LinkState). EachChainFits l.base l.chain) (sym c.self.view_is) c.requires.chain in
    subst (λ (z : Size). EachChainFits z (drop n xs)) (sym size) (cut_fits c.self.inside.base xs n fits)
