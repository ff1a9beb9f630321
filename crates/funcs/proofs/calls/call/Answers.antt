use Rattle.funcs.proofs.Limits.{result_within, known_within, mid-within, match-within, sumif-within, if-within, choose-within, index-within, vlookup-within}
use Rattle.funcs.proofs.calls.call.Goals as goal

pub returns-in-Mid-clause-limit : goal.returns-in-Mid-clause-limit
returns-in-Mid-clause-limit g c = λ short h. result_within _ _ c.mid_fn.ensures (mid-within (g.L.Look.environment c.args.look.now) c.args.args.now)

pub returns-in-Match-clause-limit : goal.returns-in-Match-clause-limit
returns-in-Match-clause-limit g c = λ short h. known_within _ _ c.match_fn.ensures (match-within (g.L.Look.environment c.args.look.now) c.args.args.now)

pub returns-in-Sumif-clause-limit : goal.returns-in-Sumif-clause-limit
returns-in-Sumif-clause-limit g c = λ short h. known_within _ _ c.sumif_fn.ensures (sumif-within (g.L.Look.environment c.args.look.now) c.args.args.now)

pub returns-in-If-clause-limit : goal.returns-in-If-clause-limit
returns-in-If-clause-limit g c =
    λ short h. result_within _ _ c.if_fn.ensures (if-within (g.L.Look.environment c.args.look.now) short c.args.args.now h)

pub returns-in-Choose-clause-limit : goal.returns-in-Choose-clause-limit
returns-in-Choose-clause-limit g c =
    λ short h. result_within _ _ c.choose_fn.ensures (choose-within (g.L.Look.environment c.args.look.now) short c.args.args.now h)

pub returns-in-Index-clause-limit : goal.returns-in-Index-clause-limit
returns-in-Index-clause-limit g c =
    λ short h. result_within _ _ c.index_fn.ensures (index-within (g.L.Look.environment c.args.look.now) short c.args.args.now)

pub returns-in-Vlookup-clause-limit : goal.returns-in-Vlookup-clause-limit
returns-in-Vlookup-clause-limit g c =
    λ short h. result_within _ _ c.vlookup_fn.ensures (vlookup-within (g.L.Look.environment c.args.look.now) short c.args.args.now)
