use Rattle.std.proofs.Common.{◌≡◌, ◌+◌, ℕ, suc, ap, sym, ◌∙◌, arith}
use Rattle.std.specs.Prelude.{option_map, Option, Some}
use Rattle.funcs.specs.Refs.{owned}
use Rattle.funcs.specs.Areas.{items, same}
use Rattle.funcs.proofs.Filled.{next_place}
use Rattle.funcs.proofs.table.position.Goals as goal

pub returns-in-Some-clause-value : goal.returns-in-Some-clause-value
returns-in-Some-clause-value c =
    ap (λ (n : ℕ). Some n) (let z : c.in-Some.i + 1 ≡ suc c.in-Some.i = omega arith in z)
    ∙ (ap (λ (o : Option ℕ). option_map suc o) c.in-Some.ensures.place ∙ sym (next_place (λ v. same v (owned c.args.x)) 0 (items c.args.area.now)))

pub returns-in-None-clause-value : goal.returns-in-None-clause-value
returns-in-None-clause-value c =
    ap (λ (o : Option ℕ). option_map suc o) c.in-None.ensures.place ∙ sym (next_place (λ v. same v (owned c.args.x)) 0 (items c.args.area.now))
