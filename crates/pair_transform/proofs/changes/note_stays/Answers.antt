use Rattle.std.proofs.Common.{[], ◌∷◌, length, refl, ap, ◌∙◌, arith, None}
use Rattle.std.proofs.lemmas.List.{length-append}
use Rattle.pair_transform.proofs.Replaced.{one_stays}
use Rattle.pair_transform.proofs.changes.note_stays.Goals as goal

pub loop-init : goal.loop-init
loop-init g c = record { same = λ xs h. refl; many = omega arith }

pub loop-preserved : goal.loop-preserved
loop-preserved g c =
    let inv = c.loop.invariant in
    record {
      same = one_stays c.loop.changes.items c.args.end c.args.changes.now.items (omega (arith, inv.many, c.loop-test.true, c.requires, c.len.ensures, c.args.changes.now.ok)) inv.same c.push_back.new.self.items c.in_ok-push_back.ensures.items;
      many = ap length c.in_ok-push_back.ensures.items ∙ (length-append c.loop.changes.items (None ∷ []) ∙ omega (arith, inv.many));
    }

pub returns-clause-same : goal.returns-clause-same
returns-clause-same g c = c.loop.invariant.same

pub returns-clause-many : goal.returns-clause-many
returns-clause-many g c = omega (arith, c.loop.invariant.many, c.loop-test.false, c.requires, c.len.ensures, c.args.changes.now.ok)
