use Rattle.std.proofs.Common.{ap, arith}
use Rattle.sheet_grid.specs.Values.{placed_in}
use Rattle.jup_client.proofs.Stays.{edit_at, has_room, unchanged, popped}
use Rattle.jup_client.proofs.client.Client.issue.Goals as goal

pub apply_own-requires-clause-rows : goal.apply_own-requires-clause-rows
apply_own-requires-clause-rows c = (has_room _ c.self.invariant).0

pub apply_own-requires-clause-cols : goal.apply_own-requires-clause-cols
apply_own-requires-clause-cols c = (has_room _ c.self.invariant).1

pub returns-in-Ok-apply_own-clause-represents : goal.returns-in-Ok-apply_own-clause-represents
returns-in-Ok-apply_own-clause-represents c sites H G valid r front =
    edit_at _ c.args.self.now c.self.view_is c.self.invariant sites H G valid r front c.args.intent.now c.in_ok-kept.kept c.requires
    (placed_in c.apply_own.new.sheet) c.in-Ok-apply_own.ensures.step c.push_back.new.self.items c.in-Ok.ensures.items c.in_ok-kept.ensures

pub returns-in-Err-clause-err : goal.returns-in-Err-clause-err
returns-in-Err-clause-err c =
    unchanged _ c.args.self.now c.self.view_is (placed_in c.apply_own.new.sheet) (ap placed_in c.in-Err.ensures.err) c.pop_back.new.self.items
    (popped c.self.inside.pending.items c.push_back.new.self.items c.pop_back.new.self.items c.in_ok-kept.kept _ c.in-Ok.ensures.items c.pop_back.ensures.rest (omega (arith, c.in-Ok.ensures.len, c.self.inside.pending.ok)))
