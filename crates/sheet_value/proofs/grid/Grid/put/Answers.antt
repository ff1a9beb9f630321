use Rattle.std.proofs.lemmas.Result.{on_err_weaker}
use Rattle.sheet_value.proofs.Columns.{put, put_nothing, both}
use Rattle.sheet_value.proofs.grid.Grid.put.Goals as goal

pub returns-clause-ok : goal.returns-clause-ok
returns-clause-ok c =
    both c.put.result
    (put c.self.inside.size c.self.inside.columns.items _ c.self.view_is c.self.invariant c.args.row c.args.col c.index_mut.result.now _ c.put.new.self c.index_mut.ensures.value
    c.requires.col c.args.value)
    c.put.ensures.here c.put.ensures.others

pub returns-clause-err : goal.returns-clause-err
returns-clause-err c =
    on_err_weaker c.put.result
    (put_nothing c.self.inside.size c.self.inside.columns.items _ c.self.view_is c.self.invariant c.args.row c.args.col c.index_mut.result.now _ c.put.new.self c.index_mut.ensures.value
    c.requires.col)
    c.put.ensures.err
