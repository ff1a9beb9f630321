use Rattle.std.proofs.Common.{ap, ◌∙◌}
use Rattle.std.specs.Prelude.{fold}
use Rattle.sheet_value.specs.Snapshots.{cell_in, with_change}
use Rattle.value_snap.specs.Lists.{replay_of}
use Rattle.value_snap.proofs.CellValues.{cells_changed, cells_kept}
use Rattle.value_snap.proofs.Replays.{replay_full, replay_end, replay_length, replay_no_empty}
use Rattle.value_snap.proofs.law.replay_is_the_snapshot.Goals as goal

pub returns-clause-upto : goal.returns-clause-upto
returns-clause-upto c size list b = ap (λ s. s.length) (replay_full size list b)

pub returns-clause-rows : goal.returns-clause-rows
returns-clause-rows c size list b = ap (λ s. s.row_order) (replay_full size list b)

pub returns-clause-cols : goal.returns-clause-cols
returns-clause-cols c size list b = ap (λ s. s.col_order) (replay_full size list b)

pub returns-clause-changed : goal.returns-clause-changed
returns-clause-changed c size list b before change after is apart =
    ap (λ s. cell_in s.cells change.row change.col) (replay_full size list b)
    ∙ ap (λ cs. cell_in (fold with_change (replay_of size list).cells cs) change.row change.col) is
    ∙ cells_changed (replay_of size list).cells before change after apart

pub returns-clause-unchanged : goal.returns-clause-unchanged
returns-clause-unchanged c size list b row col apart =
    ap (λ s. cell_in s.cells row col) (replay_full size list b) ∙ cells_kept (replay_of size list).cells row col b.changes apart

pub returns-clause-mark : goal.returns-clause-mark
returns-clause-mark c = replay_end

pub returns-clause-no_empty : goal.returns-clause-no_empty
returns-clause-no_empty c = replay_no_empty

pub returns-clause-length : goal.returns-clause-length
returns-clause-length c = replay_length
