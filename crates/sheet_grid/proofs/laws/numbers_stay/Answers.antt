use Rattle.sheet_grid.proofs.NumberedPast.{row_recs_kept, col_recs_kept, col_slots_kept}
use Rattle.sheet_grid.proofs.laws.numbers_stay.Goals as goal

pub returns-clause-row_recs : goal.returns-clause-row_recs
returns-clause-row_recs c V e whole fits p within = row_recs_kept V whole e fits p within

pub returns-clause-col_slots : goal.returns-clause-col_slots
returns-clause-col_slots c V e whole fits p within = col_slots_kept V e fits p

pub returns-clause-col_recs : goal.returns-clause-col_recs
returns-clause-col_recs c V e whole fits p within = col_recs_kept V whole e fits p within
