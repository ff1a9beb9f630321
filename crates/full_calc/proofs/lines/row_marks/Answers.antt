use Rattle.std.proofs.Common.{◌≡◌, ◌≤◌, List, Bool, length, ap, arith}
use Rattle.ss_base.specs.declared.types.Size.{Size}
use Rattle.sheet_grid.specs.Values.{placed_in}
use Rattle.full_calc.proofs.Counted.{marks_more, all_marks}
use Rattle.full_calc.proofs.lines.row_marks.Goals as goal
use Rattle.full_calc.proofs.lines.row_marks.Goals.{After-loop-p}

pub loop-p-init : goal.loop-p-init
loop-p-init c = c.new-marks.ensures.items

pub loop-p-preserved : goal.loop-p-preserved
loop-p-preserved c =
    marks_more (placed_in c.args.sheet.now).rows c.loop-p.p c.is_row_marked.result c.loop-p.marks.items c.push.new.self.items c.loop-p.invariant c.in_ok-push.ensures.items c.is_row_marked.ensures

module _ (c : After-loop-p) where
  counted : length (placed_in c.args.sheet.now).rows ≤ c.loop-p.p
  counted = let same = ap (λ (s : Size). s.rows) c.size-p-end.ensures.size in omega (arith, same, c.loop-p-test.false)

  whole : c.loop-p.marks.items ≡ (placed_in c.args.sheet.now).rows
  whole = all_marks (placed_in c.args.sheet.now).rows c.loop-p.marks.items c.loop-p.p c.loop-p.invariant counted

pub returns-clause-marks : goal.returns-clause-marks
returns-clause-marks c = whole c

pub returns-clause-few : goal.returns-clause-few
returns-clause-few c =
    let same = ap (λ (s : Size). s.rows) c.size-p-end.ensures.size in
    let long = ap (λ (marks : List Bool). length marks) (whole c) in
    omega (arith, same, long, c.size-p-end.ensures.rows)
