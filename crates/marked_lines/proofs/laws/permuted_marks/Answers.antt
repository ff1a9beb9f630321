use Rattle.marked_lines.proofs.Permuting.{slice_get-permute, length-permuted_from}
use Rattle.marked_lines.proofs.laws.permuted_marks.Goals as goal

pub returns-clause-marks : goal.returns-clause-marks
returns-clause-marks c = λ moves perm marks below p within. slice_get-permute moves perm marks below p within

pub returns-clause-len : goal.returns-clause-len
returns-clause-len c = λ moves marks. length-permuted_from moves marks 0 marks
