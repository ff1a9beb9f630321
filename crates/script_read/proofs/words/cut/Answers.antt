use Rattle.std.proofs.Common.{sym}
use Rattle.script_read.proofs.Cuts.{words_whole, words_cut}
use Rattle.cell_addr.proofs.Slices.{take-drop_rest}
use Rattle.script_read.proofs.words.cut.Goals as goal

pub returns-in-None : goal.returns-in-None
returns-in-None c = words_whole c.args.text.now (sym c.in-None.ensures.place)

pub returns-in-Some : goal.returns-in-Some
returns-in-Some c = simp take-drop_rest (words_cut c.args.text.now c.in-Some.space (sym c.in-Some.ensures.place))
