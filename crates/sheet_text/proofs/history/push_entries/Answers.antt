use Rattle.formula_print.proofs.Calls.{both_appended}
use Rattle.sheet_text.specs.Operations.{entry_text}
use Rattle.sheet_text.proofs.Appended.{numbered_more}
use Rattle.sheet_text.proofs.history.push_entries.Goals as goal

pub loop-i-preserved : goal.loop-i-preserved
loop-i-preserved c =
    both_appended c.args.out.now.items _ _ _ _ c.loop-i.out.items c.push_number.new.out.items c.push_entry.new.out.items
    c.loop-i.invariant c.in_ok-push_number.ensures c.in_ok-push_entry.ensures
    (numbered_more (entry_text c.args.names.now) c.args.entries.now c.loop-i.i c.index-entries-i.result c.loop-i-test.true c.index-entries-i.is)
