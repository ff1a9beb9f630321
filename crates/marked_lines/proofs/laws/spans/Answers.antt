use Rattle.marked_lines.proofs.Indexes.{span_order, within_span, span_none}
use Rattle.marked_lines.proofs.laws.spans.Goals as goal

pub returns-clause-order : goal.returns-clause-order
returns-clause-order c = span_order

pub returns-clause-between : goal.returns-clause-between
returns-clause-between c = within_span

pub returns-clause-none : goal.returns-clause-none
returns-clause-none c = span_none
