use Rattle.sheet_value.proofs.Orders.{order_total, level}
use Rattle.sheet_value.proofs.law.order_is_total.Goals as goal

pub returns-clause-total : goal.returns-clause-total
returns-clause-total c = order_total

pub returns-clause-level : goal.returns-clause-level
returns-clause-level c = level
