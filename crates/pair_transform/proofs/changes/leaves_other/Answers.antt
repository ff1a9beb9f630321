use Rattle.std.proofs.Common.{ap}
use Rattle.sheet_ops.specs.declared.operation.Intent.{Intent}
use Rattle.sheet_ops.specs.Chains.{size_past}
use Rattle.sheet_ops.specs.Naming.{effect_of_intent}
use Rattle.pair_transform.proofs.Kept.{deletion_leaves, deletion_brings_none}
use Rattle.pair_transform.proofs.changes.leaves_other.Goals as goal

pub returns-in-Write-clause-size : goal.returns-in-Write-clause-size
returns-in-Write-clause-size c = λ yes size. ap (λ (d : Intent). size_past size (effect_of_intent d)) c.in-Write.is

pub returns-in-DelRow : goal.returns-in-DelRow
returns-in-DelRow c = record { other = λ yes size. deletion_leaves size c.args.own.now c.args.other.now c.in-DelRow.is; size = λ yes. deletion_brings_none c.args.own.now c.in-DelRow.is }

pub returns-in-DelRow-2 : goal.returns-in-DelRow-2
returns-in-DelRow-2 c = record { other = λ yes size. deletion_leaves size c.args.own.now c.args.other.now c.in-DelRow.is; size = λ yes. deletion_brings_none c.args.own.now c.in-DelRow.is }
