use Rattle.pair_transform.proofs.Kept.{own_left, effect_brings_none}
use Rattle.pair_transform.proofs.changes.leaves_own.Goals as goal

pub returns-in-Write : goal.returns-in-Write
returns-in-Write c = record { own = λ yes own. own_left own c.args.other.now c.in-Write.is; size = λ yes. effect_brings_none c.args.other.now c.in-Write.is }

pub returns-in-Write-2 : goal.returns-in-Write-2
returns-in-Write-2 c = record { own = λ yes own. own_left own c.args.other.now c.in-Write.is; size = λ yes. effect_brings_none c.args.other.now c.in-Write.is }

pub returns-in-Write-3 : goal.returns-in-Write-3
returns-in-Write-3 c = record { own = λ yes own. own_left own c.args.other.now c.in-Write.is; size = λ yes. effect_brings_none c.args.other.now c.in-Write.is }
