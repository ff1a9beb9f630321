use Rattle.std.proofs.Common.{◌≡◌, ◌++◌, ℕ, suc, List, length, take, Some}
use Rattle.std.specs.Prelude.{slice_get}
use Rattle.std.specs.List.{flat_map}
use Rattle.ss_base.specs.declared.types.Size.{Size}
use Rattle.sheet_ops.specs.declared.operation.Entry.{Entry}
use Rattle.sheet_ops.specs.History.{sheet_of}
use Rattle.sheet_ops.specs.Represents.{ClientState}
use Rattle.live_record.specs.Records.{replica_text, HasTakenAll}
use Rattle.live_record.proofs.text.push_replicas.Given as goal

abbrev pub invariant-loop-k : goal.invariant-loop-k
invariant-loop-k l =
    (size : Size) (H : List Entry) → ((k : ℕ) (c : ClientState) → slice_get l.clients k ≡ Some c → HasTakenAll size H (suc k) c) →
    l.out.items ≡ l.initial.out.items ++ flat_map (replica_text (sheet_of size H) (length H)) (take l.k l.sites)
