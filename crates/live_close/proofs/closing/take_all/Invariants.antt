use Rattle.std.proofs.Common.{List}
use Rattle.sheet_ops.specs.declared.operation.Entry.{Entry}
use Rattle.sheet_ops.specs.Represents.{ClientRepresents}
use Rattle.live_session.specs.Pulling.{AreNextMessages, HasTakenMore}
use Rattle.live_close.proofs.closing.take_all.Given as goal

abbrev pub invariant-loop-down : goal.invariant-loop-down
invariant-loop-down l = record {
  took : HasTakenMore l.down-index l.initial.client l.client;
  represents : (H G : List Entry) → AreNextMessages l.initial.client H G l.downs → ClientRepresents l.client H G;
}
