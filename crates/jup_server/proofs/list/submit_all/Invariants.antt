use Rattle.std.proofs.Common.{◌≡◌, ◌≤◌, List, length, take}
use Rattle.std.specs.Prelude.{vec_capacity}
use Rattle.sheet_ops.specs.declared.operation.Entry.{Entry}
use Rattle.sheet_ops.specs.Represents.{ServerRepresents}
use Rattle.jup_server.specs.Answers.{AnswersAll}
use Rattle.jup_server.proofs.list.submit_all.Given as goal

abbrev pub invariant-loop-sent : goal.invariant-loop-sent
invariant-loop-sent l = record {
  answered : (H : List Entry) → ServerRepresents l.fn.server H → (K : List Entry) × AnswersAll l.fn.server.size l.fn.server.sites H (take l.sent-index l.sent-items) l.answers.items K × ServerRepresents l.server K;
  size : l.server.size ≡ l.fn.server.size;
  sites : l.server.sites ≡ l.fn.server.sites;
  many : length l.answers.items ≡ l.sent-index;
  room : length l.sent-items ≤ vec_capacity l.answers;
}
