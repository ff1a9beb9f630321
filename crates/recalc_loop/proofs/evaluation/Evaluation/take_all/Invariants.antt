use Rattle.std.proofs.Common.{◌≡◌, ◌+◌, ℕ, List}
use Rattle.ss_base.specs.declared.types.Size.{Size}
use Rattle.sheet_ops.specs.declared.operation.Entry.{Entry}
use Rattle.sheet_ops.specs.Placed.{placed}
use Rattle.sheet_ops.specs.Represents.{sheet_at}
use Rattle.sheet_grid.specs.Values.{placed_in}
use Rattle.recalc_loop.specs.Evaluations.{AreNext}
use Rattle.recalc_loop.proofs.evaluation.Evaluation.take_all.Given as goal

abbrev pub invariant-loop-effect : goal.invariant-loop-effect
invariant-loop-effect l = record {
  values : l.self.values ≡ l.initial.self.values;
  count : l.self.length ≡ l.initial.self.length + l.effect-index;
  sheet : (size : Size) (sites : ℕ) (H : List Entry) → AreNext size sites H l.initial.self l.effects → placed (sheet_at size H l.self.length) ≡ placed_in l.self.sheet;
}
