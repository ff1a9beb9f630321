use Rattle.std.proofs.Common.{◌≡◌, true, arith}
use Rattle.formula_tree.specs.Erase.{tree_of}
use Rattle.generated_run.proofs.SameTrees.{same_calls, same_at}
use Rattle.generated_run.proofs.contents.+same.Goals as goal

pub same_exprs-returns-then-same_functions : goal.same_exprs-returns-then-same_functions
same_exprs-returns-then-same_functions t c =
    same_calls c.args.a.now c.args.b.now c.in-Call-Call.o c.in-Call-Call.p c.in-Call-Call.ds c.in-Call-Call.es c.as_slice.result.now c.as_slice-then-same_functions.result.now c.same_lists.result
    c.in-Call-Call.is-0 c.in-Call-Call.is-1 (c.same_functions.ensures.0 c.if-same_functions.true) c.as_slice.ensures c.as_slice-then-same_functions.ensures c.same_lists.ensures

pub same_lists-returns-then-not-same_exprs : goal.same_lists-returns-then-not-same_exprs
same_lists-returns-then-not-same_exprs t c = (
  (λ e. absurd (cc)),
  (λ e.
      let here = same_at tree_of c.args.ds.now c.args.es.now c.loop-i.i c.index-ds-i.result c.index-es-i.result (omega arith) (omega arith) c.index-ds-i.is c.index-es-i.is e in
      let yes : c.same_exprs.result ≡ true = c.same_exprs.ensures.1 here in
      cc),
)
