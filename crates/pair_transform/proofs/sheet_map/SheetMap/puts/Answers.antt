use Rattle.std.proofs.Common.{List, ap, sym, subst, arith}
use Rattle.sheet_ops.specs.declared.content.Put.{Put}
use Rattle.sheet_ops.specs.Fits.{PutsFit}
use Rattle.pair_transform.proofs.Kept.{put_fits}
use Rattle.pair_transform.proofs.sheet_map.SheetMap.puts.Goals as goal

pub content-requires-clause-fits : goal.content-requires-clause-fits
content-requires-clause-fits c =
    let fit = subst (λ (ps : List Put). PutsFit c.args.self.now.size ps) (sym c.as_slice-put-items.ensures) c.requires.fit in
    rw c.put-item.is ((put_fits c.args.self.now.size c.as_slice-put-items.result.now c.loop-put.put-index c.put-item.result c.loop-put-test.true fit).2)

pub rec-requires : goal.rec-requires
rec-requires c =
    let fit = subst (λ (ps : List Put). PutsFit c.args.self.now.size ps) (sym c.as_slice-put-items.ensures) c.requires.fit in
    let h = put_fits c.args.self.now.size c.as_slice-put-items.result.now c.loop-put.put-index c.put-item.result c.loop-put-test.true fit in
    omega (arith, h.0, ap (λ (p : Put). p.row) c.put-item.is, c.requires.map.few_rows)

pub rec-requires-in-loop-put : goal.rec-requires-in-loop-put
rec-requires-in-loop-put c =
    let fit = subst (λ (ps : List Put). PutsFit c.args.self.now.size ps) (sym c.as_slice-put-items.ensures) c.requires.fit in
    let h = put_fits c.args.self.now.size c.as_slice-put-items.result.now c.loop-put.put-index c.put-item.result c.loop-put-test.true fit in
    omega (arith, h.1, ap (λ (p : Put). p.col) c.put-item.is, c.requires.map.few_cols)
