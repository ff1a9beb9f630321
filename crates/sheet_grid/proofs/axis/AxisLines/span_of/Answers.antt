use Rattle.std.proofs.Common.{◌≡◌, ◌<◌, ◌∙◌, ℕ, suc, ap, sym, subst, length, arith, Option}
use Rattle.std.specs.Prelude.{IfSome}
use Rattle.marked_lines.specs.Marks.{visible_before, span_of}
use Rattle.sheet_grid.specs.Kept.{NumberedAxis}
use Rattle.sheet_grid.proofs.NumberPlaces.{marks_few, marks_count}
use Rattle.sheet_grid.proofs.Spans.{span_turned, span_past, span_few, span_ended, end_within}
use Rattle.sheet_grid.proofs.axis.AxisLines.span_of.Goals as goal

pub returns-then-last-first-clause-value : goal.returns-then-last-first-clause-value
returns-then-last-first-clause-value c = sym (span_turned c.args.self.now.marks c.args.first c.args.last (omega (arith, c.if-last-first.true)))

pub returns-then-count-first-clause-value : goal.returns-then-count-first-clause-value
returns-then-count-first-clause-value c =
    let m = marks_count c.args.self.now c.len-count.ensures.kept in
    sym (span_past c.args.self.now.marks c.args.first c.args.last (omega (arith, m, c.len-count.ensures.value, c.if-count-first.true)))

pub returns-clause-value : goal.returns-clause-value
returns-clause-value c =
    let marks = c.self.inside.marks in
    let m = marks_count (record { slots = c.self.inside.slots; recs = c.self.inside.recs; marks = c.self.inside.marks }) c.self.invariant in
    let n = ap (λ (k : NumberedAxis). length k.slots) c.self.view_is in
    let count : c.len-count.result ≡ length marks = omega (arith, c.len-count.ensures.value, m, n) in
    c.span_of.ensures.value
    ∙ (span_ended marks c.args.first c.args.last c.last_within.result
    (ap (λ (q : ℕ). visible_before marks (suc q)) c.last_within.ensures.value ∙ end_within marks c.args.last c.len-count.result count (omega (arith, c.if-count-first.false)))
    ∙ ap (λ (k : NumberedAxis). span_of k.marks c.args.first c.args.last) c.self.view_is)

pub returns-clause-few : goal.returns-clause-few
returns-clause-few c =
    subst (λ (o : Option (ℕ × ℕ)). IfSome o (λ seen. (seen.0 < 16000) × (seen.1 < 16000))) (sym c.span_of.ensures.value)
    (span_few c.self.inside.marks c.args.first c.last_within.result (marks_few (record { slots = c.self.inside.slots; recs = c.self.inside.recs; marks = c.self.inside.marks }) c.self.invariant))
