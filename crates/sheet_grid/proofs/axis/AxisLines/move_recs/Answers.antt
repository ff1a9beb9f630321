use Rattle.std.proofs.Common.{◌≡◌, subst, sym, length}
use Rattle.marked_lines.specs.Moves.{MovesBelow}
use Rattle.sheet_grid.specs.Kept.{NumberedAxis}
use Rattle.sheet_grid.specs.Numbering.{IsAxis}
use Rattle.sheet_grid.proofs.NumberPlaces.{axis_moved_still}
use Rattle.sheet_grid.proofs.axis.AxisLines.move_recs.Goals as goal

pub invariant_of-self : goal.invariant_of-self
invariant_of-self c =
    let same : ◌≡◌ {A = NumberedAxis} (record { slots = c.self.inside.slots; recs = c.self.inside.recs; marks = c.permute.new.self }) (record { slots = c.self.inside.slots; recs = c.self.inside.recs; marks = c.self.inside.marks }) = λ i. record { slots = c.self.inside.slots; recs = c.self.inside.recs; marks = c.in_err-permute.ensures.err i } in
    subst IsAxis (sym same) c.self.invariant

pub invariant_of-self-2 : goal.invariant_of-self-2
invariant_of-self-2 c =
    axis_moved_still (record { slots = c.self.inside.slots; recs = c.self.inside.recs; marks = c.self.inside.marks }) c.self.invariant c.args.perm.now c.requires.proper
    (subst (λ (k : NumberedAxis). MovesBelow (length k.slots) c.args.perm.now) (sym c.self.view_is) c.requires.below) _
    (λ i. record { slots = c.self.inside.slots; recs = c.in_ok-recs.ensures i; marks = c.in_ok-permute.ensures.ok i })
