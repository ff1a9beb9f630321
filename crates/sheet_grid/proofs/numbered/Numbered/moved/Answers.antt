use Rattle.std.proofs.Common.{ℕ, List, length, subst, sym}
use Rattle.marked_lines.specs.Moves.{MovesBelow}
use Rattle.sheet_grid.proofs.MovedRecords.{numbered_moved}
use Rattle.sheet_grid.proofs.numbered.Numbered.moved.Goals as goal

pub invariant_of-result : goal.invariant_of-result
invariant_of-result c =
    let below : MovesBelow (length c.self.inside.numbers.items) c.args.perm.now = subst (λ (ns : List ℕ). MovesBelow (length ns) c.args.perm.now) (sym c.self.view_is) c.requires.below in
    rw (c.in_ok-numbers.ensures, c.in_ok-places.ensures, c.deref.ensures.value) (numbered_moved c.self.inside.numbers.items c.self.inside.places.items c.self.invariant c.args.perm.now c.requires.proper below)
