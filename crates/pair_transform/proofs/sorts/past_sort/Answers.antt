use Rattle.std.proofs.Common.{ap, sym, ◌∙◌, subst}
use Rattle.ss_base.specs.declared.types.Size.{Size}
use Rattle.marked_lines.specs.Moves.{image}
use Rattle.sheet_ops.specs.declared.operation.Effect.TheVariants as effect
use Rattle.sheet_ops.specs.Fits.{IntentFits, EffectFits}
use Rattle.sheet_ops.specs.Chains.{size_past}
use Rattle.sheet_ops.specs.Naming.{effect_of_intent}
use Rattle.sheet_ops.specs.Transforms.{own_past, other_past}
use Rattle.sheet_ops.proofs.Again.{own_effect_fits}
use Rattle.pair_transform.proofs.Pair.{own_fits}
use Rattle.pair_transform.proofs.Sorted.{write_sorted, moves_sorted}
use Rattle.pair_transform.proofs.sorts.past_sort.Goals as goal

pub puts-requires-clause-map : goal.puts-requires-clause-map
puts-requires-clause-map c =
    let moves = subst (EffectFits c.args.size) c.in_ok-moves-in-Write.ensures (own_effect_fits c.args.size c.args.own.now c.requires.own) in
    record { few_rows = c.requires.rows; few_cols = c.requires.cols; rows = moves; cols = tt }

pub returns-in_ok-puts-in-Write : goal.returns-in_ok-puts-in-Write
returns-in_ok-puts-in-Write c =
    let size = c.args.size in
    let own = c.args.own.now in
    ap effect.Write c.in_ok-puts-in-Write.ensures
    ∙ (write_sorted size own c.requires.sort c.in_ok-moves-in-Write.moves c.in_ok-moves-in-Write.ensures c.in-Write.puts ∙ ap (other_past size own) (sym c.in-Write.is))

pub moves_of-requires-in-Move-2-clause-fits : goal.moves_of-requires-in-Move-2-clause-fits
moves_of-requires-in-Move-2-clause-fits c =
    let size = c.args.size in
    let own = c.args.own.now in
    let other = c.args.other.now in
    let fits : IntentFits (size_past size other) c.args.after.now = own_fits size own other c.requires.own c.requires.other c.args.after.now (other_past size own other) c.requires.after (λ i. other_past size own other) in
    (size, subst (λ (z : Size). IntentFits z c.args.after.now) (ap (size_past size) c.in-Move.is) fits)

pub returns-in_ok-then-in-Move-2 : goal.returns-in_ok-then-in-Move-2
returns-in_ok-then-in-Move-2 c =
    let size = c.args.size in
    let own = c.args.own.now in
    let moves = c.in-Move.moves in
    let anew = c.in_ok-anew-in-Move.anew in
    let fits = subst (EffectFits size) c.in-Move.is c.requires.other in
    moves_sorted size own c.requires.sort c.requires.own moves fits.0 fits.1 c.in_ok-moves_of-in-Move.field-0 anew c.in_ok-moves_of-in-Move.ensures
    (ap effect_of_intent (sym (c.requires.after ∙ ap (own_past own) c.in-Move.is)) ∙ c.in_ok-anew-in-Move.ensures)
    c.in_ok-then-in-Move-2.field-0 c.in_ok-then-in-Move-2.ensures.bijective
    (λ p. c.in_ok-then-in-Move-2.ensures.composed p ∙ ap (image anew) (c.in_ok-then-in-Move.ensures.composed p ∙ ap (image moves) (c.in_ok-undone-in-Move.ensures.inverse p)))
    ∙ ap (other_past size own) (sym c.in-Move.is)
