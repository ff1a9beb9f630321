use Rattle.std.proofs.Common.{◌≡◌, length, slice_index, ◌∙◌, sym}
use Rattle.std.specs.List.{zip}
use Rattle.std.proofs.lemmas.Result.{IfOk-weaker}
use Rattle.marked_lines.specs.Moves.{image}
use Rattle.marked_lines.proofs.Zips.{zip_undoes, length_same, image_zip-at, image_zip-none, none_there}
use Rattle.marked_lines.proofs.perm.Perm.from_lists.Goals as goal
use Rattle.marked_lines.proofs.perm.Perm.from_lists.Goals.{In_ok-pairs}

as_long : (c : In_ok-pairs) → length c.args.from.now ≡ length c.args.to.now
as_long c = length_same c.args.from.now c.args.to.now c.requires.from_once c.requires.to_once (λ p. (c.requires.same p).0) (λ p. (c.requires.same p).1)

pub settled-requires : goal.settled-requires
settled-requires c =
    let from = c.args.from.now in
    let to = c.args.to.now in
    record {
      bijective = rw c.in_ok-pairs.ensures (
        image (zip to from),
        zip_undoes from to c.requires.from_once c.requires.to_once (as_long c) (λ p. (c.requires.same p).1),
        zip_undoes to from c.requires.to_once c.requires.from_once (sym (as_long c)) (λ p. (c.requires.same p).0),
      );
    }

pub returns-clause-sends : goal.returns-clause-sends
returns-clause-sends c =
    let pairs = (goal.at.returns-clause-sends c).In_ok-pairs in
    IfOk-weaker c.settled.result _ _
    (λ r h k within. h.1 (slice_index c.args.from.now k) ∙ rw c.in_ok-pairs.ensures (image_zip-at c.args.from.now c.args.to.now c.requires.from_once (as_long pairs) k within))
    c.settled.ensures

pub returns-clause-others : goal.returns-clause-others
returns-clause-others c =
    IfOk-weaker c.settled.result _ _
    (λ r h p missing. h.1 p ∙ rw c.in_ok-pairs.ensures (image_zip-none c.args.from.now c.args.to.now p (none_there c.args.from.now p missing)))
    c.settled.ensures
