use Rattle.std.proofs.Common.{◌≤◌, length, subst}
use Rattle.std.proofs.lemmas.Result.{err_from_is_err_and}
use Rattle.formula_read.specs.declared.kinds.Token.{Token}
use Rattle.formula_read.specs.Places.{tokens_of}
use Rattle.formula_read.proofs.Pieces.{reached_at, reached_token}
use Rattle.formula_read.proofs.Answered.{walk_goes, walk_refused}
use Rattle.formula_read.proofs.tree.operand_of.Goals as goal

pub bytes_of-bytes-requires : goal.bytes_of-bytes-requires
bytes_of-bytes-requires c =
    let (l, r) = reached_at c.args.text.now c.args.tokens.now c.requires.0 c.requires.1 c.loop-token.token-index _ c.loop-token-test.true in
    record {
      order = subst (λ (t : Token). t.from ≤ t.to) r.is r.place.order;
      within = subst (λ (t : Token). t.to ≤ length c.args.text.now) r.is r.place.within;
    }

pub step-requires : goal.step-requires
step-requires c =
    let (l, r) = reached_at c.args.text.now c.args.tokens.now c.requires.0 c.requires.1 c.loop-token.token-index _ c.loop-token-test.true in
    (l.token, reached_token c.args.text.now c.requires.0 c.loop-token.token-index _ l r c.bytes_of-bytes.result.now c.bytes_of-bytes.ensures)

pub returns-in_err-side : goal.returns-in_err-side
returns-in_err-side c ls h =
    let p = err_from_is_err_and c.from_residual.result c.from_residual.ensures.1 in
    let (l, r) = reached_at c.args.text.now c.args.tokens.now ls h c.loop-token.token-index _ c.loop-token-test.true in
    let token = reached_token c.args.text.now ls c.loop-token.token-index _ l r c.bytes_of-bytes.result.now c.bytes_of-bytes.ensures in
    rw (p.1, p.2)
    (walk_refused (tokens_of ls) c.loop-token.token-index l.token c.loop-token.side c.loop-token.frames r.rest (c.loop-token.invariant ls h)
    c.in_err-side.field-0.0 c.step.new.frames (c.in_err-side.ensures l.token token))

pub loop-token-preserved : goal.loop-token-preserved
loop-token-preserved c ls h =
    let (l, r) = reached_at c.args.text.now c.args.tokens.now ls h c.loop-token.token-index _ c.loop-token-test.true in
    let token = reached_token c.args.text.now ls c.loop-token.token-index _ l r c.bytes_of-bytes.result.now c.bytes_of-bytes.ensures in
    walk_goes (tokens_of ls) c.loop-token.token-index l.token c.loop-token.side c.loop-token.frames r.rest (c.loop-token.invariant ls h)
    c.in_ok-side.side c.step.new.frames (c.in_ok-side.ensures l.token token)
