use Rattle.std.proofs.Common.{◌≡◌, ◌∙◌, ◌+◌, ◌-◌, ◌++◌, length, Ok, ap, sym, List, ℕ, map, take, drop, arith}
use Rattle.std.proofs.lemmas.Result.{err_from_is_err_and}
use Rattle.sheet_value.specs.Values.{text_value}
use Rattle.funcs.specs.Steps.{all_of}
use Rattle.funcs.specs.Args.{text}
use Rattle.funcs.proofs.Steps.{stopped}
use Rattle.funcs.proofs.Joined.{joined, joined-ok, joined-err, joined_end, concatenated}
use Rattle.funcs.proofs.text.concatenate.Goals as goal

pub returns-in_err-t : goal.returns-in_err-t
returns-in_err-t g c =
    let E = g.L.Look.environment c.args.look.now in
    let p = err_from_is_err_and c.from_residual-in_err-t.result c.from_residual-in_err-t.ensures.1 in
    rw (p.1, p.2) (stopped _ (text E c.a-item.result) _
    (λ d e. concatenated E c.args.args.now c.in_ok-one_or_more.ensures
    ∙ (c.loop-a.invariant ∙ joined-err (λ a. text E a) c.loop-a.joined.items c.args.args.now c.loop-a.a-index c.a-item.result c.loop-a-test.true c.a-item.is d e))
    c.in_err-t.ensures)

pub loop-a-preserved : goal.loop-a-preserved
loop-a-preserved g c =
    let E = g.L.Look.environment c.args.look.now in
    let bytes = c.loop-a.joined.items in
    let room : c.saturating_sub-room.result ≡ 128 - length bytes = grind (arith, c.saturating_sub-room.ensures, c.len.ensures) in
    let more : bytes ++ take (128 - length bytes) c.in_ok-t.t ≡ c.extend_from_slice.new.self.items =
    sym (c.in_ok-extend_from_slice.ensures.items ∙ ap (λ (bs : List ℕ). bytes ++ bs) (c.front.ensures ∙ (λ i. take (room i) (c.bytes.ensures i)))) in
    c.loop-a.invariant
    ∙ (joined-ok (λ a. text E a) bytes c.args.args.now c.loop-a.a-index c.a-item.result c.loop-a-test.true c.a-item.is c.in_ok-t.t c.in_ok-t.ensures
    ∙ ap (λ (bs : List ℕ). joined bs (all_of (map (λ a. text E a) (drop (c.loop-a.a-index + 1) c.args.args.now)))) more)

pub returns : goal.returns
returns g c =
    let E = g.L.Look.environment c.args.look.now in
    concatenated E c.args.args.now c.in_ok-one_or_more.ensures
    ∙ (c.loop-a.invariant ∙ joined_end (λ a. text E a) c.loop-a.joined.items c.args.args.now c.loop-a.a-index c.loop-a-test.false)
    ∙ (λ i. Ok ((ap text_value (sym c.from_vec.ensures) ∙ sym c.text_value.ensures.value) i))
