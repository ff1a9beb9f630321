use Rattle.std.proofs.Common.{◌≡◌, ◌+◌, ◌++◌, ℕ, List, [], ◌∷◌, length, take, drop, refl, ap, sym, ◌∙◌, subst, arith}
use Rattle.std.proofs.lemmas.List.{take-append-drop, take_more, length-append}
use Rattle.ss_base.specs.declared.types.Size.{Size}
use Rattle.sheet_ops.specs.Represents.{ServerState, ServerRepresents}
use Rattle.jup_server.specs.declared.list.Sent.{Sent}
use Rattle.jup_server.specs.declared.list.Answer.{Answer}
use Rattle.jup_server.specs.Answers.{AnswersOne, AnswersAll}
use Rattle.jup_server.proofs.Submitted.{at_err}
use Rattle.jup_server.proofs.Answered.{answers_more}
use Rattle.jup_server.proofs.list.submit_all.Goals as goal

pub returns-in_err-answers-clause-memory : goal.returns-in_err-answers-clause-memory
returns-in_err-answers-clause-memory c = λ H r. at_err _ c.from_residual.result ([], [], H, (c.args.list.now, refl), refl, r)

pub returns-in_err-answer-clause-memory : goal.returns-in_err-answer-clause-memory
returns-in_err-answer-clause-memory c = λ H r.
    let so_far = c.loop-sent.invariant.answered H r in
    let items = c.as_slice-sent-items.result.now in
    let i = c.loop-sent.sent-index in
    at_err _ c.from_residual-in_err-answer.result (
      take i items,
      c.loop-sent.answers.items,
      so_far.0,
      (drop i items, take-append-drop i items ∙ c.as_slice-sent-items.ensures),
      so_far.1,
      subst (λ (s : ServerState). ServerRepresents s so_far.0) (sym c.in_err-answer.ensures.err) so_far.2,
    )

pub loop-sent-preserved : goal.loop-sent-preserved
loop-sent-preserved c =
    let items = c.as_slice-sent-items.result.now in
    let i = c.loop-sent.sent-index in
    let m = c.sent-item.result in
    let a = c.in_ok-answer.answer in
    let inv = c.loop-sent.invariant in
    let size = c.args.server.now.size in
    let sites = c.args.server.now.sites in
    let here : take (c.loop-sent.sent-index + 1) items ≡ take c.loop-sent.sent-index items ++ m ∷ [] =
    take_more items c.loop-sent.sent-index m c.loop-sent-test.true ∙ ap (λ (x : Sent). take c.loop-sent.sent-index items ++ x ∷ []) (sym c.sent-item.is) in
    record {
      answered = λ H r.
          let so_far = inv.answered H r in
          let one = c.in_ok-answer.ensures.answer so_far.0 so_far.2 in
          let told : AnswersOne size sites so_far.0 m a one.0 =
          subst (λ (z : Size). AnswersOne z c.args.server.now.sites so_far.0 c.sent-item.result c.in_ok-answer.answer one.0) inv.size
          (subst (λ (n : ℕ). AnswersOne c.loop-sent.server.size n so_far.0 c.sent-item.result c.in_ok-answer.answer one.0) inv.sites one.1) in
          let all = answers_more size sites H (take i items) c.loop-sent.answers.items so_far.0 so_far.1 m a one.0 told in (
            one.0,
            subst (λ (ms : List Sent). AnswersAll c.args.server.now.size c.args.server.now.sites H ms c.push_reserved.new.self.items one.0) (sym here)
                (subst (λ (given : List Answer). AnswersAll c.args.server.now.size c.args.server.now.sites H (take i items ++ m ∷ []) given one.0) (sym c.push_reserved.ensures.items) all),
            one.2,
          );
      size = c.in_ok-answer.ensures.stays.0 ∙ inv.size;
      sites = c.in_ok-answer.ensures.stays.1 ∙ inv.sites;
      many = ap length c.push_reserved.ensures.items ∙ (length-append c.loop-sent.answers.items (a ∷ []) ∙ ap (λ (n : ℕ). n + 1) inv.many);
      room = let k = c.push_reserved.ensures.capacity in let h = inv.room in omega (arith, k, h);
    }
