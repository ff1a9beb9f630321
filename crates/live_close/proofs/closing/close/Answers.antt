use Rattle.std.proofs.Common.{◌≡◌, List, false, All, map, sym, ◌∙◌, subst}
use Rattle.value_snap.specs.Lists.{is_ended}
use Rattle.value_snap.specs.Stores.{PublisherOf}
use Rattle.recalc_loop.proofs.Turns.{at_ok, at_ok_on}
use Rattle.live_close.specs.declared.agreeing.Parts.{Parts}
use Rattle.live_close.specs.Parts.{with_mark, parts_of, AllOver, AllKnow}
use Rattle.live_close.proofs.Settled.{all_over, are_done}
use Rattle.live_close.proofs.closing.close.Goals as goal

pub settle-parts-requires : goal.settle-parts-requires
settle-parts-requires g c =
    let (stores, ran) = c.requires.ran in
    let r = c.args.ran in
    let same : c.as_mut_slice.result.now ≡ r.desk.publishers = c.as_mut_slice.ensures.value ∙ c.into_vec-publishers.ensures in
    record {
      unspent = λ is. subst (λ (qs : List PublisherOf). All (λ (q : PublisherOf). q.spent ≡ false) qs) (sym same) (ran.desk.unspent is);
      unclosed = subst (λ (qs : List PublisherOf). All (λ (q : PublisherOf). is_ended q.list ≡ false) qs) (sym same) ran.desk.unclosed;
      stores = subst (AllOver r.ends) (sym same) (all_over c.args.script.now stores r ran);
    }

pub record_of-requires-clause-done : goal.record_of-requires-clause-done
record_of-requires-clause-done g c =
    let (stores, ran) = c.requires.ran in
    let r = c.args.ran in
    let same : c.as_mut_slice.result.now ≡ r.desk.publishers = c.as_mut_slice.ensures.value ∙ c.into_vec-publishers.ensures in (
      r.desk.pass,
      r.ends,
      at_ok (λ (p : Parts). p ≡ parts_of r.desk.pass r.ends) c.settle-parts.result c.in_ok-parts.parts c.in_ok-parts.was c.settle-parts.ensures.parts,
      are_done c.args.script.now stores r ran (at_ok_on c.settle-parts.result c.in_ok-parts.parts c.in_ok-parts.was c.settle-parts.ensures.done)
          (subst (λ (qs : List PublisherOf). AllKnow r.ends (map with_mark qs)) same (at_ok_on c.settle-parts.result c.in_ok-parts.parts c.in_ok-parts.was c.settle-parts.ensures.known)),
    )
