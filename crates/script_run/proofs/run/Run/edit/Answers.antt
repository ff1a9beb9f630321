use Rattle.std.proofs.Common.{◌≡◌, ◌<◌, suc, arith, sym, ◌∙◌, ap, subst, length, Ok, Err}
use Rattle.std.specs.Prelude.{slice_set, OnOk}
use Rattle.ss_base.specs.Lists.{IsPrefixOf}
use Rattle.sheet_ops.specs.declared.operation.Intent.{Intent}
use Rattle.sheet_ops.specs.History.{own_entries}
use Rattle.script_run.specs.World.{World, decided, after_decided}
use Rattle.script_run.proofs.Outcomes.{if_err}
use Rattle.script_run.proofs.Named.{found_again}
use Rattle.script_run.proofs.Standing.{front, holds, stands, valid}
use Rattle.script_run.proofs.Edited.{issued_name, decided_here, edited_run, edited_world}
use Rattle.script_run.proofs.run.Run.edit.Goals as goal
use Rattle.script_run.proofs.run.Run.edit.Goals.{After-index_mut-client}

module _ (c : After-index_mut-client) where
  place_here : c.args.place < length c.self.inside.seats.items
  place_here = subst (λ (w : World). c.args.place < length w.seats) (sym c.self.view_is) c.requires.place

  site_here : c.site_at-site.result.0 ≡ suc c.args.place
  site_here = omega (arith, c.site_at-site.ensures)

pub invariant_of-self : goal.invariant_of-self
invariant_of-self c =
    let at = (goal.at.invariant_of-self c).After-index_mut-client in
    let s = c.index_mut-seat.result.now in
    let k = c.index_mut-client.result.now in
    let known = stands _ _ _ c.self.invariant.run c.args.place (place_here at) s c.index_mut-seat.ensures.value k c.index_mut-client.ensures.value in
    record {
      run = edited_run _ _ _ c.self.invariant.run c.args.place (place_here at) s c.index_mut-seat.ensures.value k c.index_mut-client.ensures.value
          c.site_at-site.result (site_here at) c.args.edit.now c.issue.new.seat c.issue.new.client c.issue.result c.issue.ensures.ok
          (c.issue.ensures.represents _ c.self.inside.history.items (site_here at ∙ sym known.number) (sym known.taken)
          (valid _ _ _ c.self.invariant.run c.args.place (place_here at) s c.index_mut-seat.ensures.value k c.index_mut-client.ensures.value) known.represents
          (subst (λ n. IsPrefixOf (own_entries n c.self.inside.history.items) s.made) (sym known.number) (front _ _ _ c.self.invariant.run c.args.place (place_here at) s c.index_mut-seat.ensures.value)))
          c.issue.ensures.err;
      published = c.self.invariant.published;
      names =
          found_again c.self.inside.seats.items c.self.inside.places c.self.invariant.names c.args.place s c.issue.new.seat c.index_mut-seat.ensures.value
          (issued_name c.site_at-site.result c.args.edit.now s c.issue.new.seat k c.issue.new.client c.issue.result c.issue.ensures.ok c.issue.ensures.err);
    }

pub returns-clause-ok : goal.returns-clause-ok
returns-clause-ok c =
    let at = (goal.at.returns-clause-ok c).After-index_mut-client in
    let done = edited_world _ _ _ c.self.invariant.run c.args.place (place_here at) c.index_mut-seat.result.now c.index_mut-seat.ensures.value c.index_mut-client.result.now c.index_mut-client.ensures.value
    c.site_at-site.result (site_here at) c.args.edit.now c.issue.new.seat c.issue.new.client c.issue.result c.issue.ensures.ok in
    subst (λ (w : World). OnOk c.issue.result ((op : Intent) × (decided w c.args.place c.args.edit.now ≡ Ok op)
    × (record { size = c.self.inside.size; history = c.self.inside.history.items; published = c.self.inside.published.length; seats = slice_set c.self.inside.seats.items c.args.place c.issue.new.seat } ≡ after_decided w c.args.place (Ok op)))) c.self.view_is done

pub returns-clause-cause : goal.returns-clause-cause
returns-clause-cause c =
    let at = (goal.at.returns-clause-cause c).After-index_mut-client in
    let same = ap (λ (w : World). decided w c.args.place c.args.edit.now) (sym c.self.view_is) in
    if_err c.issue.result (λ e cause other.
    same ∙ decided_here _ _ _ c.self.invariant.run c.args.place (place_here at) c.index_mut-seat.result.now c.index_mut-seat.ensures.value c.index_mut-client.result.now c.index_mut-client.ensures.value c.args.edit.now (Err e) (cause other)) c.issue.ensures.cause

pub issue-requires-clause-few : goal.issue-requires-clause-few
issue-requires-clause-few c =
    let at = (goal.at.issue-requires-clause-few c).After-index_mut-client in
    let s = c.index_mut-seat.result.now in
    let known = stands _ _ _ c.self.invariant.run c.args.place (place_here at) s c.index_mut-seat.ensures.value c.index_mut-client.result.now c.index_mut-client.ensures.value in
    let kept = holds _ _ _ c.self.invariant.run c.args.place (place_here at) s c.index_mut-seat.ensures.value in
    omega (arith, known.represents.issued, kept.few)
