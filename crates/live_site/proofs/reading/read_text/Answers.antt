use Rattle.std.proofs.Common.{◌≡◌, ℕ, List, sym, ◌∙◌, subst}
use Rattle.std.specs.Prelude.{IfOk}
use Rattle.sheet_text.specs.Values.{range_values_text}
use Rattle.value_snap.specs.Stores.{known_snapshot}
use Rattle.value_snap.specs.Views.{store_size}
use Rattle.value_snap.proofs.Replays.{replay_length}
use Rattle.recalc_loop.specs.Standing.{snapshot_values}
use Rattle.live_site.proofs.Parts.{on_any}
use Rattle.live_site.proofs.reading.read_text.Goals as goal

pub text_of-requires-clause-reads : goal.text_of-requires-clause-reads
text_of-requires-clause-reads g c = (known_snapshot c.look.new.session.reader, c.in_ok-seen.ensures.seen)

pub returns-clause-length : goal.returns-clause-length
returns-clause-length g c = on_any c.text_of.result _ c.in_ok-seen.ensures.length

pub returns-clause-later : goal.returns-clause-later
returns-clause-later g c = on_any c.text_of.result _ c.in_ok-seen.ensures.later

pub returns-clause-text : goal.returns-clause-text
returns-clause-text g c =
    let r = c.look.new.session.reader in
    let e = c.in_ok-seen.ensures in
    subst (λ (n : ℕ). IfOk c.text_of.result (λ (t : List ℕ). t ≡ range_values_text c.args.number c.args.name.now c.args.range.now n (snapshot_values (known_snapshot r)))) (replay_length (store_size r.store) r.known ∙ sym e.length)
    (c.text_of.ensures (known_snapshot r) e.seen)
