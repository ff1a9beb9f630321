use Rattle.std.proofs.Common.{◌≡◌, ◌<◌, ℕ, List, ap, sym, subst, arith}
use Rattle.std.specs.Prelude.{IfOk, Some, None, Option}
use Rattle.sheet_value.specs.Tables.{Table}
use Rattle.sheet_text.specs.Values.{range_values_text, IsPartOf}
use Rattle.value_snap.specs.declared.snap.View.{View}
use Rattle.recalc_loop.specs.Standing.{snapshot_values}
use Rattle.live_site.specs.Readings.{ReadsOf}
use Rattle.live_site.proofs.Parts.{is_part, refused_text, if_same}
use Rattle.live_site.proofs.reading.text_of.Goals as goal

pub part_text-requires : goal.part_text-requires
part_text-requires c = record { last_row = c.requires.last_row; last_col = c.requires.last_col; rows = c.requires.rows; cols = c.requires.cols }

pub returns-in-Some : goal.returns-in-Some
returns-in-Some c s reads =
    let range = c.args.range.now in
    let r : ReadsOf s range (Some c.in-Some.view) = subst (λ (seen : Option View). ReadsOf s range seen) c.in-Some.is reads in
    let part : IsPartOf (snapshot_values s) range c.in-Some.view.grid = subst (λ (T : Table). IsPartOf (snapshot_values s) range T) (sym (ap (λ (v : View). v.grid) r.0)) (is_part s range r.1) in
    subst (λ (n : ℕ). IfOk c.part_text.result (λ (t : List ℕ). t ≡ range_values_text c.args.number c.args.name.now range n (snapshot_values s))) (ap (λ (v : View). v.length) r.0)
    (c.part_text.ensures (snapshot_values s) c.args.number part)

pub returns-in-None : goal.returns-in-None
returns-in-None c s reads =
    let range = c.args.range.now in
    let out : ReadsOf s range None = subst (λ (seen : Option View). ReadsOf s range seen) c.in-None.is reads in
    if_same c.refusal.result _ (range_values_text c.args.number c.args.name.now range s.length (snapshot_values s)) (refused_text s range c.args.number c.args.name.now s.length c.requires.rows c.requires.cols out) c.refusal.ensures
