use Rattle.std.proofs.Common.{List, ◌++◌, ℕ, length, ap, ◌∙◌}
use Rattle.std.specs.List.{flat_map}
use Rattle.sheet_ops.specs.History.{sheet_of}
use Rattle.sheet_text.specs.Operations.{history_text}
use Rattle.sheet_text.specs.Shown.{shown}
use Rattle.sheet_text.specs.Texts.{server_head_text, sheet_text}
use Rattle.full_calc.specs.Values.{value_table}
use Rattle.sheet_text.specs.Values.{all_text}
use Rattle.live_record.specs.Records.{logs_text, names_of, replica_text}
use Rattle.live_record.proofs.Printed.{put_together}
use Rattle.live_record.proofs.text.live_text.Goals as goal

pub returns : goal.returns
returns c all =
    let H = c.args.history.now in
    let size = c.args.script.now.size in
    let sites = c.as_slice-sites.ensures in
    c.from_vec.ensures
    ∙ (put_together c.new-out.result.items c.push_logs.new.out.items c.push_replicas.new.out.items c.push_text-2.new.out.items c.push_text-4.new.out.items c.push_text-6.new.out.items _ _ _ _ _ c.new-out.ensures.items
    c.in_ok-push_logs.ensures (c.in_ok-push_replicas.ensures size H all.each)
    (c.in_ok-push_text.ensures ∙ ap (λ (t : List ℕ). c.push_replicas.new.out.items ++ t) (c.in_ok-server_lines.ensures H all.server_is))
    (c.in_ok-push_text-2.ensures ∙ ap (λ (t : List ℕ). c.push_text-2.new.out.items ++ t) (c.in_ok-values_lines.ensures H all.server_is))
    (c.in_ok-push_text-3.ensures ∙ ap (λ (t : List ℕ). c.push_text-4.new.out.items ++ t) c.in_ok-entries_lines.ensures)
    ∙ (λ i.
    let X = sheet_of (all.sized i) H in
    logs_text (sites i) c.args.logs.now
    ++ (flat_map (replica_text (sheet_of size H) (length H)) (sites i)
    ++ (sheet_text (server_head_text (length H) (shown X)) (shown X) ++ (all_text (length H) (value_table X) ++ history_text (names_of (sites i)) H)))))
