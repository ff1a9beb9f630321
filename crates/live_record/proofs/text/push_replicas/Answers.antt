use Rattle.std.proofs.Common.{ℕ, suc, ◌<◌, List, ◌++◌, length, refl, ap, ◌∙◌, arith}
use Rattle.std.proofs.lemmas.Option.{slice_get_read}
use Rattle.sheet_ops.specs.History.{sheet_of}
use Rattle.sheet_text.proofs.Appended.{one_appended, pieces_more}
use Rattle.live_record.specs.Records.{replica_text}
use Rattle.live_record.proofs.Printed.{replica_shown}
use Rattle.live_record.proofs.text.push_replicas.Goals as goal

pub loop-k-preserved : goal.loop-k-preserved
loop-k-preserved c size H all =
    let k = c.loop-k.k in
    let site = c.index-sites-k.result in
    let client = c.index-clients-k.result in
    let within : k < length c.args.clients.now = let as_many = c.requires in let more = c.loop-k-test.true in omega (arith, as_many, more) in
    let has_all = all k client (slice_get_read c.args.clients.now (length c.args.clients.now) k client refl within c.index-clients-k.is) in
    one_appended c.args.out.now.items _ _ _ c.loop-k.out.items c.push_text.new.out.items (c.loop-k.invariant size H all)
    (c.in_ok-push_text.ensures ∙ ap (λ (t : List ℕ). c.loop-k.out.items ++ t) (c.in_ok-text.ensures ∙ replica_shown size H (suc k) client has_all site))
    (pieces_more (replica_text (sheet_of size H) (length H)) c.args.sites.now k site site c.loop-k-test.true c.index-sites-k.is)
