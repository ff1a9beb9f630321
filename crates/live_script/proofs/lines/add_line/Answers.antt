use Rattle.live_script.proofs.SiteLines.{put_at, none_at, on_ok}
use Rattle.live_script.proofs.lines.add_line.Goals as goal

pub returns-in-Some : goal.returns-in-Some
returns-in-Some c apart = on_ok c.push.result
    (λ e. put_at c.args.number c.args.name.now c.args.action c.args.sites.now.items c.as_slice.result.now c.as_slice.ensures.value c.in-Some.place c.index_mut.result.now c.push.new.self apart c.in-Some.ensures c.index_mut.ensures.value e) c.push.ensures.ok

pub returns-in-None : goal.returns-in-None
returns-in-None c apart = none_at c.args.number c.args.name.now c.args.action c.args.sites.now.items c.as_slice.result.now c.as_slice.ensures.value c.in-None.ensures
