use Rattle.std.proofs.Common.{ap, sym, ◌∙◌, vec_len, arith, drop, refl}
use Rattle.std.proofs.lemmas.Result.{err_from_is_err_and}
use Rattle.ss_base.specs.Lines.{FeedState}
use Rattle.ss_base.proofs.FirstLine.{gives_fed, gives_last, gives_late_feed, gives_late_last, gives_refusal, told_from, not_empty}
use Rattle.ss_base.proofs.feed.LineFeed.read_line.Goals as goal

pub returns-in_err-find-clause-line : goal.returns-in_err-find-clause-line
returns-in_err-find-clause-line g c =
    let told = told_from c.args.self.now c.self.inside (g.S.Source.left c.args.source.now) (g.S.Source.left c.find.new.source) c.keep.new.line.items c.find.new.line.items c.find.new.ahead c.self.view_is c.keep.ensures.items c.find.ensures.told in
    let used = ap (λ (f : FeedState). f.used) c.self.view_is in
    let p = err_from_is_err_and c.from_residual.result c.from_residual.ensures.1 in rw (p.1, p.2) (gives_refusal c.args.self.now c.find.new.line.items c.find.new.ahead _ _ c.find.ensures.plain _ _ c.in_err-find.field-0.0 told c.in_err-find.ensures.stop refl used)

pub returns-then-end-gt-LAST-clause-line : goal.returns-then-end-gt-LAST-clause-line
returns-then-end-gt-LAST-clause-line g c =
    let told = told_from c.args.self.now c.self.inside (g.S.Source.left c.args.source.now) (g.S.Source.left c.find.new.source) c.keep.new.line.items c.find.new.line.items c.find.new.ahead c.self.view_is c.keep.ensures.items c.find.ensures.told in
    let used = ap (λ (f : FeedState). f.used) c.self.view_is in
    let stop = rw c.in-Feed.is at c.in_ok-find.ensures.stop in
    gives_late_feed c.args.self.now c.find.new.line.items c.find.new.ahead _ _ c.find.ensures.plain _ _ stop.0 told stop.1 refl used
    (omega (arith, c.if-end-gt-LAST.true, c.len.ensures, c.find.new.line.ok.0))

pub returns-then-end-gt-LAST-2-clause-line : goal.returns-then-end-gt-LAST-2-clause-line
returns-then-end-gt-LAST-2-clause-line g c =
    let told = told_from c.args.self.now c.self.inside (g.S.Source.left c.args.source.now) (g.S.Source.left c.find.new.source) c.keep.new.line.items c.find.new.line.items c.find.new.ahead c.self.view_is c.keep.ensures.items c.find.ensures.told in
    let used = ap (λ (f : FeedState). f.used) c.self.view_is in
    let stop = rw c.in-End.is at c.in_ok-find.ensures.stop in
    gives_late_last c.args.self.now c.find.new.line.items c.find.new.ahead _ _ c.find.ensures.plain _ _ told stop.0 stop.1 (not_empty c.find.new.line.items (vec_len c.find.new.line) c.find.new.line.ok.0 (sym c.is_empty.ensures ∙ c.if-is_empty.false)) refl used
    (omega (arith, c.if-end-gt-LAST-2.true, c.len-in-End.ensures, c.find.new.line.ok.0))

pub returns-else-end-gt-LAST-clause-line : goal.returns-else-end-gt-LAST-clause-line
returns-else-end-gt-LAST-clause-line g c =
    let told = told_from c.args.self.now c.self.inside (g.S.Source.left c.args.source.now) (g.S.Source.left c.find.new.source) c.keep.new.line.items c.find.new.line.items c.find.new.ahead c.self.view_is c.keep.ensures.items c.find.ensures.told in
    let used = ap (λ (f : FeedState). f.used) c.self.view_is in
    let stop = rw c.in-Feed.is at c.in_ok-find.ensures.stop in
    gives_fed c.args.self.now c.find.new.line.items c.find.new.ahead _ _ c.find.ensures.plain _ _ stop.0 told stop.1 (c.skip.ensures.rest ∙ ap (drop 1) stop.1)
    (omega (arith, c.len.ensures, c.find.new.line.ok.0))
    (omega (arith, c.find.ensures.short, c.find.new.line.ok.0)) (omega (arith, c.if-end-gt-LAST.false))

pub returns-else-end-gt-LAST-2-clause-line : goal.returns-else-end-gt-LAST-2-clause-line
returns-else-end-gt-LAST-2-clause-line g c =
    let told = told_from c.args.self.now c.self.inside (g.S.Source.left c.args.source.now) (g.S.Source.left c.find.new.source) c.keep.new.line.items c.find.new.line.items c.find.new.ahead c.self.view_is c.keep.ensures.items c.find.ensures.told in
    let used = ap (λ (f : FeedState). f.used) c.self.view_is in
    let stop = rw c.in-End.is at c.in_ok-find.ensures.stop in
    gives_last c.args.self.now c.find.new.line.items c.find.new.ahead _ _ c.find.ensures.plain _ _ told stop.0 stop.1 (not_empty c.find.new.line.items (vec_len c.find.new.line) c.find.new.line.ok.0 (sym c.is_empty.ensures ∙ c.if-is_empty.false)) refl
    (omega (arith, c.len-in-End.ensures, c.find.new.line.ok.0))
    (omega (arith, c.find.ensures.short, c.find.new.line.ok.0)) (omega (arith, c.if-end-gt-LAST-2.false))
