use Rattle.std.proofs.Common.{◌≡◌, sym, ◌∙◌, ap}
use Rattle.value_snap.specs.Lists.{MayBePublished}
use Rattle.value_snap.proofs.Adding.{adding}
use Rattle.value_snap.proofs.front.Front.add.Goals as goal

pub compare_exchange-found-requires : goal.compare_exchange-found-requires
compare_exchange-found-requires g c =
    let head = c.requires.head in
    let again = c.again-seen.ensures in
    let offer = c.plain-offer.ensures in
    let pen = c.no_pen-pen.ensures in
    let book : c.again-seen.result.book ≡ c.args.head.now.book =
    ap (λ s. s.book) again ∙ (ap (λ f. f.book) c.self.view_is ∙ sym (ap (λ w. w.book) head)) in
    let may : MayBePublished c.self.inside.seen.log (g.M.Plain.ask c.args.about.now) = rw (ap (λ f. f.list) c.self.view_is) c.requires.follows in (
      ap (λ w. w.tracked) head,
      book,
      pen.0 ∙ book,
      offer.0,
      rw (ap (λ w. w.key) head, pen.1, offer.1, offer.3, again, c.requires.plain) (adding c.self.inside.seen.log (g.M.Plain.ask c.args.about.now) c.self.inside.count (sym c.self.invariant.0) may),
    )
