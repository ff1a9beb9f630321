use Rattle.std.proofs.Common.{Some, [], ◌∷◌, ◌++◌, ap, sym, ◌∙◌}
use Rattle.turn_book.proofs.Dealing.{opens}
use Rattle.turn_book.proofs.book.Book.new.Goals as goal

pub new-requires : goal.new-requires
new-requires g c =
    opens g.S.Kept.opening g.S.Kept.history (g.S.Kept.opening c.of.result.value) c.args.passes c.args.state c.push.new.self.items
    (c.in_ok-push.ensures.items ∙ ap (λ xs. xs ++ Some c.args.state ∷ []) c.new-slots.ensures.items) c.requires.empty (ap g.S.Kept.opening (sym c.of.ensures))
