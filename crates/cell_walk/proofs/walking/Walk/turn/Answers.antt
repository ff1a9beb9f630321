use Rattle.std.proofs.Common.{◌≡◌, ◌≢◌, ℕ, ◌<◌, List, length, ap, sym, ◌∙◌, subst, Option, None, Some}
use Rattle.cell_walk.specs.declared.walking.Colour.{Colour}
use Rattle.cell_walk.specs.declared.walking.Colour.TheVariants.{White}
use Rattle.cell_walk.specs.Walks.{hue, Opens}
use Rattle.cell_walk.proofs.Hues.{white_is, white_not}
use Rattle.cell_walk.specs.Skips.{MaySkip}
use Rattle.cell_walk.proofs.Skips.{still_skips, written_back}
use Rattle.cell_walk.proofs.Steps.{marked_len, give_up_keeps, rest_within, stack_within, finish_turn, descend_turn, give_up_turn, descend_less, on_ok3, on_ok1}
use Rattle.cell_walk.proofs.walking.Walk.turn.Goals as goal

pub next_open-open-requires-clause-within : goal.next_open-open-requires-clause-within
next_open-open-requires-clause-within g c =
    let s = c.args.self.now in
    λ d i. subst (λ (cs : List Colour). d < length cs) (sym c.deref.ensures.value) (rest_within (g.G.Mentions.mentions c.args.graph.now) (g.G.Mentions.rest c.args.graph.now) c.requires.holds.0 s.colours.items s.order.items s.stack.items c.args.top c.requires.holds.1 c.requires.within d i)

pub is_new-requires : goal.is_new-requires
is_new-requires g c =
    let s = c.args.self.now in
    let o = subst (λ (x : Option ℕ). Opens (g.G.Mentions.rest c.args.graph.now c.args.top.cell) (hue c.deref.result.now) c.args.top.place c.next_open-open.result.0 x) c.in-Some.is c.next_open-open.ensures.opens in
    subst (λ (cs : List Colour). c.in-Some.d < length cs) (sym c.deref-in-Some.ensures.value) (rest_within (g.G.Mentions.mentions c.args.graph.now) (g.G.Mentions.rest c.args.graph.now) c.requires.holds.0 s.colours.items s.order.items s.stack.items c.args.top c.requires.holds.1 c.requires.within c.in-Some.d o.0)

pub descend-requires : goal.descend-requires
descend-requires g c =
    let s = c.args.self.now in
    let o = subst (λ (x : Option ℕ). Opens (g.G.Mentions.rest c.args.graph.now c.args.top.cell) (hue c.deref.result.now) c.args.top.place c.next_open-open.result.0 x) c.in-Some.is c.next_open-open.ensures.opens in
    rest_within (g.G.Mentions.mentions c.args.graph.now) (g.G.Mentions.rest c.args.graph.now) c.requires.holds.0 s.colours.items s.order.items s.stack.items c.args.top c.requires.holds.1 c.requires.within c.in-Some.d o.0

pub give_up-requires-clause-stack : goal.give_up-requires-clause-stack
give_up-requires-clause-stack g c =
    let s = c.args.self.now in
    stack_within (g.G.Mentions.mentions c.args.graph.now) (g.G.Mentions.rest c.args.graph.now) c.requires.holds.0 s.colours.items s.order.items s.stack.items c.args.top c.requires.holds.1

pub returns-in-None-clause-holds : goal.returns-in-None-clause-holds
returns-in-None-clause-holds g c =
    let s = c.args.self.now in
    let o = subst (λ (cs : List Colour). Opens (g.G.Mentions.rest c.args.graph.now c.args.top.cell) (hue cs) c.args.top.place c.next_open-open.result.0 None) c.deref.ensures.value
    (subst (λ (x : Option ℕ). Opens (g.G.Mentions.rest c.args.graph.now c.args.top.cell) (hue c.deref.result.now) c.args.top.place c.next_open-open.result.0 x) c.in-None.is c.next_open-open.ensures.opens) in
    on_ok3 c.finish.result c.finish.ensures.colours c.finish.ensures.order c.finish.ensures.stack
    (λ e f k first h. finish_turn (g.G.Mentions.mentions c.args.graph.now) (g.G.Mentions.rest c.args.graph.now) first s.colours.items s.order.items s.stack.items c.args.top h c.finish.new.self.colours.items c.finish.new.self.order.items c.finish.new.self.stack.items c.next_open-open.result.0 o e f k)

pub returns-then-is_new-clause-holds : goal.returns-then-is_new-clause-holds
returns-then-is_new-clause-holds g c =
    let s = c.args.self.now in
    let o = subst (λ (cs : List Colour). Opens (g.G.Mentions.rest c.args.graph.now c.args.top.cell) (hue cs) c.args.top.place c.next_open-open.result.0 (Some c.in-Some.d)) c.deref.ensures.value
    (subst (λ (x : Option ℕ). Opens (g.G.Mentions.rest c.args.graph.now c.args.top.cell) (hue c.deref.result.now) c.args.top.place c.next_open-open.result.0 x) c.in-Some.is c.next_open-open.ensures.opens) in
    let white = subst (λ (cs : List Colour). hue cs c.in-Some.d ≡ White) c.deref-in-Some.ensures.value (white_is (hue c.deref-in-Some.result.now c.in-Some.d) (sym c.is_new.ensures ∙ c.if-is_new.true)) in
    let within = rest_within (g.G.Mentions.mentions c.args.graph.now) (g.G.Mentions.rest c.args.graph.now) c.requires.holds.0 s.colours.items s.order.items s.stack.items c.args.top c.requires.holds.1 c.requires.within c.in-Some.d o.0 in
    on_ok3 c.descend.result c.descend.ensures.colours c.descend.ensures.order c.descend.ensures.stack
    (λ e f k first h. descend_turn (g.G.Mentions.mentions c.args.graph.now) (g.G.Mentions.rest c.args.graph.now) first s.colours.items s.order.items s.stack.items c.args.top h (g.met.G.Mentions.from_start c.args.graph.now) c.descend.new.self.colours.items c.descend.new.self.order.items c.descend.new.self.stack.items
    c.next_open-open.result.0 c.in-Some.d within o white e f k)

pub returns-then-is_new-clause-less : goal.returns-then-is_new-clause-less
returns-then-is_new-clause-less g c =
    let s = c.args.self.now in
    let o = subst (λ (x : Option ℕ). Opens (g.G.Mentions.rest c.args.graph.now c.args.top.cell) (hue c.deref.result.now) c.args.top.place c.next_open-open.result.0 x) c.in-Some.is c.next_open-open.ensures.opens in
    let white = subst (λ (cs : List Colour). hue cs c.in-Some.d ≡ White) c.deref-in-Some.ensures.value (white_is (hue c.deref-in-Some.result.now c.in-Some.d) (sym c.is_new.ensures ∙ c.if-is_new.true)) in
    let within = rest_within (g.G.Mentions.mentions c.args.graph.now) (g.G.Mentions.rest c.args.graph.now) c.requires.holds.0 s.colours.items s.order.items s.stack.items c.args.top c.requires.holds.1 c.requires.within c.in-Some.d o.0 in
    on_ok1 c.descend.result c.descend.ensures.colours (λ e. descend_less (g.G.Mentions.mentions c.args.graph.now) (g.G.Mentions.rest c.args.graph.now) c.requires.holds.0 s.colours.items s.order.items s.stack.items c.args.top c.requires.holds.1 c.descend.new.self.colours.items c.in-Some.d within white e)

pub returns-else-is_new-clause-holds : goal.returns-else-is_new-clause-holds
returns-else-is_new-clause-holds g c =
    let s = c.args.self.now in
    let o = subst (λ (cs : List Colour). Opens (g.G.Mentions.rest c.args.graph.now c.args.top.cell) (hue cs) c.args.top.place c.next_open-open.result.0 (Some c.in-Some.d)) c.deref.ensures.value
    (subst (λ (x : Option ℕ). Opens (g.G.Mentions.rest c.args.graph.now c.args.top.cell) (hue c.deref.result.now) c.args.top.place c.next_open-open.result.0 x) c.in-Some.is c.next_open-open.ensures.opens) in
    let white = subst (λ (cs : List Colour). hue cs c.in-Some.d ≢ White) c.deref-in-Some.ensures.value (white_not (hue c.deref-in-Some.result.now c.in-Some.d) (sym c.is_new.ensures ∙ c.if-is_new.false)) in
    λ first h. give_up_turn (g.G.Mentions.mentions c.args.graph.now) (g.G.Mentions.rest c.args.graph.now) first s.colours.items s.order.items s.stack.items c.args.top h c.give_up.new.self.colours.items c.give_up.new.self.order.items c.give_up.new.self.stack.items
    c.next_open-open.result.0 c.in-Some.d o white c.give_up.ensures.colours c.give_up.ensures.order c.give_up.ensures.stack

pub returns-else-is_new-clause-skips : goal.returns-else-is_new-clause-skips
returns-else-is_new-clause-skips g c =
    let s = c.args.self.now in
    still_skips s.colours.items c.give_up.new.self.colours.items c.next_open-open.new.after c.give_up.new.self.after.items
    (subst (λ (cs : List Colour). MaySkip cs c.next_open-open.new.after) c.deref.ensures.value c.next_open-open.ensures.skips) (c.give_up.ensures.after ∙ written_back s.after.items c.next_open-open.new.after s.after.len s.after.ok.0 (c.next_open-open.ensures.skips.len ∙ (ap (λ (cs : List Colour). length cs) c.deref.ensures.value ∙ sym c.requires.skips.len)))
    (marked_len s.colours.items c.give_up.new.self.colours.items s.stack.items c.args.top.cell c.give_up.ensures.colours)
    (give_up_keeps (g.G.Mentions.mentions c.args.graph.now) (g.G.Mentions.rest c.args.graph.now) c.requires.holds.0 s.colours.items s.order.items s.stack.items c.args.top c.requires.holds.1 c.give_up.new.self.colours.items c.give_up.ensures.colours)
