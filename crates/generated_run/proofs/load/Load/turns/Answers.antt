use Rattle.generated_run.proofs.Sites.{no_turn, one_turn}
use Rattle.generated_run.proofs.load.Load.turns.Goals as goal

pub loop-turn-init : goal.loop-turn-init
loop-turn-init c = no_turn c.args.self.now.generator.number c.args.self.now.run c.args.self.now.refused c.requires.sites c.requires.first

pub loop-turn-preserved : goal.loop-turn-preserved
loop-turn-preserved c =
    one_turn c.args.self.now.generator.number c.args.self.now.run c.loop-turn.turn c.loop-turn.self.run c.loop-turn.self.generator.number c.loop-turn.self.refused c.loop-turn.invariant
    c.turn.new.self.run c.turn.new.self.generator.number c.turn.new.self.refused c.in_ok-turn.ensures.run c.in_ok-turn.ensures.refused c.in_ok-turn.ensures.few c.in_ok-turn.ensures.number
