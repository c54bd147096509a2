use Rattle.std.proofs.Common.{refl}
use Rattle.feed_connections.proofs.Turning.{no_turn, then_turn}
use Rattle.feed_connections.proofs.feed_link.FeedLink.take_turn.Goals as goal

pub loop-init : goal.loop-init
loop-init g c = no_turn c.args.rows.now c.args.self.now c.args.self.now refl

pub returns-in_default : goal.returns-in_default
returns-in_default g c =
    then_turn c.args.rows.now c.args.self.now c.loop.self c.go_on.new.self c.loop.invariant
    c.in_ok-end.ensures

pub loop-preserved : goal.loop-preserved
loop-preserved g c =
    then_turn c.args.rows.now c.args.self.now c.loop.self c.go_on.new.self c.loop.invariant
    c.in_ok-end.ensures
