use Rattle.std.proofs.Common.{Option, subst, sym, ℕ}
use Rattle.peer_connections.specs.Allowed.{IsArrival}
use Rattle.peer_connections.specs.Reaches.{ReachesBy}
use Rattle.peer_connections.proofs.places.arrive_in.Goals as goal

pub returns-in-None-clause-moves : goal.returns-in-None-clause-moves
returns-in-None-clause-moves g c =
    subst (λ (d : Option ℕ). ReachesBy (IsArrival d) c.args.stored.now
    c.arrive_over_tcp.new.stored) (sym c.in-None.is) c.arrive_over_tcp.ensures.moves

pub returns-in-Some-clause-moves : goal.returns-in-Some-clause-moves
returns-in-Some-clause-moves g c =
    subst (λ (d : Option ℕ). ReachesBy (IsArrival d) c.args.stored.now
    c.arrive_at.new.stored) (sym c.in-Some.is) c.arrive_at.ensures.moves
