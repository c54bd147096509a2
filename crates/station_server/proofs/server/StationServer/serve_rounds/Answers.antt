use Rattle.peer_connections.proofs.Reaching.{goes_same, reaches_any, reaches_kept, reaches_then}
use Rattle.station_server.proofs.server.StationServer.serve_rounds.Goals as goal

pub returns-then-self : goal.returns-then-self
returns-then-self g c =
    reaches_then _ _ _ _ c.loop.invariant (reaches_any _ _ _ c.hear_round.ensures.moves)

pub returns-in_err-send_all : goal.returns-in_err-send_all
returns-in_err-send_all g c =
    reaches_then _ _ _ _ c.loop.invariant
    (reaches_then _ _ _ _ (reaches_any _ _ _ c.hear_round.ensures.moves) c.send_all.ensures.moves)

-- connections were accepted at the round's end
pub loop-preserved : goal.loop-preserved
loop-preserved g c =
    let round = reaches_then _ _ _ _ (reaches_any _ _ _ c.hear_round.ensures.moves)
    c.send_all.ensures.moves in
    reaches_then _ _ _ _ c.loop.invariant
    (reaches_then _ _ _ _ round
    (reaches_then _ _ _ _ (reaches_kept _ _ _ c.serve_page.ensures.station
    (goes_same _ _ c.serve_page.ensures.journal)) c.accept_waiting.ensures))

pub returns-in_err-hear_round : goal.returns-in_err-hear_round
returns-in_err-hear_round g c =
    reaches_then _ _ _ _ c.loop.invariant (reaches_any _ _ _ c.hear_round.ensures.moves)
