use Rattle.peer_connections.proofs.Reaching.{reaches_then, reaches_way}
use Rattle.station_server.proofs.server.StationServer.welcome_next_at.Goals as goal

pub returns-in-Came : goal.returns-in-Came
returns-in-Came g c =
    reaches_then _ _ _ _ (reaches_way _ _ _ c.accept_one_at.ensures) c.welcome_at.ensures.comes.moves

pub returns-in-Gone : goal.returns-in-Gone
returns-in-Gone g c = reaches_way _ _ _ c.accept_one_at.ensures

pub returns-in-None : goal.returns-in-None
returns-in-None g c = reaches_way _ _ _ c.accept_one_at.ensures

pub returns-in-Failed : goal.returns-in-Failed
returns-in-Failed g c = reaches_way _ _ _ c.accept_one_at.ensures
