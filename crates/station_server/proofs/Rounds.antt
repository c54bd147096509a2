-- What a round is made of.
use Rattle.peer_connections.proofs.Coming.{moves_of_dismisses}
use Rattle.peer_connections.proofs.Dues.{now_due, stay_same, stay_then, stay_with}
use Rattle.peer_connections.proofs.Reaching.{goes_same, reaches_any, reaches_heard, reaches_kept}
use Rattle.peer_connections.proofs.Reaching.{reaches_same}
use Rattle.peer_connections.proofs.Seeing.{keeps_same, keeps_then, reached_on}
use Rattle.peer_connections.proofs.Reaching.{reaches_then, reaches_way, reaches_welcome}

pub ruleset moved = (
  goes_same,
  reaches_same,
  reaches_then,
  reaches_kept,
  reaches_any,
  reaches_welcome,
  reaches_way,
  reaches_heard,
  moves_of_dismisses,
)

-- whoever is due stays so while peers are heard
pub ruleset heard = (
  stay_same,
  stay_then,
  stay_with,
  now_due,
  keeps_same,
  keeps_then,
  reached_on,
)
