use Rattle.std.proofs.Common.{refl}
use Rattle.peer_connections.proofs.Coming.{dismisses_none, dismisses_one}
use Rattle.peer_connections.proofs.connections.Connections.dismiss_longest_waiting.Goals as goal

pub returns-in-Some-clause-gone : goal.returns-in-Some-clause-gone
returns-in-Some-clause-gone g c =
    dismisses_one _ c.in-Some.key _ _ _ _ c.in-Some.ensures.place c.in-Some.ensures.unserved
    c.remove.ensures.left c.remove.ensures.others c.remove.ensures.gone

-- nobody waits so
pub returns-in-None-clause-gone : goal.returns-in-None-clause-gone
returns-in-None-clause-gone g c = dismisses_none _ _ _ _ _ refl refl
