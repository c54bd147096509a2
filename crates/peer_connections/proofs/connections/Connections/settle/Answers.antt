use Rattle.peer_connections.proofs.Coming.{comes_none, comes_then, stay_behind}
use Rattle.peer_connections.proofs.Coming.{welcomes_by, welcomes_dismissed, welcomes_then}
use Rattle.peer_connections.proofs.Coming.{welcomes_way}
use Rattle.peer_connections.proofs.connections.Connections.settle.Goals as goal

-- all places were taken: a peer has left
pub returns-then-dismiss_longest_waiting-clause-comes :
    goal.returns-then-dismiss_longest_waiting-clause-comes
returns-then-dismiss_longest_waiting-clause-comes g c =
    let again = welcomes_by _ _ _ _ _ _ _ _ _ c.in-NoPlace.ensures.away.0
    c.arrive-then-dismiss_longest_waiting.ensures.comes in
    welcomes_then _ _ _ _ _ _ _ _ _ _ c.arrive.ensures.comes
    (welcomes_then _ _ _ _ _ _ _ _ _ _
    (welcomes_dismissed _ _ _ _ _ _ _ _ c.dismiss_longest_waiting.ensures.gone) again
    (comes_then _ _ _ _ _ _ c.dismiss_longest_waiting.ensures.gone.stay again.comes))
    (comes_then _ _ _ _ _ _
    (stay_behind _ _ _ c.in-NoPlace.ensures.away.1 c.dismiss_longest_waiting.ensures.gone.stay)
    again.comes)

-- .. or none could
pub returns-else-dismiss_longest_waiting-clause-comes :
    goal.returns-else-dismiss_longest_waiting-clause-comes
returns-else-dismiss_longest_waiting-clause-comes g c =
    welcomes_then _ _ _ _ _ _ _ _ _ _ c.arrive.ensures.comes
    (welcomes_dismissed _ _ _ _ _ _ _ _ c.dismiss_longest_waiting.ensures.gone)
    (comes_none _ _ _ _ _
    (stay_behind _ _ _ c.in-NoPlace.ensures.away.1 c.dismiss_longest_waiting.ensures.gone.stay))

-- memory was wanting: a peer has left
pub returns-then-make_way-clause-comes : goal.returns-then-make_way-clause-comes
returns-then-make_way-clause-comes g c =
    let again = welcomes_by _ _ _ _ _ _ _ _ _ c.in-NoMemory.ensures.away.0
    c.arrive-then-make_way.ensures.comes in
    welcomes_then _ _ _ _ _ _ _ _ _ _ c.arrive.ensures.comes
    (welcomes_then _ _ _ _ _ _ _ _ _ _ (welcomes_way _ _ _ _ _ _ _ _ c.make_way.ensures.gone)
    again (comes_then _ _ _ _ _ _ c.make_way.ensures.gone.stay again.comes))
    (comes_then _ _ _ _ _ _
    (stay_behind _ _ _ c.in-NoMemory.ensures.away.1 c.make_way.ensures.gone.stay) again.comes)

-- .. or none could
pub returns-else-make_way-clause-comes : goal.returns-else-make_way-clause-comes
returns-else-make_way-clause-comes g c =
    welcomes_then _ _ _ _ _ _ _ _ _ _ c.arrive.ensures.comes
    (welcomes_way _ _ _ _ _ _ _ _ c.make_way.ensures.gone)
    (comes_none _ _ _ _ _
    (stay_behind _ _ _ c.in-NoMemory.ensures.away.1 c.make_way.ensures.gone.stay))
