use Rattle.std.proofs.Common.{refl}
use Rattle.peer_connections.proofs.Reaching.{still_read}
use Rattle.peer_connections.proofs.Seeing.{keeps_same, keeps_then, read_on, seen_read}
use Rattle.peer_connections.proofs.calls.read_with_room.Goals as goal

pub read_once-requires-clause-read : goal.read_once-requires-clause-read
read_once-requires-clause-read g c =
    still_read c.args.key _ _ c.make_room.ensures.moves c.requires.read

pub returns-clause-seen : goal.returns-clause-seen
returns-clause-seen g c =
    seen_read _ _ _ _ _ _ _ c.read_once.ensures.station c.make_room.ensures.seen

pub returns-clause-fed : goal.returns-clause-fed
returns-clause-fed g c =
    seen_read _ _ _ _ _ _ _ c.read_once.ensures.station c.make_room.ensures.fed

pub returns-clause-noted : goal.returns-clause-noted
returns-clause-noted g c =
    keeps_then c.args.changes.now c.make_room.new.changes c.make_room.new.changes _ _
    (read_on _ _ _ _ _ _ c.read_once.ensures.station) c.make_room.ensures.noted
    (keeps_same c.make_room.new.changes c.make_room.new.changes _ refl)
