-- A session of a peer as JSON. Members stand in the order of their names.
use Rattle.std.specs.Prelude.{ℕ, Bool, ◌&&◌, ◌==◌, List, codes, map, slice_index}
use Rattle.std.specs.List.{list_any}
use Rattle.serde_json.specs.Data.{Data, object, member, no_members}
use Rattle.device_map.specs.declared.ids.TheConstants.{DISPENSER_SUBNET}
use Rattle.day_report.specs.Figures.{figure}
use Rattle.site_json.specs.declared.sessions.PeerSession.{PeerSession}
use Rattle.site_json.specs.Figures.{text_if}

-- a session: subnet and node, when its peer came, and how long nothing has come from it
abbrev pub session_data : PeerSession → Data
session_data x =
    object
    (member (codes "node") (figure (slice_index x.node 1))
    (member (codes "quiet seconds") (figure x.quiet_seconds)
    (member (codes "since") (text_if x.since)
    (member (codes "subnet") (figure (slice_index x.node 0))
    no_members))))

abbrev pub sessions_data : List PeerSession → List Data
sessions_data sessions = map session_data sessions

-- a session of the dispenser of a point
abbrev pub is_dispenser : ℕ → PeerSession → Bool
is_dispenser p x = slice_index x.node 0 == DISPENSER_SUBNET && slice_index x.node 1 == p

-- the dispenser of a point has one of these sessions
abbrev pub is_connected : List PeerSession → ℕ → Bool
is_connected sessions p = list_any (is_dispenser p) sessions
