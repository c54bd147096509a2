-- What the peers that the code keeps are as sessions.
use Rattle.std.specs.Prelude.{◌≡◌, ℕ, List, map, Option, Some, None}
use Rattle.std.specs.Prelude.{option_map}
use Rattle.std.specs.Prelude.{if◌then◌else◌}
use Rattle.std.specs.Borrow.{Bor}
use Rattle.station.specs.declared.peer.Peer.{Peer}
use Rattle.station.specs.Sessions.{Session}
use Rattle.station.specs.Listening.{is_at, listener}
use Rattle.station.specs.Peers.{forget_till, tell_notice, with_peer}

abbrev pub session_of : Peer → Session
session_of p = record {
  door = p.door;
  held = p.decoder;
  talk = p.talk;
  owed = p.outbox;
  end = p.end;
}

abbrev pub session_at : Bor Peer → Session
session_at p = session_of p.now

abbrev pub sessions_of : List (Option Peer) → List (Option Session)
sessions_of slots = map (option_map session_of) slots

-- a session that listens at this node is told a notice of these octets
abbrev pub session_noticed : List ℕ → List ℕ → Session → Session
session_noticed node octets x =
    if is_at (listener x.end x.talk.peer) node then tell_notice (Some octets) x else x

abbrev pub slot_noticed : List ℕ → List ℕ → Option Session → Option Session
slot_noticed node octets slot = option_map (session_noticed node octets) slot

-- a session forgets this till, if there is one
abbrev pub slot_forgotten : ℕ → Option Session → Option Session
slot_forgotten t slot = option_map (forget_till (Some t)) slot

-- whoever is put at this key, the peers are the same then
abbrev pub AreAlikeBehind : ℕ → List (Option Session) → List (Option Session) → Type 0
AreAlikeBehind k a b = (x : Option Session) → with_peer k x b ≡ with_peer k x a

-- the peers without the one that was taken out at a key
abbrev pub without_key : ℕ → Option Peer → List (Option Session) → List (Option Session)
without_key k None peers = peers
without_key k (Some p) peers = with_peer k None peers
