-- Who may speak where: the nodes that have doors, the house till, and whether the originator of a
-- session's first message is heard.
use Rattle.std.specs.Prelude.{ℕ, Bool, true, false, nat_lt, List, [], ◌∷◌, ◌++◌}
use Rattle.std.specs.Prelude.{Option, Some, None, if◌then◌else◌, count_by}
use Rattle.std.specs.List.{list_any}
use Rattle.device_map.specs.declared.ids.TheConstants.{TILL_SUBNET}
use Rattle.peer_talk.specs.Text.{is_same_node}
use Rattle.station.specs.declared.gates.Admission.{Admission}
use Rattle.station.specs.declared.gates.Admission.TheVariants as admissions
use Rattle.station.specs.declared.sizes.TheConstants.{NODE_SESSIONS}
use Rattle.station.specs.Sessions.{Session}
use Rattle.station.specs.Listening.{is_at, listener, speaker}

-- the nodes that have doors, in their order, and the house till
pub record GateState : Type 0 where
  pub doors : List (List ℕ)
  pub house : Option ℕ

abbrev pub open_gates : GateState
open_gates = record { doors = []; house = None }

abbrev pub with_door : List ℕ → GateState → GateState
with_door node g = record g { doors = g.doors ++ node ∷ [] }

-- it is the house till's node
abbrev pub is_house : Option ℕ → List ℕ → Bool
is_house None node = false
is_house (Some t) node = is_same_node (TILL_SUBNET ∷ t ∷ []) node

-- the node has a door
abbrev pub has_door : GateState → List ℕ → Bool
has_door g node = list_any (λ door. is_same_node door node) g.doors

-- a session of this node that lasts: at a door also one that hasn't said anything yet
abbrev pub is_session_at : List ℕ → Option Session → Bool
is_session_at node None = false
is_session_at node (Some x) = is_at (listener x.end (speaker x.door x.talk.peer)) node

-- how many sessions of a node last
abbrev pub count_at : List ℕ → List (Option Session) → ℕ
count_at node peers = count_by (is_session_at node) peers

-- one more beside so many is as many as a node may have, or too many
abbrev pub admission_at : ℕ → Admission
admission_at count = if nat_lt count NODE_SESSIONS then admissions.Welcome else admissions.Crowded

-- without a door a node is heard that has none
abbrev pub admission_beside : Bool → ℕ → Admission
admission_beside true count = admissions.Barred
admission_beside false count = admission_at count

-- at a door its own node is heard, without one any that has no door and fewer than four sessions,
-- and nowhere the house till's
abbrev pub admission_by : GateState → List (Option Session) → Option (List ℕ) → List ℕ → Admission
admission_by g others None from = admission_beside (has_door g from) (count_at from others)
admission_by g others (Some node) from =
    if is_same_node node from then admissions.Welcome else admissions.Barred

abbrev pub admission : GateState → List (Option Session) → Option (List ℕ) → List ℕ → Admission
admission g others door from =
    if is_house g.house from then admissions.Barred else admission_by g others door from
