-- Who speaks from a node.
use Rattle.std.specs.Prelude.{ℕ, Bool, List, [], ◌∷◌, ◌&&◌, ◌==◌, slice_index, Result, Ok, Err}
use Rattle.std.specs.Prelude.{if◌then◌else◌}
use Rattle.site_base.specs.declared.limits.TheConstants.{TILLS, POINTS}
use Rattle.site_base.specs.declared.actor.Actor.{Actor}
use Rattle.site_base.specs.declared.actor.Actor.TheVariants.{Till, Dispenser}
use Rattle.site_base.specs.Ranges.{is_between}
use Rattle.app_message.specs.declared.kind.Kind.{Kind}
use Rattle.app_message.specs.declared.kind.Kind.TheVariants as kinds
use Rattle.device_map.specs.declared.fault.MapFault.{MapFault}
use Rattle.device_map.specs.declared.fault.MapFault.TheVariants.{NotARequest, NotForUs}
use Rattle.device_map.specs.declared.fault.MapFault.TheVariants.{BadOriginator}
use Rattle.device_map.specs.declared.ids.TheConstants.{SITE_SUBNET, SITE_NODE, TILL_SUBNET}
use Rattle.device_map.specs.declared.ids.TheConstants.{DISPENSER_SUBNET}

-- subnet and node of the site
abbrev pub site_node : List ℕ
site_node = SITE_SUBNET ∷ SITE_NODE ∷ []

abbrev pub is_site_node : List ℕ → Bool
is_site_node node = slice_index node 0 == SITE_SUBNET && slice_index node 1 == SITE_NODE

-- the message is for the site
unfoldable pub for_us : List ℕ → Result (Unit {0}) MapFault
for_us to = if is_site_node to then Ok tt else Err NotForUs

-- till t speaks from node t of the tills' subnet
unfoldable pub till_at : List ℕ → Result Actor MapFault
till_at node =
    if slice_index node 0 == TILL_SUBNET && is_between 1 TILLS (slice_index node 1)
    then Ok (Till (slice_index node 1))
    else Err BadOriginator

-- the dispenser of point p speaks from node p of the dispensers' subnet
unfoldable pub dispenser_at : List ℕ → Result Actor MapFault
dispenser_at node =
    if slice_index node 0 == DISPENSER_SUBNET && is_between 1 POINTS (slice_index node 1)
    then Ok (Dispenser (slice_index node 1))
    else Err BadOriginator

-- tills read and write, dispensers report
abbrev pub actor_at : Kind → List ℕ → Result Actor MapFault
actor_at kinds.Read node = till_at node
actor_at kinds.Write node = till_at node
actor_at kinds.Report node = dispenser_at node
actor_at kind node = Err NotARequest

-- a Read, a Write or a Report
abbrev pub is_request : Kind → Result (Unit {0}) MapFault
is_request kinds.Read = Ok tt
is_request kinds.Write = Ok tt
is_request kinds.Report = Ok tt
is_request kind = Err NotARequest
