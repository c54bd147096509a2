-- What requests cost: a message has ten octets at least.
use Rattle.std.proofs.Common.{◌≡◌, ℕ, zero, suc, ◌+◌, ◌*◌, ◌≤◌, Bool, true, false, List, []}
use Rattle.std.proofs.Common.{◌∷◌, length, Option, None, Result, Ok, Err, arith}
use Rattle.std.specs.Prelude.{if◌then◌else◌}
use Rattle.std.proofs.lemmas.List.{length-drop}
use Rattle.site_base.specs.declared.actor.Actor.{Actor}
use Rattle.site_base.specs.declared.event.Event.{Event}
use Rattle.app_message.specs.Grammar.{Header, front_at, header_at}
use Rattle.app_message.specs.Stream.{stream_of, walk}
use Rattle.app_message.specs.Telegram.{Telegram}
use Rattle.app_message.proofs.Taking.{header_takes}
use Rattle.device_map.specs.declared.fault.MapFault.{MapFault}
use Rattle.device_map.specs.Requests.{request_at}
use Rattle.peer_talk.specs.Text.{is_another, peer_after, requests_in, requests_then}
use Rattle.station.specs.Neighbours.{RequestsCostOctets}

-- ---- octets

header_long : (s : List ℕ) (h : Header) → header_at s ≡ Ok h → 8 ≤ length s
header_long s h is = (header_takes s h is).long

header_least : (s : List ℕ) (h : Header) → header_at s ≡ Ok h → 2 ≤ h.len
header_least s h is = (header_takes s h is).least

front_ten : (s : List ℕ) (x : Telegram × List ℕ) → front_at s ≡ Ok x
    → length x.1 + 10 ≤ length s
unfolding front_at
front_ten s x is = grind (arith, header_long, header_least, length-drop {A = ℕ})

walk_tenth : (n : ℕ) (s : List ℕ) → length (walk n s).messages * 10 ≤ length s
unfolding walk
walk_tenth zero s = omega arith
walk_tenth (suc n) s = grind (arith, front_ten, walk_tenth n)

-- ---- requests

-- no message is more than one
requests_few : (peer : Option (List ℕ)) (ms : List Telegram)
    → length (requests_in peer ms) ≤ length ms
requests_few peer [] = omega arith
requests_few peer (m ∷ ms) =
    by_test (is_another peer m.from) (request_at m) (requests_few (peer_after peer m.from) ms)
  where
    by_test : (another : Bool) (r : Result (Actor × Event) MapFault)
        → length (requests_in (peer_after peer m.from) ms) ≤ length ms
        → length (if another then []
        else requests_then r (requests_in (peer_after peer m.from) ms)) ≤ suc (length ms)
    by_test true r later = omega arith
    by_test false (Err f) later = omega (arith, later)
    by_test false (Ok request) later = omega (arith, later)

pub cost_octets : RequestsCostOctets
cost_octets = λ octets.
    omega (arith, requests_few None (stream_of octets).messages, walk_tenth (length octets) octets)
