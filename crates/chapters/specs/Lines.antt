-- The lines of octets, and the requests that they are.
use Rattle.std.specs.Prelude.{ℕ, List, [], ◌∷◌, ◌++◌, ◌==◌, Option, Some, None, Result, Ok}
use Rattle.std.specs.Prelude.{Err, if◌then◌else◌}
use Rattle.hex.specs.Hex.{decode_of}
use Rattle.hex.specs.declared.error.FromHexError.{FromHexError}
use Rattle.site_base.specs.declared.actor.Actor.{Actor}
use Rattle.site_base.specs.declared.event.Event.{Event}
use Rattle.app_message.specs.declared.fault.StreamFault.{StreamFault}
use Rattle.app_message.specs.Stream.{fed_by, held_after}
use Rattle.app_message.specs.Telegram.{Telegram}
use Rattle.device_map.specs.declared.fault.MapFault.{MapFault}
use Rattle.device_map.specs.Requests.{request_at}
use Rattle.kept_history.specs.KeptRows.{is_read}

-- the lines that end with a line feed, without it, of octets whose first line begins so
abbrev pub lines_from : List ℕ → List ℕ → List (List ℕ)
lines_from line [] = []
lines_from line (b ∷ bs) =
    if b == 10 then line ∷ lines_from [] bs else lines_from (line ++ b ∷ []) bs

-- .. and what stands behind the last of them
abbrev pub unfinished_from : List ℕ → List ℕ → List ℕ
unfinished_from line [] = line
unfinished_from line (b ∷ bs) =
    if b == 10 then unfinished_from [] bs else unfinished_from (line ++ b ∷ []) bs

-- the whole lines of a file
abbrev pub whole_lines : List ℕ → List (List ℕ)
whole_lines file = lines_from [] file

-- the octets of a last line that has no line feed
abbrev pub unfinished : List ℕ → List ℕ
unfinished file = unfinished_from [] file

-- ---- what a line asks for

-- a request whose row is kept: any but a read
abbrev pub if_kept : Actor × Event → Option (Actor × Event)
if_kept request = if is_read request.1 then None else Some request

abbrev pub request_meant : Result (Actor × Event) MapFault → Option (Actor × Event)
request_meant (Ok request) = if_kept request
request_meant (Err fault) = None

-- the request that one message alone is
abbrev pub request_alone : List Telegram → List ℕ → Option StreamFault → Option (Actor × Event)
request_alone (m ∷ []) [] None = request_meant (request_at m)
request_alone messages rest fault = None

-- .. that octets are: one whole message, and nothing behind it
abbrev pub request_in_octets : List ℕ → Option (Actor × Event)
request_in_octets octets =
    let s = fed_by (held_after []) octets in request_alone s.messages s.rest s.fault

abbrev pub request_decoded : Result (List ℕ) FromHexError → Option (Actor × Event)
request_decoded (Ok octets) = request_in_octets octets
request_decoded (Err e) = None

-- the request that a line is, in hexadecimal: its actor and its event; None where it is none, or a
-- read, whose row isn't kept
abbrev pub request_in : List ℕ → Option (Actor × Event)
request_in line = request_decoded (decode_of line)
