-- Whether a message can be made of its parts.
use Rattle.std.specs.Prelude.{ℕ, ◌+◌, Bool, true, false, nat_lt, List, [], ◌∷◌, length, Option}
use Rattle.std.specs.Prelude.{Some, None, if◌then◌else◌}
use Rattle.app_message.specs.declared.fault.MessageFault.{MessageFault}
use Rattle.app_message.specs.declared.fault.MessageFault.TheVariants.{BadLength, BadItem}
use Rattle.app_message.specs.Telegram.{Entry}
use Rattle.app_message.specs.Spelling.{body_text}

-- do the identifiers strictly rise from low on, and has each content at most 254 octets?
abbrev pub do_rise : ℕ → List Entry → Bool
do_rise low [] = true
do_rise low (e ∷ es) =
    if nat_lt e.id low then false
    else if nat_lt 254 (length e.content) then false
    else do_rise (e.id + 1) es

-- The first fault of an address and items: the address's length, the length in all, then the items.
unfoldable pub parts_fault : List ℕ → List Entry → Option MessageFault
parts_fault address items = if nat_lt (length address) 1 then Some BadLength
    else if nat_lt 8 (length address) then Some BadLength
    else if nat_lt 1024 (length (body_text address items)) then Some BadLength
    else if do_rise 0 items then None
    else Some BadItem
