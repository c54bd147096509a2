-- What messages mean, and where a trace of them stands.
use Rattle.std.specs.Prelude.{◌≡◌, ℕ, true, List, [], Some, Result, Ok, Err}
use Rattle.std.specs.Prelude.{if◌then◌else◌}
use Rattle.hex.specs.Hex.{decode_of}
use Rattle.hex.specs.declared.error.FromHexError.{FromHexError}
use Rattle.site_base.specs.NumbersTold.{stands_alone}
use Rattle.app_message.specs.Stream.{Held, fed_by}
use Rattle.app_message.specs.Telegram.{Telegram}
use Rattle.device_map.specs.Changes.{change_by}
use Rattle.device_map.specs.Replies.{told_message, told_number}
use Rattle.device_map.specs.Requests.{request_at}
use Rattle.forecourt_engines.specs.declared.explain.Meaning.{Meaning}
use Rattle.forecourt_engines.specs.declared.explain.Meaning.TheVariants as meanings
use Rattle.hex_lines.specs.Lines.{is_skipped}

-- a request asks for its event; what the site tells is spelled just so; of any other message the
-- mapping's fault is told
abbrev pub Means : Telegram → Meaning → Type 0
Means m (meanings.Asked actor event) = request_at m ≡ Ok (actor, event)
Means m (meanings.Told reply) = m ≡ told_message m reply
Means m (meanings.Numbered number) = (stands_alone number ≡ true) × (m ≡ told_number m number)
Means m (meanings.Changed event) = change_by event ≡ Some m
Means m (meanings.NotAsked fault) = request_at m ≡ Err fault

-- the messages that the text of a line ends: none where it is skipped, or isn't hexadecimal
abbrev pub ended_by : Held → Result (List ℕ) FromHexError → List Telegram
ended_by h (Ok octets) = (fed_by h octets).messages
ended_by h (Err e) = []

abbrev pub messages_in : Held → List ℕ → List Telegram
messages_in h kept = if is_skipped kept then [] else ended_by h (decode_of kept)

-- where a trace stands: the number of its next line, and the octets of a message to come
pub record TraceState : Type 0 where
  pub number : ℕ
  pub stream : Held
