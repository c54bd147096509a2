-- The outcome of a row's request, and what became of a message of anyone.
use Rattle.std.specs.Prelude.{◌≡◌, Result, Ok, Err, ⊤}
use Rattle.site_base.specs.declared.actor.Actor.{Actor}
use Rattle.site_base.specs.declared.event.Event.{Event}
use Rattle.site_base.specs.declared.refusal.NoRow.{NoRow}
use Rattle.site_base.specs.declared.row.Row.{Row}
use Rattle.app_message.specs.Telegram.{Telegram}
use Rattle.device_map.specs.Requests.{request_at}
use Rattle.peer_talk.specs.Exchanges.{Outcome}
use Rattle.conversation.specs.declared.asks.NoReply.{NoReply}
use Rattle.conversation.specs.declared.asks.NoReply.TheVariants as noreply

-- the outcome of a row's request, once it was asked: the row's reply, or why there is no row
abbrev pub outcome_of : Row → Result ⊤ NoRow → Outcome
outcome_of row (Ok made) = Ok row.reply
outcome_of row (Err no_row) = Err no_row

-- a message of anyone was heard: its request was asked once, and this is its row, or why it has
-- none; where it means no event, nothing was asked
abbrev pub IsHeard : {S : Type 0} → (S → Actor → Event → Outcome → S → Type 0) → S → Telegram
    → Result Row NoReply → S → Type 0
IsHeard R old m (Ok row) new =
    (request_at m ≡ Ok (row.actor, row.event)) × R old row.actor row.event (Ok row.reply) new
IsHeard R old m (Err (noreply.NoRow n)) new =
    (request : Actor × Event)
    × (request_at m ≡ Ok request) × R old request.0 request.1 (Err n) new
IsHeard R old m (Err (noreply.Fault f)) new = (request_at m ≡ Err f) × (new ≡ old)
