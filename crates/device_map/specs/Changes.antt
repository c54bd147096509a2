-- The message that tells a dispenser of a change: an accepted command that moves its fuelling
-- point.
use Rattle.std.specs.Prelude.{◌≡◌, ℕ, ◌+◌, List, [], ◌∷◌, true, Option, Some, None, is_some}
use Rattle.std.specs.Prelude.{Result, Ok, Err}
use Rattle.site_base.specs.declared.limits.TheConstants.{TILLS}
use Rattle.site_base.specs.declared.actor.Actor.TheVariants.{Till}
use Rattle.site_base.specs.declared.answer.Answer.{Answer}
use Rattle.site_base.specs.declared.event.Event.{Event}
use Rattle.site_base.specs.declared.event.Event.TheVariants as events
use Rattle.site_base.specs.declared.refusal.Refusal.{Refusal}
use Rattle.site_base.specs.declared.row.Row.{Row}
use Rattle.site_base.specs.Ranges.{is_between}
use Rattle.site_base.specs.Events.{has_change}
use Rattle.app_message.specs.declared.kind.Kind.TheVariants as kinds
use Rattle.app_message.specs.Telegram.{Entry, entry, Telegram, telegram}
use Rattle.device_map.specs.declared.ids.TheConstants as ids
use Rattle.device_map.specs.Items.{four_octets}
use Rattle.device_map.specs.Laws.{is_in_range}
use Rattle.device_map.specs.Nodes.{site_node}
use Rattle.device_map.specs.Replies.{preset_items}
use Rattle.device_map.specs.Requests.{request_at}

-- a notice from the site to the dispenser of point p, with the point's address
abbrev pub notice : ℕ → List Entry → Telegram
notice p items = telegram (ids.DISPENSER_SUBNET ∷ p ∷ []) site_node kinds.Notice 0
    ((ids.POINT_ADDRESS + p) ∷ []) items

-- what the dispenser is told of an accepted event: the items of its request; nothing of others
abbrev pub change_by : Event → Option Telegram
change_by (events.Open p) = Some (notice p (entry ids.OPEN [] ∷ []))
change_by (events.Close p) = Some (notice p (entry ids.CLOSE [] ∷ []))
change_by (events.Release p preset) = Some (notice p (entry ids.RELEASE [] ∷ preset_items preset))
change_by (events.Prepay p cents) =
    Some (notice p (entry ids.PREPAY [] ∷ four_octets ids.PRESET_MONEY cents))
change_by (events.TestRelease p) = Some (notice p (entry ids.TEST_RELEASE [] ∷ []))
change_by (events.Suspend p) = Some (notice p (entry ids.SUSPEND [] ∷ []))
change_by (events.Resume p) = Some (notice p (entry ids.RESUME [] ∷ []))
change_by (events.Terminate p) = Some (notice p (entry ids.TERMINATE [] ∷ []))
change_by event = None

abbrev pub change_where : Event → Result Answer Refusal → Option Telegram
change_where event (Ok answer) = change_by event
change_where event (Err refusal) = None

-- the change that a row stands for, if it stands for one
abbrev pub change_of : Row → Option Telegram
change_of row = change_where row.event row.reply

-- the same address and items in a till's command
abbrev pub as_command : ℕ → Telegram → Telegram
as_command t m = telegram site_node (ids.TILL_SUBNET ∷ t ∷ []) kinds.Write m.token m.address m.items

-- a change has the address and the items of the request that made it: in any till's command they
-- ask for the event of the row
abbrev pub ChangesRepeatRequests : Type 0
ChangesRepeatRequests = (t : ℕ) (row : Row) (m : Telegram) → is_between 1 TILLS t ≡ true
    → is_in_range row.event ≡ true → change_of row ≡ Some m
    → request_at (as_command t m) ≡ Ok (Till t, row.event)

-- a dispenser is told of just the accepted events that have a change
abbrev pub ChangesAreTold : Type 0
ChangesAreTold = (event : Event) → is_some (change_by event) ≡ has_change event
