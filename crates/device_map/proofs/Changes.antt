-- A change has the address and the items of the request that made it.
use Rattle.std.proofs.Common.{◌≡◌, ℕ, true, Some, Result, Ok, Err}
use Rattle.site_base.specs.declared.answer.Answer.{Answer}
use Rattle.site_base.specs.declared.event.Event.{Event}
use Rattle.site_base.specs.declared.event.Event.TheVariants as events
use Rattle.site_base.specs.declared.refusal.Refusal.{Refusal}
use Rattle.site_base.specs.declared.limits.TheConstants.{TILLS}
use Rattle.site_base.specs.declared.actor.Actor.TheVariants.{Till}
use Rattle.site_base.specs.Ranges.{is_between}
use Rattle.app_message.specs.Telegram.{Telegram}
use Rattle.device_map.specs.Laws.{is_in_range}
use Rattle.device_map.specs.Requests.{request_at}
use Rattle.device_map.specs.Changes.{change_where, as_command, ChangesRepeatRequests}
use Rattle.device_map.proofs.OneRequest.{asks}

some_is : (m n : Telegram) → Some m ≡ Some n → m ≡ n
some_is m n e = cc e

-- what a change repeats is the request of its event, with token 0
repeats : (t : ℕ) (event : Event) (reply : Result Answer Refusal) (m : Telegram)
    → is_between 1 TILLS t ≡ true → is_in_range event ≡ true → change_where event reply ≡ Some m
    → request_at (as_command t m) ≡ Ok (Till t, event)
repeats t (events.Open p) (Ok answer) m till own is =
    rw (← some_is _ m is) (asks 0 (Till t) (events.Open p) till own)
repeats t (events.Close p) (Ok answer) m till own is =
    rw (← some_is _ m is) (asks 0 (Till t) (events.Close p) till own)
repeats t (events.Release p preset) (Ok answer) m till own is =
    rw (← some_is _ m is) (asks 0 (Till t) (events.Release p preset) till own)
repeats t (events.Prepay p cents) (Ok answer) m till own is =
    rw (← some_is _ m is) (asks 0 (Till t) (events.Prepay p cents) till own)
repeats t (events.TestRelease p) (Ok answer) m till own is =
    rw (← some_is _ m is) (asks 0 (Till t) (events.TestRelease p) till own)
repeats t (events.Suspend p) (Ok answer) m till own is =
    rw (← some_is _ m is) (asks 0 (Till t) (events.Suspend p) till own)
repeats t (events.Resume p) (Ok answer) m till own is =
    rw (← some_is _ m is) (asks 0 (Till t) (events.Resume p) till own)
repeats t (events.Terminate p) (Ok answer) m till own is =
    rw (← some_is _ m is) (asks 0 (Till t) (events.Terminate p) till own)
repeats t event (Ok answer) m till own is = absurd (cc is)
repeats t event (Err refusal) m till own is = absurd (cc is)

pub changes_repeat_requests : ChangesRepeatRequests
changes_repeat_requests t row m till own is = repeats t row.event row.reply m till own is
