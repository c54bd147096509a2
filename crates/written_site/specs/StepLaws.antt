-- The laws of one step: a refusal changes nothing, and Cleared is answered to accepted Clears
-- alone.
use Rattle.std.specs.Prelude.{◌≡◌, Bool, true, false, ◌&&◌, List, Result, Ok, Err, is_ok}
use Rattle.std.specs.List.{AllByRecursion}
use Rattle.site_base.specs.declared.actor.Actor.{Actor}
use Rattle.site_base.specs.declared.answer.Answer.{Answer}
use Rattle.site_base.specs.declared.answer.Answer.TheVariants.{Cleared}
use Rattle.site_base.specs.declared.event.Event.{Event}
use Rattle.site_base.specs.declared.event.Event.TheVariants.{Clear}
use Rattle.site_base.specs.declared.refusal.Refusal.{Refusal}
use Rattle.site_base.specs.declared.row.Row.{Row}
use Rattle.site_base.specs.Configured.{Configured}
use Rattle.written_site.specs.SiteState.{SiteState}
use Rattle.written_site.specs.SiteStep.{reply_to, site_after}

-- an event that is refused leaves the site as it was
abbrev pub DoRefusalsLeave : Type 0
DoRefusalsLeave = (s : SiteState) (actor : Actor) (event : Event) (refusal : Refusal)
    → reply_to s actor event ≡ Err refusal → site_after s actor event ≡ s

-- the reply is Cleared, of whatever cents
abbrev pub is_cleared : Result Answer Refusal → Bool
is_cleared (Ok (Cleared cents)) = true
is_cleared reply = false

-- the event is a Clear
abbrev pub is_clear : Event → Bool
is_clear (Clear p id) = true
is_clear event = false

-- the row is answered Cleared just where its event is a Clear that is accepted
abbrev pub IsClearTold : Row → Type 0
IsClearTold r = is_cleared r.reply ≡ (is_clear r.event && is_ok r.reply)

-- so is each row
abbrev pub AreClearsTold : Configured → List Row → SiteState → Type 0
AreClearsTold c rows s = AllByRecursion IsClearTold rows
