-- What a reply changes of who is signed on. Books, shares and sessions read it.
use Rattle.std.specs.Prelude.{Option, Some, None, Result, Ok}
use Rattle.site_base.specs.declared.actor.Actor.{Actor}
use Rattle.site_base.specs.declared.actor.Actor.TheVariants.{Till}
use Rattle.site_base.specs.declared.answer.Answer.{Answer}
use Rattle.site_base.specs.declared.event.Event.{Event}
use Rattle.site_base.specs.declared.event.Event.TheVariants.{SignOn, SignOff}
use Rattle.site_base.specs.declared.refusal.Refusal.{Refusal}
use Rattle.site_base.specs.declared.signing.SignChange.{SignChange}
use Rattle.site_base.specs.declared.signing.SignChange.TheVariants.{On, Off}

-- what the reply to an actor's event changes of who is signed on: an accepted SignOn signs its till
-- on, an accepted SignOff signs it off, and nothing else does
abbrev pub sign_change : Actor → Event → Result Answer Refusal → Option SignChange
sign_change (Till t) SignOn (Ok answer) = Some (On t)
sign_change (Till t) SignOff (Ok answer) = Some (Off t)
sign_change actor event reply = None
