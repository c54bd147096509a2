-- What is asked and answered: requests with their outcomes, the rows that they make, and who is
-- signed on after them.
use Rattle.std.specs.Prelude.{ℕ, List, [], ◌∷◌, ◌++◌, Option, Some, None, Result, Ok, Err}
use Rattle.site_base.specs.declared.actor.Actor.{Actor}
use Rattle.site_base.specs.declared.actor.Actor.TheVariants.{Till}
use Rattle.site_base.specs.declared.answer.Answer.{Answer}
use Rattle.site_base.specs.declared.answer.Answer.TheVariants.{Done}
use Rattle.site_base.specs.declared.event.Event.{Event}
use Rattle.site_base.specs.declared.event.Event.TheVariants.{SignOff}
use Rattle.site_base.specs.declared.refusal.NoRow.{NoRow}
use Rattle.site_base.specs.declared.refusal.Refusal.{Refusal}
use Rattle.site_base.specs.declared.row.Row.{Row}
use Rattle.site_base.specs.declared.signing.SignChange.{SignChange}
use Rattle.site_base.specs.declared.signing.SignChange.TheVariants.{On, Off}
use Rattle.site_base.specs.SignChanges.{sign_change}

-- what a request is answered: the site's reply, or why there is no row
abbrev pub Outcome : Type 0
Outcome = Result (Result Answer Refusal) NoRow

-- a request that was asked, and its outcome
pub record Asked : Type 0 where
  pub actor : Actor
  pub event : Event
  pub outcome : Outcome

abbrev pub request_asked : Asked → Actor × Event
request_asked a = (a.actor, a.event)

abbrev pub outcome_given : Asked → Outcome
outcome_given a = a.outcome

-- the row of a request that was answered so, if there is one
abbrev pub row_made : Actor → Event → Outcome → List Row
row_made actor event (Ok reply) = record { actor = actor; event = event; reply = reply } ∷ []
row_made actor event (Err no_row) = []

-- the rows of requests, in order
abbrev pub rows_made : List Asked → List Row
rows_made [] = []
rows_made (a ∷ asked) = row_made a.actor a.event a.outcome ++ rows_made asked

-- the row of a till that was signed off
abbrev pub sign_off_row : ℕ → Row
sign_off_row t = record { actor = Till t; event = SignOff; reply = Ok Done }

-- what a request that is answered so changes of who is signed on: nothing where there is no row
abbrev pub change_by : Actor → Event → Outcome → Option SignChange
change_by actor event (Ok reply) = sign_change actor event reply
change_by actor event (Err no_row) = None

-- the till that a session signed on and didn't sign off, after such a change
abbrev pub signed_with : Option SignChange → Option ℕ → Option ℕ
signed_with (Some (On t)) on = Some t
signed_with (Some (Off t)) on = None
signed_with None on = on

-- .. and once a request is answered so
abbrev pub signed_by : Actor → Event → Outcome → Option ℕ → Option ℕ
signed_by actor event outcome on = signed_with (change_by actor event outcome) on

-- .. and once these were
abbrev pub signed_on_after : Option ℕ → List Asked → Option ℕ
signed_on_after on [] = on
signed_on_after on (a ∷ asked) = signed_on_after (signed_by a.actor a.event a.outcome on) asked
