-- The written run: what a list of events is answered and leads to, which rows it makes, and which
-- histories are legal.
use Rattle.std.specs.Prelude.{◌≡◌, List, [], ◌∷◌, map, Result}
use Rattle.site_base.specs.declared.actor.Actor.{Actor}
use Rattle.site_base.specs.declared.answer.Answer.{Answer}
use Rattle.site_base.specs.declared.event.Event.{Event}
use Rattle.site_base.specs.declared.refusal.Refusal.{Refusal}
use Rattle.site_base.specs.declared.row.Row.{Row}
use Rattle.written_site.specs.SiteState.{SiteState}
use Rattle.written_site.specs.SiteStep.{reply_to, site_after}

-- the replies to these events of these actors, one after another
abbrev pub replies_to : SiteState → List (Actor × Event) → List (Result Answer Refusal)
replies_to s [] = []
replies_to s (e ∷ es) = reply_to s e.0 e.1 ∷ replies_to (site_after s e.0 e.1) es

-- the site after these events, one after another
abbrev pub site_at_end : SiteState → List (Actor × Event) → SiteState
site_at_end s [] = s
site_at_end s (e ∷ es) = site_at_end (site_after s e.0 e.1) es

-- the row of the written step
abbrev pub row_to : SiteState → Actor → Event → Row
row_to s actor event = record { actor = actor; event = event; reply = reply_to s actor event }

-- the rows that these events make
abbrev pub rows_of : SiteState → List (Actor × Event) → List Row
rows_of s [] = []
rows_of s (e ∷ es) = row_to s e.0 e.1 ∷ rows_of (site_after s e.0 e.1) es

-- the site after the events of these rows, one after another
abbrev pub site_of_rows : SiteState → List Row → SiteState
site_of_rows s [] = s
site_of_rows s (r ∷ rs) = site_of_rows (site_after s r.actor r.event) rs

-- each reply is the written step's, at the site that the rows before it led to
abbrev pub IsLegal : SiteState → List Row → Type 0
IsLegal s [] = Unit {0}
IsLegal s (r ∷ rs) = (r.reply ≡ reply_to s r.actor r.event)
    × IsLegal (site_after s r.actor r.event) rs

-- the events of these rows, with their actors
abbrev pub events_of : List Row → List (Actor × Event)
events_of rows = map (λ r. (r.actor, r.event)) rows

-- the replies of these rows
abbrev pub replies_of : List Row → List (Result Answer Refusal)
replies_of rows = map (λ r. r.reply) rows
