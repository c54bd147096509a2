-- A history as laws read it: its rows as moments, and what rows change one after another.
use Rattle.std.specs.Prelude.{List, [], ◌∷◌, ◌++◌}
use Rattle.site_base.specs.declared.actor.Actor.{Actor}
use Rattle.site_base.specs.declared.event.Event.{Event}
use Rattle.site_base.specs.declared.row.Row.{Row}
use Rattle.site_base.specs.Configured.{Configured}
use Rattle.written_site.specs.SiteState.{SiteState, opening}
use Rattle.written_site.specs.SiteStep.{site_after}
use Rattle.written_site.specs.SiteRun.{rows_of}

-- a row of a history, the rows before it, and the site before it
pub record Moment : Type 0 where
  pub earlier : List Row
  pub before : SiteState
  pub row : Row

-- each of these rows as a moment, from this site on, to which these earlier rows led
abbrev pub moments_after : List Row → SiteState → List Row → List Moment
moments_after earlier s [] = []
moments_after earlier s (r ∷ rs) =
    record { earlier = earlier; before = s; row = r }
    ∷ moments_after (earlier ++ r ∷ []) (site_after s r.actor r.event) rs

-- the moments of a history of this configuration's site, from its opening on
abbrev pub moments_of : Configured → List Row → List Moment
moments_of c rows = moments_after [] (opening c) rows

-- the history that these events make
abbrev pub history : Configured → List (Actor × Event) → List Moment
history c events = moments_of c (rows_of (opening c) events)

-- a value that rows change one after another
abbrev pub fold_rows : {A : Type 0} → (A → Row → A) → A → List Row → A
fold_rows change x [] = x
fold_rows change x (r ∷ rs) = fold_rows change (change x r) rs
