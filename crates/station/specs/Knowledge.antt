-- What a dispenser knows of its point: from the changes that it is told, and from what it reports
-- itself.
use Rattle.std.specs.Prelude.{ℕ, Bool, true, false, ◌&&◌, List, [], ◌∷◌, Option, Some, None, is_ok}
use Rattle.std.specs.Prelude.{if◌then◌else◌}
use Rattle.site_base.specs.declared.event.Event.{Event}
use Rattle.site_base.specs.declared.event.Event.TheVariants.{Open, Close, Release, Prepay}
use Rattle.site_base.specs.declared.event.Event.TheVariants.{TestRelease, Suspend, Resume}
use Rattle.site_base.specs.declared.event.Event.TheVariants.{Terminate, Offline, Lift, HangUp}
use Rattle.site_base.specs.declared.row.Row.{Row}
use Rattle.site_base.specs.Events.{has_change, point_named, reported_by}
use Rattle.written_site.specs.Holders.{names_point}

-- whether a nozzle of it is out, by its accepted reports; whether its point is open; what released
-- it, until that is over; and what stopped its fuelling, until it is resumed or over
pub record Knowledge : Type 0 where
  pub is_lifted : Bool
  pub is_open : Bool
  pub release : Option Event
  pub stop : Option Event

-- of one that knows only how it last reported its nozzle
abbrev pub only_nozzle : Bool → Knowledge
only_nozzle lifted = record { is_lifted = lifted; is_open = false; release = None; stop = None }

-- what it knows with this event: with a change that it is told, or a report of its own. A Terminate
-- takes back a release by which no nozzle is out yet; it stops a fuelling for good.
abbrev pub learn : Event → Knowledge → Knowledge
learn (Open p) k = record k { is_open = true }
learn (Close p) k = record k { is_open = false }
learn (Release p preset) k = record k { release = Some (Release p preset) }
learn (Prepay p cents) k = record k { release = Some (Prepay p cents) }
learn (TestRelease p) k = record k { release = Some (TestRelease p) }
learn (Suspend p) k = record k { stop = Some (Suspend p) }
learn (Resume p) k = record k { stop = None }
learn (Terminate p) k =
    if k.is_lifted then record k { stop = Some (Terminate p) } else record k { release = None }
learn (Lift p n reading) k = record k { is_lifted = true }
learn (HangUp p n reading) k = record k { is_lifted = false; release = None; stop = None }
learn (Offline p) k = only_nozzle false
learn event k = k

-- .. with these, one after another
abbrev pub learn_all : List Event → Knowledge → Knowledge
learn_all [] k = k
learn_all (e ∷ es) k = learn_all es (learn e k)

-- the dispenser of point p is told of the event where it is accepted, or reports it
abbrev pub reaches_point : ℕ → Event → Bool
reaches_point p e = names_point p (if has_change e then point_named e else reported_by e)

-- what it knows with one more row: a refused event tells it nothing
abbrev pub learn_row : ℕ → Row → Knowledge → Knowledge
learn_row p r k = if is_ok r.reply && reaches_point p r.event then learn r.event k else k

-- .. with these, one after another
abbrev pub learn_rows : ℕ → List Row → Knowledge → Knowledge
learn_rows p [] k = k
learn_rows p (r ∷ rs) k = learn_rows p rs (learn_row p r k)
