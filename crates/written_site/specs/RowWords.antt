-- What rows say, one after another: the last that a row says, what all of them add up to, which
-- tills are signed on, which shift is open, and how a law of histories is stated.
use Rattle.std.specs.Prelude.{◌≡◌, ℕ, ◌+◌, Bool, true, false, ◌==◌, if◌then◌else◌, List, [], ◌∷◌}
use Rattle.std.specs.Prelude.{◌++◌, Option, Some, None, is_some, unwrap_or, is_ok}
use Rattle.std.specs.List.{list_any}
use Rattle.site_base.specs.declared.actor.Actor.{Actor}
use Rattle.site_base.specs.declared.actor.Actor.TheVariants.{Till}
use Rattle.site_base.specs.declared.event.Event.{Event}
use Rattle.site_base.specs.declared.event.Event.TheVariants.{SignOn, SignOff, CloseShift}
use Rattle.site_base.specs.declared.row.Row.{Row}
use Rattle.site_base.specs.Configured.{Configured}
use Rattle.written_site.specs.SiteState.{SiteState, opening}
use Rattle.written_site.specs.SiteRun.{rows_of, site_at_end, site_of_rows, IsLegal}

-- it is so for every list of events from the opening site of any configuration: of the
-- configuration, the rows that the events make, and the site that they lead to
abbrev pub OfEvents : (Configured → List Row → SiteState → Type 0) → Type 0
OfEvents Law = (c : Configured) (events : List (Actor × Event))
    → Law c (rows_of (opening c) events) (site_at_end (opening c) events)

-- it is so of every legal history, such as a book keeps, and of the site that it leads to
abbrev pub OfBooks : (Configured → List Row → SiteState → Type 0) → Type 0
OfBooks Law = (c : Configured) (rows : List Row) → IsLegal (opening c) rows
    → Law c rows (site_of_rows (opening c) rows)

-- the second of these two; without it, the first
abbrev pub last_said : {A : Type 0} → Option A → Option A → Option A
last_said first None = first
last_said first (Some x) = Some x

-- what the last of these rows says that says anything
abbrev pub latest : {A : Type 0} → (Row → Option A) → List Row → Option A
latest says [] = None
latest says (r ∷ rs) = last_said (says r) (latest says rs)

-- one of these rows says x, and none after it says anything
pub record IsLatest {A : Type 0} (says : Row → Option A) (x : A) (rows : List Row) : Type 0 where
  pub before : List Row
  pub row : Row
  pub since : List Row
  pub parts : rows ≡ before ++ row ∷ since
  pub said : says row ≡ Some x
  pub silent : list_any (λ r. is_some (says r)) since ≡ false

-- what these add up to
abbrev pub total : {A : Type 0} → (A → ℕ) → List A → ℕ
total figure [] = 0
total figure (x ∷ xs) = figure x + total figure xs

-- how many of these there are of which this is so
abbrev pub count : {A : Type 0} → (A → Bool) → List A → ℕ
count test xs = total (λ x. if test x then 1 else 0) xs

-- what such an event, once accepted, says of till t: that it is signed on, or that it isn't
abbrev pub signing_said : ℕ → Actor → Event → Option Bool
signing_said t (Till u) SignOn = if u == t then Some true else None
signing_said t (Till u) SignOff = if u == t then Some false else None
signing_said t actor event = None

-- an accepted SignOn of the till, or an accepted SignOff of it
abbrev pub signing_of : ℕ → Row → Option Bool
signing_of t r = if is_ok r.reply then signing_said t r.actor r.event else None

-- the till's last accepted SignOn or SignOff among these rows is a SignOn
abbrev pub on_after : ℕ → List Row → Bool
on_after t rows = unwrap_or (latest (signing_of t) rows) false

-- the event closes the open shift
abbrev pub is_close : Event → Bool
is_close CloseShift = true
is_close event = false

-- an accepted CloseShift
abbrev pub closes_shift : Row → Bool
closes_shift r = if is_ok r.reply then is_close r.event else false

-- the number of the shift that is open after these rows: 1, and 1 more for each shift that they
-- close
abbrev pub open_after : List Row → ℕ
open_after rows = 1 + count closes_shift rows
