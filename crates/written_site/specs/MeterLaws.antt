-- The meters of a site, as rows tell them: with which reading each began, its last accepted
-- reading, how often a nozzle's meter was replaced, and what its earlier meters counted.
use Rattle.std.specs.Prelude.{◌≡◌, ℕ, ◌-◌, Bool, false, ◌&&◌, ◌==◌, if◌then◌else◌, List, Option}
use Rattle.std.specs.Prelude.{Some, None, unwrap_or, is_ok}
use Rattle.site_base.specs.declared.event.Event.{Event}
use Rattle.site_base.specs.declared.event.Event.TheVariants.{ReplaceMeter, Lift, Flow, HangUp}
use Rattle.site_base.specs.declared.row.Row.{Row}
use Rattle.site_base.specs.Configured.{Configured}
use Rattle.meters.specs.Nozzles.{Nozzle, opening_nozzles, has_nozzle, nozzle_of, product_of}
use Rattle.meters.specs.Nozzles.{reading_of}
use Rattle.written_site.specs.Histories.{Moment, moments_of}
use Rattle.written_site.specs.RowWords.{latest, total, count}
use Rattle.written_site.specs.SiteState.{SiteState}

-- an event of nozzle m of point q is one of nozzle n of point p
abbrev pub is_its : ℕ → ℕ → ℕ → ℕ → Bool
is_its p n q m = q == p && m == n

-- such an event, once accepted, replaces the meter of nozzle n of point p
abbrev pub replace_said : ℕ → ℕ → Event → Bool
replace_said p n (ReplaceMeter q m reading) = is_its p n q m
replace_said p n event = false

-- the reading with which the meter of the nozzle then begins
abbrev pub begun_said : ℕ → ℕ → Event → Option ℕ
begun_said p n (ReplaceMeter q m reading) = if is_its p n q m then Some reading else None
begun_said p n event = None

-- the reading that such an event, once accepted, tells of the nozzle's meter
abbrev pub read_said : ℕ → ℕ → Event → Option ℕ
read_said p n (ReplaceMeter q m reading) = if is_its p n q m then Some reading else None
read_said p n (Lift q m reading) = if is_its p n q m then Some reading else None
read_said p n (Flow q m reading) = if is_its p n q m then Some reading else None
read_said p n (HangUp q m reading) = if is_its p n q m then Some reading else None
read_said p n event = None

abbrev pub begun_of_row : ℕ → ℕ → Row → Option ℕ
begun_of_row p n r = if is_ok r.reply then begun_said p n r.event else None

abbrev pub read_of_row : ℕ → ℕ → Row → Option ℕ
read_of_row p n r = if is_ok r.reply then read_said p n r.event else None

-- an accepted ReplaceMeter of the nozzle
abbrev pub replaces_meter : ℕ → ℕ → Moment → Bool
replaces_meter p n m = is_ok m.row.reply && replace_said p n m.row.event

-- the reading with which the nozzle's meter began: that of its last accepted ReplaceMeter, else the
-- opening one
abbrev pub began_after : Configured → ℕ → ℕ → List Row → ℕ
began_after c p n rows =
    unwrap_or (latest (begun_of_row p n) rows) (reading_of p n (opening_nozzles c))

-- the last accepted reading of the nozzle's meter: of a Lift, Flow or HangUp, else the one with
-- which it began
abbrev pub read_after : Configured → ℕ → ℕ → List Row → ℕ
read_after c p n rows =
    unwrap_or (latest (read_of_row p n) rows) (reading_of p n (opening_nozzles c))

-- the millilitres that the nozzle's meter had counted when a moment replaced it
abbrev pub counted_at : Configured → ℕ → ℕ → Moment → ℕ
counted_at c p n m =
    if replaces_meter p n m then read_after c p n m.earlier - began_after c p n m.earlier else 0

-- The nozzle is as the rows tell it. Its product is the configured one.
pub record IsNozzleRead (c : Configured) (p n : ℕ) (rows : List Row) (x : Nozzle) : Type 0 where
  pub began : x.began ≡ began_after c p n rows
  pub last : x.last ≡ read_after c p n rows
  pub replaced : x.replaced ≡ count (replaces_meter p n) (moments_of c rows)
  pub earlier : x.earlier ≡ total (counted_at c p n) (moments_of c rows)
  pub product : Some x.product ≡ product_of p n (opening_nozzles c)

-- the site has just the configured nozzles, and each is as the rows tell it
pub record AreMetersRead (c : Configured) (rows : List Row) (s : SiteState) : Type 0 where
  pub there : (p n : ℕ) → has_nozzle p n s.nozzles ≡ has_nozzle p n (opening_nozzles c)
  pub nozzles : (p n : ℕ) (x : Nozzle) → nozzle_of p n s.nozzles ≡ Some x
      → IsNozzleRead c p n rows x
