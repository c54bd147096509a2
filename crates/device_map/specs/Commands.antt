-- The requests of the profile, line for line as its table prints them: the kind of message and the
-- database where each stands, the identifier of its command, the shape of what it carries, and the
-- event that it makes.
use Rattle.std.specs.Prelude.{ℕ, List, [], ◌∷◌}
use Rattle.site_base.specs.declared.event.Event.{Event}
use Rattle.site_base.specs.declared.event.Event.TheVariants as events
use Rattle.site_base.specs.declared.sale.SaleId.{SaleId}
use Rattle.site_base.specs.declared.state.Preset.{Preset}
use Rattle.app_message.specs.declared.kind.Kind.{Kind}
use Rattle.app_message.specs.declared.kind.Kind.TheVariants as kinds
use Rattle.device_map.specs.declared.address.Database.{Database}
use Rattle.device_map.specs.declared.address.Database.TheVariants.{Site, Point, Transaction}
use Rattle.device_map.specs.declared.address.Database.TheVariants.{Product}
use Rattle.device_map.specs.declared.decimal.SaleDigits.{SaleDigits}
use Rattle.device_map.specs.declared.ids.TheConstants as ids

-- the shape of a request: what stands behind its command and in it, and the event that this makes.
-- Where nothing is said of the command, it has no content
pub data Shape : Type 0 where
  -- nothing
  bare : (event : Event) → Shape
  -- a preset volume, or preset money, or nothing
  limited : (event : Preset → Event) → Shape
  -- preset money
  prepaid : (event : ℕ → Event) → Shape
  -- a nozzle and the reading of its meter
  metered : (event : ℕ → ℕ → Event) → Shape
  -- nothing, and the address names a sale by its digits
  of_sale : (digits : SaleDigits) (event : SaleId → Event) → Shape
  -- nothing, and the command's own content is a price
  priced : (event : ℕ → Event) → Shape

-- a command: its identifier and its shape
pub record Command : Type 0 where
  pub id : ℕ
  pub shape : Shape

abbrev pub command : ℕ → Shape → Command
command id shape = record { id = id; shape = shape }

-- the commands of a kind of message to a database; none where nothing is asked of it
abbrev pub commands : Kind → Database → List Command
commands kinds.Write Site =
    command ids.SIGN_ON (bare events.SignOn) ∷
    command ids.SIGN_OFF (bare events.SignOff) ∷
    command ids.CLOSE_SHIFT (bare events.CloseShift) ∷
    []
commands kinds.Write (Point p) =
    command ids.OPEN (bare (events.Open p)) ∷
    command ids.CLOSE (bare (events.Close p)) ∷
    command ids.RELEASE (limited (events.Release p)) ∷
    command ids.TERMINATE (bare (events.Terminate p)) ∷
    command ids.SUSPEND (bare (events.Suspend p)) ∷
    command ids.RESUME (bare (events.Resume p)) ∷
    command ids.ASSIGN (bare (events.Assign p)) ∷
    command ids.UNASSIGN (bare (events.Unassign p)) ∷
    command ids.PREPAY (prepaid (events.Prepay p)) ∷
    command ids.TEST_RELEASE (bare (events.TestRelease p)) ∷
    command ids.REPLACE_METER (metered (events.ReplaceMeter p)) ∷
    []
commands kinds.Write (Transaction p digits) =
    command ids.LOCK (of_sale digits (events.Lock p)) ∷
    command ids.UNLOCK (of_sale digits (events.Unlock p)) ∷
    command ids.CLEAR (of_sale digits (events.Clear p)) ∷
    []
commands kinds.Write (Product q) =
    command ids.SET_PRICE (priced (events.SetPrice q)) ∷
    []
commands kinds.Report (Point p) =
    command ids.ONLINE (bare (events.Online p)) ∷
    command ids.OFFLINE (bare (events.Offline p)) ∷
    command ids.LIFT (metered (events.Lift p)) ∷
    command ids.FLOW (metered (events.Flow p)) ∷
    command ids.HANG_UP (metered (events.HangUp p)) ∷
    []
commands kind database = []

-- each database is read. A read has no command: its shape is that of its database
abbrev pub reading_of : Database → Shape
reading_of Site = bare events.ReadSite
reading_of (Point p) = bare (events.ReadPoint p)
reading_of (Transaction p digits) = of_sale digits (events.ReadTransaction p)
reading_of (Product q) = bare (events.ReadProduct q)
