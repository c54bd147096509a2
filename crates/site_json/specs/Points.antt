-- A fuelling point as JSON. Members stand in the order of their names.
use Rattle.std.specs.Prelude.{ℕ, ◌-◌, Bool, ◌&&◌, if◌then◌else◌, List, [], ◌∷◌, codes, nat_le}
use Rattle.std.specs.Prelude.{flat_map}
use Rattle.std.specs.Prelude.{Option, Some, None, option_map, unwrap_or}
use Rattle.serde_json.specs.Data.{Data, boolean, string, object, member, no_members}
use Rattle.site_base.specs.declared.config.NozzleEntry.{NozzleEntry}
use Rattle.site_base.specs.declared.config.PointEntry.{PointEntry}
use Rattle.site_base.specs.declared.amounts.TheConstants.{GREATEST_PRICE}
use Rattle.site_base.specs.declared.amounts.TheConstants.{GREATEST_READING}
use Rattle.site_base.specs.declared.state.PointState.{PointState}
use Rattle.site_base.specs.declared.state.PointState.TheVariants as points
use Rattle.site_base.specs.declared.state.Preset.{Preset}
use Rattle.site_base.specs.declared.state.Preset.TheVariants as presets
use Rattle.site_base.specs.declared.view.PointView.{PointView}
use Rattle.site_base.specs.Amounts.{amount}
use Rattle.site_base.specs.Members as numbered
use Rattle.site_base.specs.Ranges.{is_between}
use Rattle.site_base.specs.States.{state_number}
use Rattle.written_site.specs.SiteState.{SiteState, view_point}
use Rattle.day_report.specs.Figures.{figure, listed}
use Rattle.site_json.specs.declared.sessions.PeerSession.{PeerSession}
use Rattle.site_json.specs.Figures.{figure_if}
use Rattle.site_json.specs.Nozzles.{nozzles_data}
use Rattle.site_json.specs.Sessions.{is_connected}

-- the name of a state
abbrev pub state_word : PointState → List ℕ
state_word points.Inoperative = codes "inoperative"
state_word points.Closed = codes "closed"
state_word points.Idle = codes "idle"
state_word points.Calling = codes "calling"
state_word points.Authorised = codes "authorised"
state_word points.Started = codes "started"
state_word points.SuspendedStarted = codes "suspended started"
state_word points.Fuelling = codes "fuelling"
state_word points.SuspendedFuelling = codes "suspended fuelling"

-- the product of the nozzle that is out
abbrev pub product_out : List NozzleEntry → Option ℕ → Option ℕ
product_out nozzles None = None
product_out nozzles (Some n) = option_map (λ e. e.product) (numbered.member n nozzles)

-- the cents of a preset of money
abbrev pub preset_cents : Preset → Option ℕ
preset_cents presets.Unset = None
preset_cents (presets.Volume n) = None
preset_cents (presets.Money n) = Some n

-- the millilitres of a preset volume
abbrev pub preset_millilitres : Preset → Option ℕ
preset_millilitres presets.Unset = None
preset_millilitres (presets.Volume n) = Some n
preset_millilitres (presets.Money n) = None

-- the cents of the fuelling so far; none unless it has started, with a price taken
abbrev pub cents_so_far : PointView → Option ℕ
cents_so_far v =
    if nat_le v.volume GREATEST_READING && is_between 1 GREATEST_PRICE v.price
    then Some (amount v.volume v.price) else None

-- what is left of what was prepaid, where it was
abbrev pub left_cents : PointView → Option ℕ
left_cents v = option_map (λ paid. paid - unwrap_or (cents_so_far v) 0) v.prepaid

-- the fuelling to come or under way at a point that a read shows so
abbrev pub fuelling_data : PointView → Data
fuelling_data v =
    object
    (member (codes "cents") (figure_if (cents_so_far v))
    (member (codes "ending") (boolean v.ending)
    (member (codes "left cents") (figure_if (left_cents v))
    (member (codes "millilitres") (figure v.volume)
    (member (codes "mills") (figure v.price)
    (member (codes "prepaid") (figure_if v.prepaid)
    (member (codes "preset cents") (figure_if (preset_cents v.preset))
    (member (codes "preset millilitres") (figure_if (preset_millilitres v.preset))
    (member (codes "test") (boolean v.test)
    no_members)))))))))

-- a point of the configuration as a read shows it, whose dispenser is connected or not, with these
-- nozzles
abbrev pub point_data : Bool → List Data → PointEntry → PointView → Data
point_data connected nozzles e v =
    object
    (member (codes "dispenser connected") (boolean connected)
    (member (codes "fuelling") (fuelling_data v)
    (member (codes "holder") (figure_if v.holder)
    (member (codes "nozzle") (figure_if v.out)
    (member (codes "nozzles") (listed nozzles)
    (member (codes "number") (figure e.number)
    (member (codes "product") (figure_if (product_out e.nozzles v.out))
    (member (codes "state") (figure (state_number v.state))
    (member (codes "state name") (string (state_word v.state))
    no_members)))))))))

-- a configured point as the site has it, beside these sessions
abbrev pub point_shown : SiteState → List PeerSession → PointEntry → List Data
point_shown s sessions e = data_shown e (view_point s e.number)
  where
    data_shown : PointEntry → Option PointView → List Data
    data_shown e None = []
    data_shown e (Some v) =
        point_data (is_connected sessions e.number) (nozzles_data s e) e v ∷ []

-- the configured points, in their order
abbrev pub points_data : SiteState → List PeerSession → List PointEntry → List Data
points_data s sessions points = flat_map (point_shown s sessions) points
