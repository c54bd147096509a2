-- The words in which actors and events are written. Whoever prints or reads them cites these.
use Rattle.std.specs.Prelude.{ℕ, List, [], ◌∷◌, ◌++◌, codes, decimal, Option, Some, None}
use Rattle.site_base.specs.declared.actor.Actor.{Actor}
use Rattle.site_base.specs.declared.actor.Actor.TheVariants.{Till, Dispenser}
use Rattle.site_base.specs.declared.event.Event.{Event}
use Rattle.site_base.specs.declared.event.Event.TheVariants.{SignOn, SignOff, Open, Close, Assign}
use Rattle.site_base.specs.declared.event.Event.TheVariants.{Unassign, Release, Prepay, TestRelease}
use Rattle.site_base.specs.declared.event.Event.TheVariants.{Suspend, Resume, Terminate}
use Rattle.site_base.specs.declared.event.Event.TheVariants.{ReplaceMeter, ReadPoint, Lock, Unlock}
use Rattle.site_base.specs.declared.event.Event.TheVariants.{Clear, ReadTransaction, SetPrice}
use Rattle.site_base.specs.declared.event.Event.TheVariants.{ReadProduct, CloseShift, ReadSite}
use Rattle.site_base.specs.declared.event.Event.TheVariants.{Online, Offline, Lift, Flow, HangUp}
use Rattle.site_base.specs.declared.sale.SaleId.{SaleId}
use Rattle.site_base.specs.declared.state.Preset.{Preset}
use Rattle.site_base.specs.declared.state.Preset.TheVariants.{Unset, Volume, Money}

-- `t1` is till 1, `d3` the dispenser of fuelling point 3
abbrev pub actor_word : Actor → List ℕ
actor_word (Till t) = codes "t" ++ decimal t
actor_word (Dispenser p) = codes "d" ++ decimal p

-- a nozzle and the reading of its meter: `2@1000`
abbrev pub meter_word : ℕ → ℕ → List ℕ
meter_word n reading = decimal n ++ codes "@" ++ decimal reading

-- the shift that names a transaction, if one does: `2/`
abbrev pub shift_word : Option ℕ → List ℕ
shift_word None = []
shift_word (Some shift) = decimal shift ++ codes "/"

-- a transaction behind its fuelling point: `1`, in shift 2 `2/1`
abbrev pub id_word : SaleId → List ℕ
id_word s = shift_word s.shift ++ decimal s.seq

-- a transaction of a fuelling point: `3/1`, of shift 2 `3/2/1`
abbrev pub sale_word : ℕ → SaleId → List ℕ
sale_word p s = decimal p ++ codes "/" ++ id_word s

-- an event's name, and a number behind it
abbrev pub number_words : List ℕ → ℕ → List (List ℕ)
number_words name n = name ∷ decimal n ∷ []

-- an event of a nozzle at its fuelling point
abbrev pub nozzle_words : List ℕ → ℕ → ℕ → ℕ → List (List ℕ)
nozzle_words name p n reading = name ∷ decimal p ∷ meter_word n reading ∷ []

-- an event of a transaction
abbrev pub at_sale : List ℕ → ℕ → SaleId → List (List ℕ)
at_sale name p s = name ∷ sale_word p s ∷ []

-- what a release is for: nothing said, `volume` with millilitres, `money` with cents
abbrev pub limit_words : Preset → List (List ℕ)
limit_words Unset = []
limit_words (Volume millilitres) = codes "volume" ∷ decimal millilitres ∷ []
limit_words (Money cents) = codes "money" ∷ decimal cents ∷ []

-- the event's name, the number of what it is about, and what else it carries
abbrev pub event_words : Event → List (List ℕ)
event_words SignOn = codes "SignOn" ∷ []
event_words SignOff = codes "SignOff" ∷ []
event_words (Open p) = number_words (codes "Open") p
event_words (Close p) = number_words (codes "Close") p
event_words (Assign p) = number_words (codes "Assign") p
event_words (Unassign p) = number_words (codes "Unassign") p
event_words (Release p preset) = codes "Release" ∷ decimal p ∷ limit_words preset
event_words (Prepay p cents) = codes "Prepay" ∷ decimal p ∷ decimal cents ∷ []
event_words (TestRelease p) = number_words (codes "TestRelease") p
event_words (Suspend p) = number_words (codes "Suspend") p
event_words (Resume p) = number_words (codes "Resume") p
event_words (Terminate p) = number_words (codes "Terminate") p
event_words (ReplaceMeter p n reading) = nozzle_words (codes "ReplaceMeter") p n reading
event_words (ReadPoint p) = number_words (codes "ReadPoint") p
event_words (Lock p s) = at_sale (codes "Lock") p s
event_words (Unlock p s) = at_sale (codes "Unlock") p s
event_words (Clear p s) = at_sale (codes "Clear") p s
event_words (ReadTransaction p s) = at_sale (codes "ReadTransaction") p s
event_words (SetPrice q mills) = codes "SetPrice" ∷ decimal q ∷ decimal mills ∷ []
event_words (ReadProduct q) = number_words (codes "ReadProduct") q
event_words CloseShift = codes "CloseShift" ∷ []
event_words ReadSite = codes "ReadSite" ∷ []
event_words (Online p) = number_words (codes "Online") p
event_words (Offline p) = number_words (codes "Offline") p
event_words (Lift p n reading) = nozzle_words (codes "Lift") p n reading
event_words (Flow p n reading) = nozzle_words (codes "Flow") p n reading
event_words (HangUp p n reading) = nozzle_words (codes "HangUp") p n reading

-- words with a space between them
abbrev pub join_words : List (List ℕ) → List ℕ
join_words [] = []
join_words (w ∷ []) = w
join_words (w ∷ ws) = w ++ (32 ∷ join_words ws)
