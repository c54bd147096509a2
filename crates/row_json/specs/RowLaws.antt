-- What the JSON of a row tells.
use Rattle.std.specs.Prelude.{◌≡◌, ℕ, ◌<◌, ◌^◌, Option, Some, None, Result, Ok, Err}
use Rattle.site_base.specs.declared.actor.Actor.{Actor}
use Rattle.site_base.specs.declared.actor.Actor.TheVariants.{Till, Dispenser}
use Rattle.site_base.specs.declared.answer.Answer.{Answer}
use Rattle.site_base.specs.declared.answer.Answer.TheVariants as answers
use Rattle.site_base.specs.declared.event.Event.{Event}
use Rattle.site_base.specs.declared.event.Event.TheVariants as events
use Rattle.site_base.specs.declared.refusal.Refusal.{Refusal}
use Rattle.site_base.specs.declared.sale.SaleId.{SaleId}
use Rattle.site_base.specs.declared.state.Preset.{Preset}
use Rattle.site_base.specs.declared.state.Preset.TheVariants as presets
use Rattle.site_base.specs.Refusals.{refusal_detail}
use Rattle.row_json.specs.declared.told_row.ToldRow.{ToldRow}
use Rattle.row_json.specs.RowObjects.{row_data}

-- ---- rows that a history keeps

-- a number of 64 bits
abbrev pub IsInBits : ℕ → Type 0
IsInBits n = n < 2 ^ 64

-- a number that may be missing is one
abbrev pub IsToldDetail : Option ℕ → Type 0
IsToldDetail None = Unit {0}
IsToldDetail (Some n) = IsInBits n

-- an actor's number is one
abbrev pub IsToldActor : Actor → Type 0
IsToldActor (Till t) = IsInBits t
IsToldActor (Dispenser p) = IsInBits p

abbrev pub IsToldPreset : Preset → Type 0
IsToldPreset presets.Unset = Unit {0}
IsToldPreset (presets.Volume n) = IsInBits n
IsToldPreset (presets.Money n) = IsInBits n

-- a sale's number is one, and that of its shift, if it is named
abbrev pub IsToldSale : SaleId → Type 0
IsToldSale s = IsToldDetail s.shift × IsInBits s.seq

-- an event's numbers are such
abbrev pub IsToldEvent : Event → Type 0
IsToldEvent events.SignOn = Unit {0}
IsToldEvent events.SignOff = Unit {0}
IsToldEvent events.CloseShift = Unit {0}
IsToldEvent events.ReadSite = Unit {0}
IsToldEvent (events.Open n) = IsInBits n
IsToldEvent (events.Close n) = IsInBits n
IsToldEvent (events.Assign n) = IsInBits n
IsToldEvent (events.Unassign n) = IsInBits n
IsToldEvent (events.TestRelease n) = IsInBits n
IsToldEvent (events.Suspend n) = IsInBits n
IsToldEvent (events.Resume n) = IsInBits n
IsToldEvent (events.Terminate n) = IsInBits n
IsToldEvent (events.ReadPoint n) = IsInBits n
IsToldEvent (events.ReadProduct n) = IsInBits n
IsToldEvent (events.Online n) = IsInBits n
IsToldEvent (events.Offline n) = IsInBits n
IsToldEvent (events.Release p preset) = IsInBits p × IsToldPreset preset
IsToldEvent (events.Prepay n amount) = IsInBits n × IsInBits amount
IsToldEvent (events.SetPrice n amount) = IsInBits n × IsInBits amount
IsToldEvent (events.ReplaceMeter p n reading) = IsInBits p × IsInBits n × IsInBits reading
IsToldEvent (events.Lift p n reading) = IsInBits p × IsInBits n × IsInBits reading
IsToldEvent (events.Flow p n reading) = IsInBits p × IsInBits n × IsInBits reading
IsToldEvent (events.HangUp p n reading) = IsInBits p × IsInBits n × IsInBits reading
IsToldEvent (events.Lock p s) = IsInBits p × IsToldSale s
IsToldEvent (events.Unlock p s) = IsInBits p × IsToldSale s
IsToldEvent (events.Clear p s) = IsInBits p × IsToldSale s
IsToldEvent (events.ReadTransaction p s) = IsInBits p × IsToldSale s

-- an answer to what isn't a read, whose numbers are such
abbrev pub IsToldAnswer : Answer → Type 0
IsToldAnswer (answers.Start preset price) = IsToldPreset preset × IsInBits price
IsToldAnswer (answers.Flowed growth) = IsInBits growth
IsToldAnswer (answers.Sold number growth) = IsInBits number × IsInBits growth
IsToldAnswer (answers.Cleared cents) = IsInBits cents
IsToldAnswer (answers.ShiftClosed shift) = IsInBits shift
IsToldAnswer (answers.Drawn growth) = IsInBits growth
IsToldAnswer (answers.PointIs view) = ⊥
IsToldAnswer (answers.TransactionIs view) = ⊥
IsToldAnswer (answers.ProductIs view) = ⊥
IsToldAnswer (answers.SiteIs view) = ⊥
IsToldAnswer answer = Unit {0}

abbrev pub IsToldReply : Result Answer Refusal → Type 0
IsToldReply (Ok answer) = IsToldAnswer answer
IsToldReply (Err refusal) = IsToldDetail (refusal_detail refusal)

-- a row whose actor, event and reply are so
pub record IsTold (x : ToldRow) : Type 0 where
  pub actor : IsToldActor x.row.actor
  pub event : IsToldEvent x.row.event
  pub reply : IsToldReply x.row.reply

-- ---- the law

-- of two rows the same is told: who asked what, the reply, the number and the time
pub record AreToldAlike (x y : ToldRow) : Type 0 where
  pub actor : x.row.actor ≡ y.row.actor
  pub event : x.row.event ≡ y.row.event
  pub reply : x.row.reply ≡ y.row.reply
  pub number : x.number ≡ y.number
  pub time : x.time ≡ y.time

-- it is so of two rows whose JSON is the same
abbrev pub TellsTheRow : Type 0
TellsTheRow = (x y : ToldRow) → IsTold x → IsTold y → row_data x ≡ row_data y → AreToldAlike x y
