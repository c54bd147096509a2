-- The names of events, and what stands behind them.
use Rattle.std.specs.Prelude.{◌≡◌, ℕ, Bool, true, false, List, [], ◌∷◌, codes}
use Rattle.site_base.specs.declared.event.Event.{Event}
use Rattle.site_base.specs.declared.event.Event.TheVariants as events
use Rattle.site_base.specs.declared.actor.Actor.{Actor}
use Rattle.site_base.specs.Words.{actor_word, event_words}
use Rattle.forecourt_engines.specs.declared.words.event_name.EventName.{EventName}
use Rattle.forecourt_engines.specs.declared.words.event_name.EventName.TheVariants as names
use Rattle.forecourt_engines.specs.declared.words.event_name.LoneName.TheVariants as lone
use Rattle.forecourt_engines.specs.declared.words.event_name.PointName.TheVariants as point
use Rattle.forecourt_engines.specs.declared.words.event_name.MeterName.TheVariants as meter
use Rattle.forecourt_engines.specs.declared.words.event_name.SaleName.TheVariants as sale
use Rattle.device_map.specs.Laws.{is_in_range}
use Rattle.forecourt_engines.specs.Said.{is_actor}

-- the word of each name
abbrev pub name_word : EventName → List ℕ
name_word (names.Alone lone.SignOn) = codes "SignOn"
name_word (names.Alone lone.SignOff) = codes "SignOff"
name_word (names.OfPoint point.Open) = codes "Open"
name_word (names.OfPoint point.Close) = codes "Close"
name_word (names.OfPoint point.Assign) = codes "Assign"
name_word (names.OfPoint point.Unassign) = codes "Unassign"
name_word names.Release = codes "Release"
name_word names.Prepay = codes "Prepay"
name_word (names.OfPoint point.TestRelease) = codes "TestRelease"
name_word (names.OfPoint point.Suspend) = codes "Suspend"
name_word (names.OfPoint point.Resume) = codes "Resume"
name_word (names.OfPoint point.Terminate) = codes "Terminate"
name_word (names.OfMeter meter.ReplaceMeter) = codes "ReplaceMeter"
name_word (names.OfPoint point.ReadPoint) = codes "ReadPoint"
name_word (names.OfSale sale.Lock) = codes "Lock"
name_word (names.OfSale sale.Unlock) = codes "Unlock"
name_word (names.OfSale sale.Clear) = codes "Clear"
name_word (names.OfSale sale.ReadTransaction) = codes "ReadTransaction"
name_word names.SetPrice = codes "SetPrice"
name_word names.ReadProduct = codes "ReadProduct"
name_word (names.Alone lone.CloseShift) = codes "CloseShift"
name_word (names.Alone lone.ReadSite) = codes "ReadSite"
name_word (names.OfPoint point.Online) = codes "Online"
name_word (names.OfPoint point.Offline) = codes "Offline"
name_word (names.OfMeter meter.Lift) = codes "Lift"
name_word (names.OfMeter meter.Flow) = codes "Flow"
name_word (names.OfMeter meter.HangUp) = codes "HangUp"

-- the name of each event
abbrev pub name_said : Event → EventName
name_said events.SignOn = names.Alone lone.SignOn
name_said events.SignOff = names.Alone lone.SignOff
name_said (events.Open p) = names.OfPoint point.Open
name_said (events.Close p) = names.OfPoint point.Close
name_said (events.Assign p) = names.OfPoint point.Assign
name_said (events.Unassign p) = names.OfPoint point.Unassign
name_said (events.Release p preset) = names.Release
name_said (events.Prepay p cents) = names.Prepay
name_said (events.TestRelease p) = names.OfPoint point.TestRelease
name_said (events.Suspend p) = names.OfPoint point.Suspend
name_said (events.Resume p) = names.OfPoint point.Resume
name_said (events.Terminate p) = names.OfPoint point.Terminate
name_said (events.ReplaceMeter p n reading) = names.OfMeter meter.ReplaceMeter
name_said (events.ReadPoint p) = names.OfPoint point.ReadPoint
name_said (events.Lock p s) = names.OfSale sale.Lock
name_said (events.Unlock p s) = names.OfSale sale.Unlock
name_said (events.Clear p s) = names.OfSale sale.Clear
name_said (events.ReadTransaction p s) = names.OfSale sale.ReadTransaction
name_said (events.SetPrice q mills) = names.SetPrice
name_said (events.ReadProduct q) = names.ReadProduct
name_said events.CloseShift = names.Alone lone.CloseShift
name_said events.ReadSite = names.Alone lone.ReadSite
name_said (events.Online p) = names.OfPoint point.Online
name_said (events.Offline p) = names.OfPoint point.Offline
name_said (events.Lift p n reading) = names.OfMeter meter.Lift
name_said (events.Flow p n reading) = names.OfMeter meter.Flow
name_said (events.HangUp p n reading) = names.OfMeter meter.HangUp

-- the name of what a dispenser reports, and no till asks for
abbrev pub is_report : EventName → Bool
is_report (names.OfPoint point.Online) = true
is_report (names.OfPoint point.Offline) = true
is_report (names.OfMeter meter.Lift) = true
is_report (names.OfMeter meter.Flow) = true
is_report (names.OfMeter meter.HangUp) = true
is_report name = false

-- what stands behind the first word
abbrev pub behind_first : List (List ℕ) → List (List ℕ)
behind_first [] = []
behind_first (w ∷ ws) = ws

-- an event with its numbers in range, that has this name and these words behind it
pub record IsSaid (name : EventName) (words : List (List ℕ)) (event : Event) : Type 0 where
  pub named : name_said event ≡ name
  pub words_are : words ≡ behind_first (event_words event)
  pub range : is_in_range event ≡ true

-- the words of an actor and of an event, each with its numbers in range
pub record IsRequestText (words : List (List ℕ)) (actor : Actor) (event : Event) : Type 0 where
  pub words_are : words ≡ actor_word actor ∷ event_words event
  pub who : is_actor actor ≡ true
  pub what : is_in_range event ≡ true
