-- What a station's day writes.
use Rattle.std.specs.Prelude.{◌≡◌, ℕ, false, List, ◌++◌, Option}
use Rattle.std.specs.Io.KnownBytes.{Appends}
use Rattle.devices.specs.declared.transfer.WriteFault.TheVariants as writes
use Rattle.devices.specs.Devices.{AppendsFront}
use Rattle.written_site.specs.SiteState.{is_signed_on}
use Rattle.site_book.specs.Book.{Book, site_of_book}
use Rattle.station_server.specs.declared.fault.ServerFault.{ServerFault}
use Rattle.station_server.specs.declared.fault.ServerFault.TheVariants as servers
use Rattle.day_base.specs.declared.fault.DayFault.{DayFault}
use Rattle.day_base.specs.declared.fault.DayFault.TheVariants.{Deaf, NoConnection, NoMemory, Write}
use Rattle.day_base.specs.declared.plan.ReportForm.{ReportForm}
use Rattle.day_base.specs.Texts.{report_in}
use Rattle.station.specs.Gates.{GateState}
use Rattle.station.specs.Moves.{StationState}
use Rattle.station.specs.Reads.{HasNoPeer}
use Rattle.station.specs.Runs.{Move, after, opening_station}
use Rattle.peer_connections.specs.Reaches.{FindRoom}

-- the station after these moves, of a day that opens with these gates at this book
abbrev pub day_station : GateState → Book → List Move → StationState
day_station gates opens moves = after moves (opening_station gates opens)

-- its book
abbrev pub day_book : GateState → Book → List Move → Book
day_book gates opens moves = (day_station gates opens moves).book

-- the text of where it listens, and the report of the book that the day's moves led to
abbrev pub station_text : GateState → Book → List ℕ → ReportForm → List Move → List ℕ
station_text gates opens places form moves =
    places ++ report_in form (day_book gates opens moves)

-- how a day ends whose server ends so
abbrev pub ended_by : ServerFault → DayFault
ended_by servers.NoMemory = NoMemory
ended_by servers.NoConnection = NoConnection
ended_by (servers.Deaf port) = Deaf port
ended_by servers.NotStored = Write writes.Failed

-- the whole text of a day was written, whose moves led to this station, and in which each read of a
-- peer found room; at its end nobody is there, and no till is signed on
pub record TellsDay (gates : GateState) (opens : Book) (places : List ℕ) (form : ReportForm)
    (holds holds' : Option (List ℕ)) (ended : StationState) : Type 0 where
  pub moves : List Move
  pub leads : ended ≡ day_station gates opens moves
  pub room : FindRoom moves (opening_station gates opens)
  pub left : HasNoPeer (day_station gates opens moves)
  pub off : (t : ℕ) → is_signed_on (site_of_book (day_book gates opens moves)) t ≡ false
  pub told : Appends holds holds' (station_text gates opens places form moves)

-- a front of the text of a day was written, whose moves led to this station
pub record TellsFront (gates : GateState) (opens : Book) (places : List ℕ) (form : ReportForm)
    (holds holds' : Option (List ℕ)) (ended : StationState) : Type 0 where
  pub moves : List Move
  pub leads : ended ≡ day_station gates opens moves
  pub told : AppendsFront holds holds' (station_text gates opens places form moves)
