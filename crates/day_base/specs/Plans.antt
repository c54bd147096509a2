-- What the words of a command line ask of a server, and of a station.
use Rattle.std.specs.Prelude.{ℕ, List, ◌≡◌, ◌≤◌, Option, Some, None, ⊤}
use Rattle.std.specs.Str.Parse.{IsNumeral, digits_value}
use Rattle.counter_desk.specs.declared.crews.TheConstants.{WORKERS}
use Rattle.till_session.specs.declared.server.TheConstants.{SESSIONS}
use Rattle.day_base.specs.declared.options.OptionFault.{OptionFault}
use Rattle.day_base.specs.declared.options.OptionFault.TheVariants.{Feed, Idle, Page, Port, Rate}
use Rattle.day_base.specs.declared.options.OptionFault.TheVariants.{Sessions, Workers}
use Rattle.day_base.specs.declared.plan.ServerPlan.{ServerPlan}
use Rattle.day_base.specs.declared.plan.StationPlan.{StationPlan}
use Rattle.day_base.specs.declared.plan.TheConstants.{GREATEST_RATE, IDLE_SECONDS, USUAL_RATE}

-- the word is of decimal digits alone, and the number that they write is n, in this range
abbrev pub TellsNumber : ℕ → ℕ → List ℕ → ℕ → Type 0
TellsNumber least most word n =
    IsNumeral 10 word × (digits_value 10 word ≡ n) × (least ≤ n) × (n ≤ most)

-- a port, 0 for a free one
abbrev pub TellsPort : List ℕ → ℕ → Type 0
TellsPort word n = TellsNumber 0 65535 word n

-- how many workers serve side by side, 1 to 16
abbrev pub TellsWorkers : List ℕ → ℕ → Type 0
TellsWorkers word n = TellsNumber 1 WORKERS word n

-- how many sessions are served in all, 1 to 10,000
abbrev pub TellsSessions : List ℕ → ℕ → Type 0
TellsSessions word n = TellsNumber 1 SESSIONS word n

-- each of the three words tells its part of the plan
abbrev pub TellsPlan : List ℕ → List ℕ → List ℕ → ServerPlan → Type 0
TellsPlan port workers sessions plan =
    TellsPort port plan.port
    × TellsWorkers workers plan.workers
    × TellsSessions sessions plan.sessions

-- the first word that tells no number in its range
abbrev pub IsFirstFault : List ℕ → List ℕ → List ℕ → OptionFault → Type 0
IsFirstFault port workers sessions Port = (n : ℕ) → ¬ TellsPort port n
IsFirstFault port workers sessions Workers =
    ((n : ℕ) × TellsPort port n) × ((n : ℕ) → ¬ TellsWorkers workers n)
IsFirstFault port workers sessions Sessions =
    ((n : ℕ) × TellsPort port n) × ((n : ℕ) × TellsWorkers workers n)
    × ((n : ℕ) → ¬ TellsSessions sessions n)
IsFirstFault port workers sessions fault = ⊥

-- ---- a station

-- how many seconds a peer may be silent, 1 to 86,400; without a word there is no such limit
abbrev pub TellsIdle : Option (List ℕ) → Option ℕ → Type 0
TellsIdle None None = ⊤
TellsIdle (Some word) (Some n) = TellsNumber 1 IDLE_SECONDS word n
TellsIdle word n = ⊥

-- a port, for peers, of the page or of the feed; without a word there is none
abbrev pub TellsPlace : Option (List ℕ) → Option ℕ → Type 0
TellsPlace None None = ⊤
TellsPlace (Some word) (Some n) = TellsPort word n
TellsPlace word n = ⊥

-- how many requests a second are heard of a session at most, 0 for no limit; without a word 1,000
abbrev pub TellsRate : Option (List ℕ) → ℕ → Type 0
TellsRate None n = n ≡ USUAL_RATE
TellsRate (Some word) n = TellsNumber 0 GREATEST_RATE word n

-- each of the words tells its part of the plan
abbrev pub TellsStationPlan : Option (List ℕ) → Option (List ℕ) → Option (List ℕ)
    → Option (List ℕ) → Option (List ℕ) → StationPlan → Type 0
TellsStationPlan port page feed idle rate plan =
    TellsPlace port plan.port × TellsPlace page plan.page × TellsPlace feed plan.feed
    × TellsIdle idle plan.idle × TellsRate rate plan.rate

-- the first word that tells no number in its range
abbrev pub IsFirstStationFault : Option (List ℕ) → Option (List ℕ) → Option (List ℕ)
    → Option (List ℕ) → Option (List ℕ) → OptionFault → Type 0
IsFirstStationFault port page feed idle rate Port = (n : Option ℕ) → ¬ TellsPlace port n
IsFirstStationFault port page feed idle rate Page =
    ((n : Option ℕ) × TellsPlace port n) × ((n : Option ℕ) → ¬ TellsPlace page n)
IsFirstStationFault port page feed idle rate Feed =
    ((n : Option ℕ) × TellsPlace port n) × ((n : Option ℕ) × TellsPlace page n)
    × ((n : Option ℕ) → ¬ TellsPlace feed n)
IsFirstStationFault port page feed idle rate Idle =
    ((n : Option ℕ) × TellsPlace port n) × ((n : Option ℕ) × TellsPlace page n)
    × ((n : Option ℕ) × TellsPlace feed n) × ((n : Option ℕ) → ¬ TellsIdle idle n)
IsFirstStationFault port page feed idle rate Rate =
    ((n : Option ℕ) × TellsPlace port n) × ((n : Option ℕ) × TellsPlace page n)
    × ((n : Option ℕ) × TellsPlace feed n) × ((n : Option ℕ) × TellsIdle idle n)
    × ((n : ℕ) → ¬ TellsRate rate n)
IsFirstStationFault port page feed idle rate fault = ⊥
