-- Which command a name says, with the rows that `clap` finds after it.
use Rattle.std.specs.Prelude.{◌≡◌, ◌≢◌, Bool, true, false, List, [], ◌∷◌, Option, Some, None}
use Rattle.std.specs.Prelude.{codes, option_map, unwrap_or}
use Rattle.std.specs.Borrow.{Bor}
use Rattle.std.specs.List.{All}
use Rattle.clap.specs.Words.{Row, Text, first_of, one_of}
use Rattle.command_line.specs.declared.command.Command.{Command}
use Rattle.command_line.specs.declared.command.Command.TheVariants as commands
use Rattle.command_line.specs.declared.command.MetersForm.{MetersForm}
use Rattle.command_line.specs.declared.command.MetersForm.TheVariants as forms
use Rattle.command_line.specs.declared.command.ReportForm.{ReportForm}
use Rattle.command_line.specs.declared.command.ReportForm.TheVariants.{Lines, People, Json}

-- the text of an argument; empty where it isn't there
abbrev pub text_in : Text → List Row → Text
text_in name rows = unwrap_or (first_of name rows) []

-- an option that is there or not is this text
abbrev pub IsOption : Text → List Row → Option (Bor Text) → Type 0
IsOption name rows given = option_map (λ s. s.now) given ≡ first_of name rows

-- a flag that reads as this text is given or not
abbrev pub IsFlag : Option Text → Bool → Type 0
IsFlag read given =
    (read ≡ None → given ≡ false) × (read ≡ Some (codes "true") → given ≡ true)
    × (read ≡ Some (codes "false") → given ≡ false)

-- .. the flag of this name
abbrev pub HasFlag : Text → List Row → Bool → Type 0
HasFlag name rows given = IsFlag (one_of name rows) given

-- a report has this form: `--human` comes before `--json`
abbrev pub HasForm : List Row → ReportForm → Type 0
HasForm rows People = HasFlag (codes "human") rows true
HasForm rows Json = HasFlag (codes "human") rows false × HasFlag (codes "json") rows true
HasForm rows Lines = HasFlag (codes "human") rows false × HasFlag (codes "json") rows false

-- a table of meters has this form: `--csv` comes before `--json`
abbrev pub HasTableForm : List Row → MetersForm → Type 0
HasTableForm rows forms.Csv = HasFlag (codes "csv") rows true
HasTableForm rows forms.Json = HasFlag (codes "csv") rows false × HasFlag (codes "json") rows true
HasTableForm rows forms.People =
    HasFlag (codes "csv") rows false × HasFlag (codes "json") rows false

abbrev pub command_names : List Text
command_names =
    codes "check" ∷ codes "replay" ∷ codes "report" ∷ codes "sales" ∷ codes "meters"
    ∷ codes "serve" ∷ codes "station" ∷ codes "demo" ∷ codes "shifts" ∷ codes "next" ∷ codes "verify"
    ∷ codes "story" ∷ codes "explain" ∷ codes "spell" ∷ codes "ask" ∷ []

-- this name with these rows says this command; any other name the replay on the known site
abbrev pub IsSaid : Text → List Row → Command → Type 0
IsSaid name rows (commands.Check site) =
    (name ≡ codes "check") × (site.now ≡ text_in (codes "FILE") rows)
IsSaid name rows (commands.Replay o) =
    (name ≡ codes "replay") × (o.site.now ≡ text_in (codes "FILE") rows)
    × HasFlag (codes "changes") rows o.changes × IsOption (codes "shift") rows o.shift
    × HasFlag (codes "json") rows o.json × IsOption (codes "from") rows o.from
IsSaid name rows (commands.Report o) =
    (name ≡ codes "report") × (o.site.now ≡ text_in (codes "FILE") rows) × HasForm rows o.form
    × IsOption (codes "shift") rows o.shift
IsSaid name rows (commands.Sales o) =
    (name ≡ codes "sales") × (o.site.now ≡ text_in (codes "FILE") rows)
    × HasFlag (codes "draws") rows o.draws × HasFlag (codes "json") rows o.json
    × IsOption (codes "shift") rows o.shift × IsOption (codes "from") rows o.from
    × IsOption (codes "to") rows o.to
IsSaid name rows (commands.Meters o) =
    (name ≡ codes "meters") × (o.site.now ≡ text_in (codes "FILE") rows)
    × HasFlag (codes "gaps") rows o.gaps × HasTableForm rows o.form
    × IsOption (codes "shift") rows o.shift
IsSaid name rows (commands.Serve o) =
    (name ≡ codes "serve") × (o.site.now ≡ text_in (codes "FILE") rows)
    × (o.port.now ≡ text_in (codes "port") rows) × (o.workers.now ≡ text_in (codes "workers") rows)
    × (o.sessions.now ≡ text_in (codes "sessions") rows)
IsSaid name rows (commands.Station o) =
    (name ≡ codes "station") × IsOption (codes "FILE") rows o.site
    × IsOption (codes "port") rows o.port × IsOption (codes "doors") rows o.doors
    × IsOption (codes "history") rows o.history
    × IsOption (codes "page") rows o.page × IsOption (codes "name") rows o.name
    × IsOption (codes "feed") rows o.feed × IsOption (codes "idle") rows o.idle
    × IsOption (codes "rate") rows o.rate × IsOption (codes "house") rows o.house
    × IsOption (codes "release-age") rows o.release_age × IsOption (codes "lost") rows o.lost
    × HasFlag (codes "detached") rows o.detached × HasFlag (codes "json") rows o.json
IsSaid name rows (commands.Demo o) =
    (name ≡ codes "demo") × (o.site.now ≡ text_in (codes "FILE") rows)
    × (o.script.now ≡ text_in (codes "SCRIPT") rows) × HasFlag (codes "loopback") rows o.loopback
IsSaid name rows (commands.Shifts o) =
    (name ≡ codes "shifts") × (o.history.now ≡ text_in (codes "FOLDER") rows)
    × HasFlag (codes "json") rows o.json
IsSaid name rows (commands.Next history) =
    (name ≡ codes "next") × (history.now ≡ text_in (codes "FOLDER") rows)
IsSaid name rows (commands.Verify o) =
    (name ≡ codes "verify") × (o.history.now ≡ text_in (codes "FOLDER") rows)
    × IsOption (codes "seal") rows o.seal
IsSaid name rows (commands.Story o) =
    (name ≡ codes "story") × (o.history.now ≡ text_in (codes "FOLDER") rows)
    × (o.sale.now ≡ text_in (codes "SALE") rows)
IsSaid name rows (commands.Explain o) =
    (name ≡ codes "explain") × IsOption (codes "WHAT") rows o.what
    × IsOption (codes "shift") rows o.shift × HasFlag (codes "times") rows o.times
IsSaid name rows commands.Spell = name ≡ codes "spell"
IsSaid name rows (commands.Ask o) =
    (name ≡ codes "ask") × IsOption (codes "port") rows o.port
    × IsOption (codes "door") rows o.door × HasFlag (codes "strict") rows o.strict
IsSaid name rows commands.ReplayHere = All (λ n. name ≢ n) command_names

-- .. what `clap` finds says this command; without a name it is the replay on the known site
abbrev pub IsSaidBy : Option (Text × List Row) → Command → Type 0
IsSaidBy None command = command ≡ commands.ReplayHere
IsSaidBy (Some (name, rows)) command = IsSaid name rows command
