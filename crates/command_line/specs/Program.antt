-- The command line as a table: each command with its arguments, as `clap` reads them.
use Rattle.std.specs.Prelude.{◌≡◌, true, false, List, [], ◌∷◌, ◌++◌, Some, codes}
use Rattle.clap.specs.Words.{App, Rule, Shape, Text, new_app, new_rule, shape_of}
use Rattle.clap.specs.Words.{with_subcommand}
use Rattle.clap.specs.Simple.{new_shape}
use Rattle.clap.specs.declared.builder.command.Command.{Command}
use Rattle.clap.specs.declared.builder.command.Command.TheViews.{out-Command}
use Rattle.clap.specs.declared.builder.action.ArgAction.TheVariants.{SetTrue}

-- ---- arguments

-- a word at its place, which has to be there
abbrev pub word_rule : Text → Rule
word_rule name = record (new_rule name) { required = true }

abbrev pub site_file_rule : Rule
site_file_rule = word_rule (codes "FILE")

-- the folder of a history
abbrev pub folder_rule : Rule
folder_rule = word_rule (codes "FOLDER")

-- a sale: its point, shift and number
abbrev pub sale_rule : Rule
sale_rule = word_rule (codes "SALE")

abbrev pub script_rule : Rule
script_rule = word_rule (codes "SCRIPT")

-- `--name`, which is there or not
abbrev pub flag_rule : Text → Rule
flag_rule name = record (new_rule name) { long = Some name; action = Some SetTrue }

-- `--name VALUE`, which may be left out
abbrev pub option_rule : Text → Rule
option_rule name = record (new_rule name) { long = Some name; value_names = 1 }

-- .. which has to be there
abbrev pub required_rule : Text → Rule
required_rule name = record (option_rule name) { required = true }

-- ---- commands

-- a command with one argument more
abbrev pub with_argument : Shape → Rule → Shape
with_argument s r = record s { rules = s.rules ++ r ∷ [] }

-- .. with these arguments more
abbrev pub with_arguments : Shape → List Rule → Shape
with_arguments s [] = s
with_arguments s (r ∷ rs) = with_arguments (with_argument s r) rs

-- the command of this name with these arguments
abbrev pub command : Text → List Rule → Shape
command name rules = with_arguments (new_shape name) rules

abbrev pub replay_shapes : List Shape
replay_shapes =
    command (codes "check") (site_file_rule ∷ [])
    ∷ command (codes "replay")
    (site_file_rule ∷ flag_rule (codes "changes") ∷ option_rule (codes "shift")
    ∷ flag_rule (codes "json") ∷ option_rule (codes "from") ∷ [])
    ∷ command (codes "report")
    (site_file_rule ∷ flag_rule (codes "human") ∷ flag_rule (codes "json")
    ∷ option_rule (codes "shift") ∷ [])
    ∷ command (codes "sales")
    (site_file_rule ∷ flag_rule (codes "draws") ∷ flag_rule (codes "json")
    ∷ option_rule (codes "shift") ∷ option_rule (codes "from") ∷ option_rule (codes "to") ∷ [])
    ∷ command (codes "meters")
    (site_file_rule ∷ flag_rule (codes "gaps") ∷ flag_rule (codes "csv") ∷ flag_rule (codes "json")
    ∷ option_rule (codes "shift") ∷ [])
    ∷ []

abbrev pub day_shapes : List Shape
day_shapes =
    command (codes "serve")
    (site_file_rule ∷ required_rule (codes "port") ∷ required_rule (codes "workers")
    ∷ required_rule (codes "sessions") ∷ [])
    ∷ command (codes "station")
    (new_rule (codes "FILE") ∷ option_rule (codes "port") ∷ option_rule (codes "doors")
    ∷ option_rule (codes "history") ∷ option_rule (codes "page") ∷ option_rule (codes "name")
    ∷ option_rule (codes "feed") ∷ option_rule (codes "idle") ∷ option_rule (codes "rate") ∷ option_rule (codes "house")
    ∷ option_rule (codes "release-age") ∷ option_rule (codes "lost")
    ∷ flag_rule (codes "detached") ∷ flag_rule (codes "json") ∷ [])
    ∷ command (codes "demo")
    (site_file_rule ∷ script_rule ∷ flag_rule (codes "loopback") ∷ [])
    ∷ []

abbrev pub history_shapes : List Shape
history_shapes =
    command (codes "shifts") (folder_rule ∷ flag_rule (codes "json") ∷ [])
    ∷ command (codes "next") (folder_rule ∷ [])
    ∷ command (codes "verify") (folder_rule ∷ option_rule (codes "seal") ∷ [])
    ∷ command (codes "story") (folder_rule ∷ sale_rule ∷ []) ∷ []

abbrev pub word_shapes : List Shape
word_shapes =
    command (codes "explain")
    (new_rule (codes "WHAT") ∷ option_rule (codes "shift") ∷ flag_rule (codes "times") ∷ [])
    ∷ command (codes "spell") []
    ∷ command (codes "ask")
    (option_rule (codes "port") ∷ option_rule (codes "door") ∷ flag_rule (codes "strict") ∷ []) ∷ []

-- ---- the program

-- a command is this one, and none of its arguments is its subcommands' too
abbrev pub HasShape : Shape → Command → Type 0
HasShape s c = (shape_of c ≡ s) × ((out-Command c).has_globals ≡ false)

-- a program with these commands more
abbrev pub with_commands : App → List Shape → App
with_commands a [] = a
with_commands a (s ∷ ss) = with_commands (with_subcommand a s) ss

-- the program before it has a command: one has to be named
abbrev pub bare_program : App
bare_program = record (new_app (codes "forecourt")) {
  top = record (new_shape (codes "forecourt")) { has_version = true; subcommand_required = true };
}

abbrev pub program : App
program =
    with_commands (with_commands (with_commands (with_commands bare_program replay_shapes) day_shapes)
    history_shapes) word_shapes
