-- What is printed in place of a command.
use Rattle.std.specs.Prelude.{◌≡◌, ◌≢◌, ◌⊎◌, ⊤, [], Result, Ok, Err}
use Rattle.clap.specs.Words.{IsAmong, Kinds}
use Rattle.clap.specs.declared.error.kind.ErrorKind.{ErrorKind}
use Rattle.clap.specs.declared.error.kind.ErrorKind.TheVariants.{DisplayHelp, DisplayVersion}
use Rattle.clap.specs.declared.error.kind.ErrorKind.TheVariants.{OutOfMemory}
use Rattle.command_line.specs.declared.command.Command.{Command}
use Rattle.command_line.specs.declared.no_command.NoCommand.{NoCommand}
use Rattle.command_line.specs.declared.no_command.NoCommand.TheVariants.{Help, Mistake, NoMemory}

-- help or the version: it was asked for, and is no mistake
abbrev pub IsAskedFor : ErrorKind → Type 0
IsAskedFor kind = (kind ≡ DisplayHelp) ⊎ (kind ≡ DisplayVersion)

-- an error of this kind leads to this
abbrev pub Explains : ErrorKind → NoCommand → Type 0
Explains kind (Help text) = IsAskedFor kind
Explains kind (Mistake text) = ¬ IsAskedFor kind × (kind ≢ OutOfMemory)
Explains kind NoMemory = ⊤

-- words with faults of these kinds end so: in a command where there is none, else in what one of
-- the kinds leads to, unless memory runs out
abbrev pub EndsBy : Kinds → Result Command NoCommand → Type 0
EndsBy kinds (Ok command) = kinds ≡ []
EndsBy kinds (Err NoMemory) = ⊤
EndsBy kinds (Err ending) = (kind : ErrorKind) × IsAmong kind kinds × Explains kind ending
