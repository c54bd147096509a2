-- Where words lead to no command.
use Rattle.std.proofs.Common.{◌≡◌, ◌⊎◌, ◌∙◌, inl, inr, subst, sym}
use Rattle.std.specs.Prelude.{⊤, Err}
use Rattle.clap.specs.Words.{IsAmong, Kinds}
use Rattle.clap.specs.declared.error.kind.ErrorKind.{ErrorKind}
use Rattle.clap.specs.declared.error.kind.ErrorKind.TheVariants.{DisplayHelp, DisplayVersion}
use Rattle.clap.specs.declared.error.kind.ErrorKind.TheVariants.{OutOfMemory}
use Rattle.command_line.specs.declared.no_command.NoCommand.{NoCommand}
use Rattle.command_line.specs.declared.no_command.NoCommand.TheVariants.{Help, Mistake, NoMemory}
use Rattle.command_line.specs.Endings.{EndsBy, Explains, IsAskedFor}

-- memory that ran out was not asked for
abbrev IsShown : ErrorKind → Type 0
IsShown DisplayHelp = ⊤
IsShown DisplayVersion = ⊤
IsShown kind = ⊥

unasked : (kind : ErrorKind) → kind ≡ OutOfMemory → IsAskedFor kind → ⊥
unasked kind memory (inl help) = subst IsShown (sym help ∙ memory) tt
unasked kind memory (inr version) = subst IsShown (sym version ∙ memory) tt

-- an error of one of these kinds, or of memory
pub ends_among : (kinds : Kinds) (kind : ErrorKind) (ending : NoCommand) → Explains kind ending
    → (kind ≡ OutOfMemory) ⊎ IsAmong kind kinds → EndsBy kinds (Err ending)
ends_among kinds kind NoMemory explains has = tt
ends_among kinds kind (Help text) explains (inl memory) = absurd (unasked kind memory explains)
ends_among kinds kind (Help text) explains (inr among) = (kind, among, explains)
ends_among kinds kind (Mistake text) explains (inl memory) = absurd (explains.1 memory)
ends_among kinds kind (Mistake text) explains (inr among) = (kind, among, explains)
