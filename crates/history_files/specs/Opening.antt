-- Why a file can't be opened.
use Rattle.std.specs.Prelude.{◌≡◌, ◌⊎◌}
use Rattle.std.specs.declared.io.Error.{Error}
use Rattle.history_files.specs.declared.fault.FileFault.{FileFault}

-- an error of the system
abbrev pub IoError : Type 0
IoError = Error

-- memory ran out, it is no file, or the system says why
abbrev pub IsUnopened : FileFault → Type 0
IsUnopened fault
    = (fault ≡ FileFault.NoMemory)
    ⊎ ((fault ≡ FileFault.NoFile) ⊎ ((error : IoError) × (fault ≡ FileFault.Unread error)))
