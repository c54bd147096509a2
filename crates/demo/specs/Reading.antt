-- How far a text was read.
use Rattle.std.specs.Prelude.{◌≡◌, ℕ, List, ◌++◌, length}
use Rattle.demo.specs.declared.fault.ScriptFault.{ScriptFault}
use Rattle.demo.specs.declared.fault.ScriptFault.TheVariants.{Line, NoMemory}
use Rattle.demo.specs.declared.line.Line as said
use Rattle.demo.specs.Lines.{lines_of}
use Rattle.demo.specs.Script.{DraftFacts, AreRead, IsFirstFaulty, Says, nothing_read}
use Rattle.demo.specs.Script.{with_line}

-- a line says something, and this was read then
pub record IsReadBy (before : DraftFacts) (octets : List ℕ) (after : DraftFacts) : Type 0 where
  pub line : said.Line
  pub says : Says before octets line
  pub read : after ≡ with_line line before

-- a line of this number says nothing, or there was no memory
abbrev pub IsRefusedBy : DraftFacts → List ℕ → ℕ → ScriptFault → Type 0
IsRefusedBy before octets number (Line n) =
    (n ≡ number) × ((line : said.Line) → ¬ Says before octets line)
IsRefusedBy before octets number NoMemory = Unit {0}

-- the lines of a text were read up to this rest: so many
pub record IsReadTo (text rest : List ℕ) (number : ℕ) (draft : DraftFacts) : Type 0 where
  pub done : List (List ℕ)
  pub parts : lines_of text ≡ done ++ lines_of rest
  pub counted : number ≡ length done
  pub read : AreRead nothing_read done draft

-- the line of this number is the first faulty one, or there was no memory
abbrev pub IsFaultyLine : List ℕ → ScriptFault → Type 0
IsFaultyLine text (Line number) = IsFirstFaulty text number
IsFaultyLine text NoMemory = Unit {0}
