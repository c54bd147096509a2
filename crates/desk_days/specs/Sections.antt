-- What is done through a share at a section of a demo.
use Rattle.std.specs.Prelude.{◌≡◌, ℕ, List, [], Option, Some, map}
use Rattle.std.specs.List.{flat_map}
use Rattle.app_message.specs.Spelling.{spelling}
use Rattle.app_message.specs.Telegram.{Telegram}
use Rattle.counter_desk.specs.declared.receipt.Receipt.{Receipt}
use Rattle.counter_desk.specs.Receipts.{receipted_row}
use Rattle.demo.specs.declared.section.Section.{Section}
use Rattle.demo.specs.declared.section.Section.TheVariants as sections
use Rattle.demo.specs.declared.end.DispenserFault.{DispenserFault}
use Rattle.demo.specs.declared.steps.Step.{Step}
use Rattle.demo.specs.declared.dispenser.TheConstants.{METERS}
use Rattle.demo.specs.Reports.{DispenserFacts, IsNew, Runs}
use Rattle.site_base.specs.declared.row.Row.{Row}
use Rattle.site_base.specs.Configured.{Configured}
use Rattle.till_session.specs.declared.session.SessionEnd.{SessionEnd}
use Rattle.till_session.specs.Ends.{Served}
use Rattle.desk_days.specs.declared.section.SectionEnd.{SectionEnd}
use Rattle.desk_days.specs.declared.section.SectionEnd.TheVariants as ends

-- the octets of a till's section: the spellings of its messages, one behind the other
abbrev pub octets_of : List Telegram → List ℕ
octets_of messages = flat_map spelling messages

-- a session over memory was served and ended so, whose input are these messages, by a counter whose
-- record began with these receipts
pub record AreServed (turns : ℕ) (messages : List Telegram) (old : List Receipt) (end : SessionEnd)
    : Type 0 where
  pub left : Option (List ℕ)
  pub told : Option (List ℕ)
  pub rows : List Row
  pub served : Served turns (Some (octets_of messages)) left (Some []) told (map receipted_row old)
      rows end

-- a simulated dispenser, new at this point by the second configuration, ran the script at a desk of
-- the first, and ended with these counts and this fault
pub record IsRun (named config : Configured) (point : ℕ) (script : List Step)
    (old new : List Receipt) (sold refused : ℕ) (fault : Option DispenserFault) : Type 0 where
  pub before : DispenserFacts
  pub after : DispenserFacts
  pub opened : IsNew config point METERS before
  pub runs : Runs named script before after old new sold refused fault

-- A section was worked at through a share, and ended so: a till's messages were served, or not
-- where there was no memory to spell them; a dispenser's script was run. That the counter's rows
-- are those of the share's receipts afterwards can't be said: a session serves through any counter,
-- and no clause of it says that the counter kept the reference to its share.
abbrev pub IsWorkedAt : Configured → Configured → ℕ → Section → List Receipt → List Receipt
    → SectionEnd → Type 0
IsWorkedAt named config turns (sections.Till messages) old new (ends.Session end) =
    AreServed turns messages old end
IsWorkedAt named config turns (sections.Till messages) old new ends.Unspelled = new ≡ old
IsWorkedAt named config turns (sections.Dispenser point polls script) old new
    (ends.Run sold refused fault) =
    IsRun named config point script old new sold refused fault
IsWorkedAt named config turns section old new end = ⊥
