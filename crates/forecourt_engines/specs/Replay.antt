-- What a replay has done when it ends.
use Rattle.std.specs.Prelude.{◌≡◌, ℕ, ◌≤◌, ◌*◌, length, Bool, true, false, ◌⊎◌, List, Option, Some}
use Rattle.std.specs.Prelude.{None, is_some, Result, Ok, Err}
use Rattle.std.specs.Io.KnownBytes.{Appends, Consumes, IsAtEnd}
use Rattle.devices.specs.Devices.{AppendsFront}
use Rattle.forecourt_engines.specs.declared.fault.TextFault.{TextFault}
use Rattle.forecourt_engines.specs.declared.fault.ReplayFault.{ReplayFault}
use Rattle.forecourt_engines.specs.declared.fault.ReplayFault.TheVariants as faults
use Rattle.devices.specs.declared.transfer.TheConstants.{PIECE_OCTETS}
use Rattle.site_book.specs.Book.{Book}
use Rattle.forecourt_engines.specs.Text.{State, after, text_of, fault_of, book_of}

-- it ended for want of memory, at its turn limit, or because a device failed
abbrev pub is_early : Option ReplayFault → Bool
is_early None = false
is_early (Some (faults.Text f)) = false
is_early (Some other) = true

abbrev pub as_fault : Option TextFault → Option ReplayFault
as_fault None = None
as_fault (Some f) = Some (faults.Text f)

-- why it ended: with its text, or early
abbrev pub ended_with : Result (Option TextFault) ReplayFault → Option ReplayFault
ended_with (Ok fault) = as_fault fault
ended_with (Err fault) = Some fault

-- not because of a write: for want of memory, or by a reader that gives no more
abbrev pub is_unwritten : ReplayFault → Bool
is_unwritten faults.NoMemory = true
is_unwritten (faults.Read fault) = true
is_unwritten other = false

-- the text stops after what was read, or there is no more to read
abbrev pub StopsThere : State → List ℕ → Option (List ℕ) → Type 0
StopsThere st read left = (is_some (after st read).stop ≡ true) ⊎ IsAtEnd left

-- Some octets were read, a piece a turn at most, and a front of their text was written. Where the
-- replay didn't end early, the whole text was, its fault and its book are the text's, and it read
-- until the text stopped or to the end.
pub record Replayed (turns : ℕ) (st : State) (left left' holds holds' : Option (List ℕ))
    (fault : Option ReplayFault) (book : Option Book) : Type 0 where
  pub read : List ℕ
  pub consumed : Consumes left left' read
  pub few : length read ≤ turns * PIECE_OCTETS
  pub front : AppendsFront holds holds' (text_of st read)
  pub whole : is_early fault ≡ false → Appends holds holds' (text_of st read)
  pub exact : is_early fault ≡ false → fault ≡ as_fault (fault_of st read)
  pub rows : is_early fault ≡ false → book ≡ Some (book_of st read)
  pub there : is_early fault ≡ false → StopsThere st read left'
