-- The numbers of refusals, and what goes with them.
use Rattle.std.specs.Prelude.{ℕ, Option, Some, None}
use Rattle.site_base.specs.declared.refusal.Refusal.{Refusal}
use Rattle.site_base.specs.declared.refusal.Refusal.TheVariants.{NotSignedOn, SignedOn, NoSuchPoint}
use Rattle.site_base.specs.declared.refusal.Refusal.TheVariants.{NoSuchNozzle, NoSuchProduct}
use Rattle.site_base.specs.declared.refusal.Refusal.TheVariants.{NoSuchTransaction, NotManager}
use Rattle.site_base.specs.declared.refusal.Refusal.TheVariants.{BadPrice, BadPreset, WrongState}
use Rattle.site_base.specs.declared.refusal.Refusal.TheVariants.{AssignedToOther, NotYours}
use Rattle.site_base.specs.declared.refusal.Refusal.TheVariants.{NotYourPoint, WrongNozzle}
use Rattle.site_base.specs.declared.refusal.Refusal.TheVariants.{BufferFull, SequenceSpent}
use Rattle.site_base.specs.declared.refusal.Refusal.TheVariants.{MeterGap, MeterBack, MeterJump}
use Rattle.site_base.specs.declared.refusal.Refusal.TheVariants.{LockedByOther, NotLocked}
use Rattle.site_base.specs.declared.refusal.Refusal.TheVariants.{AlreadyCleared, Ending}
use Rattle.site_base.specs.declared.refusal.Refusal.TheVariants.{ShiftsSpent, MeterSpent}
use Rattle.site_base.specs.declared.refusal.NoRow.{NoRow}
use Rattle.site_base.specs.declared.refusal.NoRow.TheVariants as rows
use Rattle.site_base.specs.States.{state_number}

-- the number by which a refusal is told
abbrev pub refusal_number : Refusal → ℕ
refusal_number NotSignedOn = 1
refusal_number SignedOn = 2
refusal_number NoSuchPoint = 3
refusal_number NoSuchNozzle = 4
refusal_number NoSuchProduct = 5
refusal_number NoSuchTransaction = 6
refusal_number NotManager = 7
refusal_number BadPrice = 8
refusal_number BadPreset = 9
refusal_number (WrongState state) = 10
refusal_number (AssignedToOther till) = 11
refusal_number NotYours = 12
refusal_number NotYourPoint = 13
refusal_number (WrongNozzle nozzle) = 14
refusal_number BufferFull = 15
refusal_number SequenceSpent = 16
refusal_number (MeterGap expected) = 17
refusal_number (MeterBack last) = 18
refusal_number MeterJump = 19
refusal_number (LockedByOther till) = 20
refusal_number NotLocked = 21
refusal_number (AlreadyCleared till) = 22
refusal_number Ending = 23
refusal_number ShiftsSpent = 24
refusal_number MeterSpent = 25

-- the state, till, nozzle or reading that a refusal names
abbrev pub refusal_detail : Refusal → Option ℕ
refusal_detail (WrongState state) = Some (state_number state)
refusal_detail (AssignedToOther till) = Some till
refusal_detail (WrongNozzle nozzle) = Some nozzle
refusal_detail (MeterGap expected) = Some expected
refusal_detail (MeterBack last) = Some last
refusal_detail (LockedByOther till) = Some till
refusal_detail (AlreadyCleared till) = Some till
refusal_detail other = None

-- the number by which the want of a row is told
abbrev pub no_row_number : NoRow → ℕ
no_row_number rows.BookFull = 30
no_row_number rows.NoMemory = 31
