-- What events and replies tell of readings.
use Rattle.std.specs.Prelude.{ℕ, Bool, true, false, Option, Some, None, Result, Ok, Err}
use Rattle.site_base.specs.declared.answer.Answer.{Answer}
use Rattle.site_base.specs.declared.event.Event.{Event}
use Rattle.site_base.specs.declared.event.Event.TheVariants.{Flow, HangUp, Lift, ReplaceMeter}
use Rattle.site_base.specs.declared.refusal.Refusal.{Refusal}
use Rattle.site_base.specs.declared.refusal.Refusal.TheVariants.{MeterGap, MeterBack, MeterJump}
use Rattle.row_tally.specs.declared.meter_reading.MeterReading.{MeterReading}

-- the reading that an event reports or notes, and of which nozzle
abbrev pub reading_told : Event → Option MeterReading
reading_told (ReplaceMeter p n reading) =
    Some (record { point = p; nozzle = n; reading = reading })
reading_told (Lift p n reading) = Some (record { point = p; nozzle = n; reading = reading })
reading_told (Flow p n reading) = Some (record { point = p; nozzle = n; reading = reading })
reading_told (HangUp p n reading) = Some (record { point = p; nozzle = n; reading = reading })
reading_told event = None

-- the reading that a replaced meter begins with, and of which nozzle
abbrev pub replaced_told : Event → Option MeterReading
replaced_told (ReplaceMeter p n reading) =
    Some (record { point = p; nozzle = n; reading = reading })
replaced_told event = None

-- a row's reply refuses its event so
abbrev pub refusal_told : Result Answer Refusal → Option Refusal
refusal_told (Ok answer) = None
refusal_told (Err refusal) = Some refusal

-- the meter refuses a reading: with 17, 18 or 19
abbrev pub is_of_meter : Option Refusal → Bool
is_of_meter (Some (MeterGap last)) = true
is_of_meter (Some (MeterBack last)) = true
is_of_meter (Some MeterJump) = true
is_of_meter refusal = false
