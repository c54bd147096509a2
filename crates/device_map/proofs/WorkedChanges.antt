-- Changes, by their printed octets.
use Prim.Native.String.{String}
use Rattle.std.specs.List.{flat_map}
use Rattle.std.specs.Prelude.{map}
use Rattle.std.proofs.Common.{◌≡◌, ℕ, List, [], ◌∷◌, ◌++◌}
use Rattle.std.proofs.Common.{Option, Some, None, Result, Ok, Err, refl}
use Rattle.site_base.specs.declared.actor.Actor.TheVariants.{Till}
use Rattle.site_base.specs.declared.answer.Answer.{Answer}
use Rattle.site_base.specs.declared.answer.Answer.TheVariants as answers
use Rattle.site_base.specs.declared.event.Event.{Event}
use Rattle.site_base.specs.declared.event.Event.TheVariants as events
use Rattle.site_base.specs.declared.refusal.Refusal.{Refusal}
use Rattle.site_base.specs.declared.refusal.Refusal.TheVariants as refusals
use Rattle.site_base.specs.declared.state.Preset.TheVariants.{Unset, Volume, Money}
use Rattle.app_message.specs.Telegram.{Telegram}
use Rattle.app_message.specs.Spelling.{spelling}
use Rattle.app_message.proofs.Hexadecimal.{octets}
use Rattle.device_map.specs.Changes.{change_of}
use Rattle.device_map.specs.Items.{four_octets}

abbrev spelled : Option Telegram → List (List ℕ)
spelled None = []
spelled (Some m) = spelling m ∷ []

-- the change of a row of till 1
abbrev changed : Event → Result Answer Refusal → List (List ℕ)
changed event reply = spelled (change_of (record { actor = Till 1; event = event; reply = reply }))

-- an accepted event and the octets of the change
record ChangeRow : Type 0 where
  event : Event
  text : String

abbrev told : Event → String → ChangeRow
told event text = record { event = event; text = text }

-- an accepted command that moves its point is told to the point's dispenser
abbrev told_rows : List ChangeRow
told_rows =
    told (events.Open 3) "03 03 01 01 00 80 00 04 01 23 3C 00" ∷
    told (events.Close 64) "03 40 01 01 00 80 00 04 01 60 3D 00" ∷
    told (events.Release 3 Unset) "03 03 01 01 00 80 00 04 01 23 3E 00" ∷
    told (events.Release 3 (Volume 3000))
    "03 03 01 01 00 80 00 0A 01 23 3E 00 50 04 00 00 0B B8" ∷
    told (events.Release 3 (Money 2000))
    "03 03 01 01 00 80 00 0A 01 23 3E 00 51 04 00 00 07 D0" ∷
    told (events.Prepay 1 2000) "03 01 01 01 00 80 00 0A 01 21 44 00 51 04 00 00 07 D0" ∷
    told (events.TestRelease 3) "03 03 01 01 00 80 00 04 01 23 45 00" ∷
    told (events.Suspend 3) "03 03 01 01 00 80 00 04 01 23 40 00" ∷
    told (events.Resume 3) "03 03 01 01 00 80 00 04 01 23 41 00" ∷
    told (events.Terminate 3) "03 03 01 01 00 80 00 04 01 23 3F 00" ∷
    []

changes_are_spelled : map (λ row. changed row.event (Ok answers.Done)) told_rows
    ≡ map (λ row. octets row.text ∷ []) told_rows
unfolding four_octets
changes_are_spelled = refl

-- whatever the answer
stopped_or_ending : changed (events.Terminate 3) (Ok answers.Stopped)
    ++ changed (events.Terminate 3) (Ok answers.Ending)
    ≡ octets "03 03 01 01 00 80 00 04 01 23 3F 00"
    ∷ octets "03 03 01 01 00 80 00 04 01 23 3F 00" ∷ []
stopped_or_ending = refl

-- a refused one isn't, nor is another event
refused_is_silent : changed (events.Open 3) (Err (refusals.AssignedToOther 1)) ≡ []
refused_is_silent = refl

others_are_silent : flat_map (λ event. changed event (Ok answers.Done))
    (events.SignOn ∷ events.SignOff ∷ events.Assign 2 ∷ events.Unassign 2 ∷ events.ReadPoint 2 ∷
    events.ReplaceMeter 1 2 7 ∷ events.Online 1 ∷ events.Lift 1 2 1000 ∷
    events.ReadTransaction 1 (record { shift = None; seq = 1 }) ∷ []) ≡ []
others_are_silent = refl
