-- The items of a reply rise and are short, so that with any address they fit a message.
use Rattle.std.proofs.Common.{◌≡◌, ◌≤◌, ◌<◌, ℕ, ◌+◌, nat_lt, length, arith, List, [], ◌∷◌, ◌++◌}
use Rattle.std.proofs.Common.{Option, Some, None, Result}
use Rattle.std.proofs.Common.{Bool, true, false, Ok, Err, refl, lit≤}
use Rattle.site_base.specs.declared.answer.Answer.{Answer}
use Rattle.site_base.specs.declared.answer.Answer.TheVariants as answers
use Rattle.site_base.specs.declared.event.Event.{Event}
use Rattle.site_base.specs.declared.event.Event.TheVariants as events
use Rattle.site_base.specs.declared.refusal.Refusal.{Refusal}
use Rattle.site_base.specs.declared.state.Preset.{Preset}
use Rattle.site_base.specs.declared.state.Preset.TheVariants.{Unset, Volume, Money}
use Rattle.site_base.specs.declared.view.PointView.{PointView}
use Rattle.site_base.specs.Refusals.{refusal_number, refusal_detail}
use Rattle.std.specs.List.{flat_map}
use Rattle.std.proofs.lemmas.Bool.{le-ltb}
use Rattle.std.proofs.lemmas.List.{length-append}
use Rattle.app_message.specs.Telegram.{Entry, entry}
use Rattle.app_message.specs.Spelling.{item_text, body_text}
use Rattle.app_message.specs.Parts.{parts_fault}
use Rattle.device_map.specs.declared.ids.TheConstants as ids
use Rattle.device_map.specs.Items.{octet, two_octets, four_octets, eight_octets}
use Rattle.device_map.specs.Replies.{AreShort, test_items, preset_items, prepaid_items}
use Rattle.device_map.specs.Replies.{standing_items, detail_items}
use Rattle.device_map.specs.Replies.{answer_items, reply_items}
use Rattle.device_map.specs.Ways.{items_of, way_to}

point_short : (v : PointView) (test : Bool) (preset : Preset) (prepaid : Option ℕ)
    → AreShort (standing_items v ++ test_items test ++ preset_items preset
    ++ four_octets ids.PRICE v.price ++ eight_octets ids.VOLUME v.volume ++ prepaid_items prepaid)
unfolding standing_items octet two_octets four_octets eight_octets
point_short v true Unset None = record { rise = refl; size = lit≤ tt }
point_short v true Unset (Some cents) = record { rise = refl; size = lit≤ tt }
point_short v true (Volume n) None = record { rise = refl; size = lit≤ tt }
point_short v true (Volume n) (Some cents) = record { rise = refl; size = lit≤ tt }
point_short v true (Money n) None = record { rise = refl; size = lit≤ tt }
point_short v true (Money n) (Some cents) = record { rise = refl; size = lit≤ tt }
point_short v false Unset None = record { rise = refl; size = lit≤ tt }
point_short v false Unset (Some cents) = record { rise = refl; size = lit≤ tt }
point_short v false (Volume n) None = record { rise = refl; size = lit≤ tt }
point_short v false (Volume n) (Some cents) = record { rise = refl; size = lit≤ tt }
point_short v false (Money n) None = record { rise = refl; size = lit≤ tt }
point_short v false (Money n) (Some cents) = record { rise = refl; size = lit≤ tt }

start_short : (preset : Preset) (price : ℕ) → AreShort (answer_items (answers.Start preset price))
unfolding octet two_octets four_octets eight_octets
start_short Unset price = record { rise = refl; size = lit≤ tt }
start_short (Volume n) price = record { rise = refl; size = lit≤ tt }
start_short (Money n) price = record { rise = refl; size = lit≤ tt }

answer_short : (answer : Answer) → AreShort (answer_items answer)
unfolding octet two_octets four_octets eight_octets
answer_short (answers.PointIs view) = point_short view view.test view.preset view.prepaid
answer_short (answers.Start preset price) = start_short preset price
answer_short answer = record { rise = refl; size = lit≤ tt }

refusal_short : (number : ℕ) (detail : Option ℕ)
    → AreShort (octet ids.RESULT number ++ detail_items detail)
unfolding octet two_octets four_octets eight_octets
refusal_short number None = record { rise = refl; size = lit≤ tt }
refusal_short number (Some detail) = record { rise = refl; size = lit≤ tt }

pub reply_short : (reply : Result Answer Refusal) → AreShort (reply_items reply)
reply_short (Ok answer) = answer_short answer
reply_short (Err refusal) = refusal_short (refusal_number refusal) (refusal_detail refusal)

pub number_short : (number : ℕ) → AreShort (octet ids.RESULT number)
unfolding octet two_octets four_octets eight_octets
number_short number = refusal_short number None

-- a command below the presets, and one of these
pub command_short : (command : ℕ) (preset : Preset) → command < ids.PRESET_VOLUME
    → AreShort (entry command [] ∷ preset_items preset)
unfolding four_octets
command_short command preset below = by preset
  where
    first : nat_lt command 0 ≡ false
    first = le-ltb command 0 (omega arith)

    volume : nat_lt ids.PRESET_VOLUME (command + 1) ≡ false
    volume = le-ltb ids.PRESET_VOLUME (command + 1) (omega arith)

    money : nat_lt ids.PRESET_MONEY (command + 1) ≡ false
    money = le-ltb ids.PRESET_MONEY (command + 1) (omega arith)

    by : (preset : Preset) → AreShort (entry command [] ∷ preset_items preset)
    by Unset = record { rise = rw first refl; size = lit≤ tt }
    by (Volume n) = record { rise = rw (first, volume) refl; size = lit≤ tt }
    by (Money n) = record { rise = rw (first, money) refl; size = lit≤ tt }

limit_short : (preset : Preset) → AreShort (entry ids.RELEASE [] ∷ preset_items preset)
limit_short preset = command_short ids.RELEASE preset (omega arith)

-- the items of each request
pub request_short : (event : Event)
    → AreShort (items_of (way_to event).command (way_to event).content)
unfolding octet four_octets eight_octets
request_short (events.Release p preset) = limit_short preset
request_short events.SignOn = record { rise = refl; size = lit≤ tt }
request_short event = record { rise = refl; size = lit≤ tt }

-- with an address they have no fault
pub short_fits : (address : List ℕ) (items : List Entry) → 1 ≤ length address → length address ≤ 8
    → AreShort items → parts_fault address items ≡ None
unfolding parts_fault
short_fits address items least most short =
    let size : length (body_text address items) ≤ 1024 =
    omega (arith, short.size, length-append address (flat_map item_text items)) in
    rw (
      le-ltb (length address) 1 least,
      le-ltb 8 (length address) most,
      le-ltb 1024 (length (body_text address items)) size,
      short.rise,
    ) refl
