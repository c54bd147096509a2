-- The words in which replies are told, as `explain` prints them.
use Rattle.std.specs.Prelude.{ℕ, List, [], ◌++◌, codes, decimal, Option, Some, None, Result, Ok}
use Rattle.std.specs.Prelude.{Err}
use Rattle.site_base.specs.declared.answer.Answer.{Answer}
use Rattle.site_base.specs.declared.answer.Answer.TheVariants as answers
use Rattle.site_base.specs.declared.refusal.Refusal.{Refusal}
use Rattle.site_base.specs.declared.refusal.Refusal.TheVariants as refusals
use Rattle.site_base.specs.declared.state.Preset.{Preset}
use Rattle.site_base.specs.declared.state.Preset.TheVariants as presets
use Rattle.site_base.specs.Refusals.{refusal_detail, refusal_number}
use Rattle.site_json.specs.Points.{state_word}

-- what stands in brackets behind a name
abbrev pub bracketed : List ℕ → List ℕ
bracketed inner = codes "(" ++ (inner ++ codes ")")

-- a number in brackets
abbrev pub number_behind : ℕ → List ℕ
number_behind n = bracketed (decimal n)

-- a preset: `Unset`, `Volume(3000)` in millilitres, `Money(2000)` in cents
abbrev pub preset_words : Preset → List ℕ
preset_words presets.Unset = codes "Unset"
preset_words (presets.Volume n) = codes "Volume" ++ number_behind n
preset_words (presets.Money n) = codes "Money" ++ number_behind n

-- an answer's name, and what it carries: `Done`, `Sold{1, 10000}`, `Cleared(1500)`; of the answers
-- to reads, which no history keeps, the name alone
abbrev pub answer_words : Answer → List ℕ
answer_words answers.Done = codes "Done"
answer_words answers.Calling = codes "Calling"
answer_words (answers.Start preset price) =
    codes "Start{" ++ (preset_words preset ++ (codes ", " ++ (decimal price ++ codes "}")))
answer_words (answers.Flowed growth) = codes "Flowed" ++ number_behind growth
answer_words answers.HungUp = codes "HungUp"
answer_words answers.NoSale = codes "NoSale"
answer_words (answers.Sold number growth) =
    codes "Sold{" ++ (decimal number ++ (codes ", " ++ (decimal growth ++ codes "}")))
answer_words answers.Stopped = codes "Stopped"
answer_words answers.Ending = codes "Ending"
answer_words answers.Locked = codes "Locked"
answer_words answers.Unlocked = codes "Unlocked"
answer_words (answers.Cleared cents) = codes "Cleared" ++ number_behind cents
answer_words (answers.ShiftClosed shift) = codes "ShiftClosed" ++ number_behind shift
answer_words (answers.Drawn growth) = codes "Drawn{" ++ (decimal growth ++ codes "}")
answer_words (answers.PointIs view) = codes "PointIs"
answer_words (answers.TransactionIs view) = codes "TransactionIs"
answer_words (answers.ProductIs view) = codes "ProductIs"
answer_words (answers.SiteIs view) = codes "SiteIs"

-- a refusal's name
abbrev pub refusal_name : Refusal → List ℕ
refusal_name refusals.NotSignedOn = codes "NotSignedOn"
refusal_name refusals.SignedOn = codes "SignedOn"
refusal_name refusals.NoSuchPoint = codes "NoSuchPoint"
refusal_name refusals.NoSuchNozzle = codes "NoSuchNozzle"
refusal_name refusals.NoSuchProduct = codes "NoSuchProduct"
refusal_name refusals.NoSuchTransaction = codes "NoSuchTransaction"
refusal_name refusals.NotManager = codes "NotManager"
refusal_name refusals.BadPrice = codes "BadPrice"
refusal_name refusals.BadPreset = codes "BadPreset"
refusal_name (refusals.WrongState state) = codes "WrongState"
refusal_name (refusals.AssignedToOther till) = codes "AssignedToOther"
refusal_name refusals.NotYours = codes "NotYours"
refusal_name refusals.NotYourPoint = codes "NotYourPoint"
refusal_name (refusals.WrongNozzle nozzle) = codes "WrongNozzle"
refusal_name refusals.BufferFull = codes "BufferFull"
refusal_name refusals.SequenceSpent = codes "SequenceSpent"
refusal_name (refusals.MeterGap expected) = codes "MeterGap"
refusal_name (refusals.MeterBack last) = codes "MeterBack"
refusal_name refusals.MeterJump = codes "MeterJump"
refusal_name (refusals.LockedByOther till) = codes "LockedByOther"
refusal_name refusals.NotLocked = codes "NotLocked"
refusal_name (refusals.AlreadyCleared till) = codes "AlreadyCleared"
refusal_name refusals.Ending = codes "Ending"
refusal_name refusals.ShiftsSpent = codes "ShiftsSpent"
refusal_name refusals.MeterSpent = codes "MeterSpent"

-- what a refusal names, in brackets: a state by its name, a till, a nozzle or a reading by its
-- number
abbrev pub detail_behind : Refusal → List ℕ
detail_behind (refusals.WrongState state) = bracketed (state_word state)
detail_behind refusal = number_if (refusal_detail refusal)
  where
    number_if : Option ℕ → List ℕ
    number_if None = []
    number_if (Some n) = number_behind n

-- a refusal's number, its name, and what it names: `11 AssignedToOther(2)`
abbrev pub refusal_words : Refusal → List ℕ
refusal_words refusal =
    decimal (refusal_number refusal)
    ++ (codes " " ++ (refusal_name refusal ++ detail_behind refusal))

-- the words of the answer, or of the refusal
abbrev pub reply_words : Result Answer Refusal → List ℕ
reply_words (Ok answer) = answer_words answer
reply_words (Err refusal) = refusal_words refusal
