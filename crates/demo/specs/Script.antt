-- What the lines of a script say, and which texts are scripts.
use Rattle.std.specs.Prelude.{◌≡◌, ℕ, ◌-◌, ◌<◌, ◌≤◌, Bool, true, false, ◌⊎◌, codes, decimal}
use Rattle.std.specs.Prelude.{List, [], ◌∷◌, ◌++◌, length, take, slice_index_or, option_to_list}
use Rattle.std.specs.Prelude.{Option, None, Some, Ok}
use Rattle.std.specs.Io.BufRead.{strip_last}
use Rattle.hex.specs.Hex.{decode_of}
use Rattle.site_base.specs.declared.actor.Actor.{Actor}
use Rattle.site_base.specs.declared.event.Event.{Event}
use Rattle.site_base.specs.declared.limits.TheConstants.{NOZZLES, POINTS}
use Rattle.site_base.specs.States.{state_number}
use Rattle.app_message.specs.Stream.{stream, stream_of}
use Rattle.app_message.specs.Telegram.{Telegram}
use Rattle.device_map.specs.Requests.{request_at}
use Rattle.demo.specs.declared.steps.Step.{Step}
use Rattle.demo.specs.declared.steps.Step.TheVariants as steps
use Rattle.hex_lines.specs.declared.line_reading.TheConstants.{LINE_OCTETS}
use Rattle.hex_lines.specs.Lines.{is_skipped, without_spaces}
use Rattle.demo.specs.declared.fault.ScriptFault.{ScriptFault}
use Rattle.demo.specs.declared.fault.ScriptFault.TheVariants as faults
use Rattle.demo.specs.declared.line.Line.{Line}
use Rattle.demo.specs.declared.line.Line.TheVariants as lines
use Rattle.demo.specs.declared.limits.TheConstants.{GREATEST_POLLS, GREATEST_PUMPED}
use Rattle.demo.specs.declared.limits.TheConstants.{SECTIONS}
use Rattle.demo.specs.declared.section.Section.{Section}
use Rattle.demo.specs.declared.section.Section.TheVariants as sections
use Rattle.demo.specs.Lines.{lines_of}

-- ---- words

-- a line of a dispenser's section
abbrev pub IsStepText : List ℕ → Step → Type 0
IsStepText text steps.Online = text ≡ codes "online"
IsStepText text steps.Offline = text ≡ codes "offline"
IsStepText text (steps.Lift n) = (text ≡ codes "lift " ++ decimal n) × (1 ≤ n) × (n ≤ NOZZLES)
IsStepText text (steps.Pump volume) =
    (text ≡ codes "pump " ++ decimal volume) × (volume ≤ GREATEST_PUMPED)
IsStepText text steps.HangUp = text ≡ codes "hang"
IsStepText text (steps.WaitFor state) = text ≡ codes "wait " ++ decimal (state_number state)

-- a line that is hexadecimal without its spaces, and then one whole message
pub record IsMessageText (text : List ℕ) (m : Telegram) : Type 0 where
  pub octets : List ℕ
  pub decoded : decode_of (without_spaces text) ≡ Ok octets
  pub whole : stream_of octets ≡ stream (m ∷ []) [] None

-- a message that is the request of this event by this actor
pub record IsCallText (text : List ℕ) (actor : Actor) (event : Event) : Type 0 where
  pub message : Telegram
  pub text_is : IsMessageText text message
  pub request : request_at message ≡ Ok (actor, event)

-- a line that begins the section of a dispenser: its point, and how often it may look
pub record IsDispenserText (text : List ℕ) (p polls : ℕ) : Type 0 where
  pub text_is : text ≡ codes "dispenser " ++ (decimal p ++ (32 ∷ decimal polls))
  pub least_point : 1 ≤ p
  pub most_point : p ≤ POINTS
  pub least_polls : 1 ≤ polls
  pub most_polls : polls ≤ GREATEST_POLLS

-- ---- a line, by what stands before it

-- what was read so far: the calls of the setup, the sections that have ended, and the one to which
-- the next line belongs; none while it belongs to the setup
pub record DraftFacts : Type 0 where
  pub setup : List (Actor × Event)
  pub ended : List Section
  pub current : Option Section

-- all sections
abbrev pub sections_of : DraftFacts → List Section
sections_of d = d.ended ++ option_to_list d.current

-- a line begins a section
abbrev pub Begins : List ℕ → Line → Type 0
Begins text lines.Till = text ≡ codes "till"
Begins text (lines.Dispenser p polls) = IsDispenserText text p polls
Begins text line = ⊥

-- a line is work: of the setup a call, of a till's section a message, of a dispenser's a step
abbrev pub IsWork : Option Section → List ℕ → Line → Type 0
IsWork None text (lines.Call actor event) = IsCallText text actor event
IsWork (Some (sections.Till messages)) text (lines.Message m) = IsMessageText text m
IsWork (Some (sections.Dispenser p polls script)) text (lines.Step step) = IsStepText text step
IsWork current text line = ⊥

-- a line begins no section
abbrev pub BeginsNone : List ℕ → Type 0
BeginsNone text = (line : Line) → ¬ Begins text line

-- A line that isn't skipped begins a section, where there may be one more, or it begins none and is
-- work.
abbrev pub IsTask : DraftFacts → List ℕ → Line → Type 0
IsTask d text line =
    (Begins text line × (length (sections_of d) < SECTIONS))
    ⊎ (BeginsNone text × IsWork d.current text line)

-- What a text says behind what was read so far, if it is skipped (an empty line, or a comment), or
-- else: nothing, or a task.
abbrev pub SaysIf : Bool → DraftFacts → List ℕ → Line → Type 0
SaysIf true d text line = line ≡ lines.Skipped
SaysIf false d text line = IsTask d text line

abbrev pub TextSays : DraftFacts → List ℕ → Line → Type 0
TextSays d text line = SaysIf (is_skipped text) d text line

-- the same of a line, which isn't too long; a carriage return that ends it isn't of its text
abbrev pub Says : DraftFacts → List ℕ → Line → Type 0
Says d octets line = (length octets ≤ LINE_OCTETS) × TextSays d (strip_last 13 octets) line

-- ---- a script

-- a section begins: the one before has ended
abbrev pub begun_with : Section → DraftFacts → DraftFacts
begun_with section d =
    record { setup = d.setup; ended = sections_of d; current = Some section }

-- a till's section with a message more
abbrev pub with_message : Telegram → Option Section → Option Section
with_message m (Some (sections.Till messages)) = Some (sections.Till (messages ++ m ∷ []))
with_message m current = current

-- a dispenser's section with a step more
abbrev pub with_step : Step → Option Section → Option Section
with_step step (Some (sections.Dispenser p polls script)) =
    Some (sections.Dispenser p polls (script ++ step ∷ []))
with_step step current = current

-- what was read once a line has said this
abbrev pub with_line : Line → DraftFacts → DraftFacts
with_line lines.Skipped d = d
with_line lines.Till d = begun_with (sections.Till []) d
with_line (lines.Dispenser p polls) d = begun_with (sections.Dispenser p polls []) d
with_line (lines.Call actor event) d = record d { setup = d.setup ++ (actor, event) ∷ [] }
with_line (lines.Message m) d = record d { current = with_message m d.current }
with_line (lines.Step step) d = record d { current = with_step step d.current }

-- each of these lines says something, one behind the other, and this was read then
abbrev pub AreRead : DraftFacts → List (List ℕ) → DraftFacts → Type 0
AreRead before [] after = before ≡ after
AreRead before (octets ∷ rest) after =
    (line : Line) × Says before octets line × AreRead (with_line line before) rest after

-- before the first line
abbrev pub nothing_read : DraftFacts
nothing_read = record { setup = []; ended = []; current = None }

-- a demo: the calls of its setup, and its sections
pub record DemoFacts : Type 0 where
  pub setup : List (Actor × Event)
  pub sections : List Section

-- the text is a script of this demo: all its lines are read, and there is a section
pub record IsScript (text : List ℕ) (demo : DemoFacts) : Type 0 where
  pub draft : DraftFacts
  pub read : AreRead nothing_read (lines_of text) draft
  pub setup : demo.setup ≡ draft.setup
  pub sections : demo.sections ≡ sections_of draft
  pub least : 1 ≤ length demo.sections

-- the line of this number, from 1 on, is the first faulty one: the lines before it are read, and it
-- says nothing behind them
pub record IsFirstFaulty (text : List ℕ) (number : ℕ) : Type 0 where
  pub draft : DraftFacts
  pub least : 1 ≤ number
  pub there : number ≤ length (lines_of text)
  pub read : AreRead nothing_read (take (number - 1) (lines_of text)) draft
  pub faulty : (line : Line) → ¬ Says draft (slice_index_or (lines_of text) (number - 1) []) line

-- all lines are read, so many, and there is no section
pub record IsWithoutSections (text : List ℕ) (number : ℕ) : Type 0 where
  pub draft : DraftFacts
  pub read : AreRead nothing_read (lines_of text) draft
  pub none : sections_of draft ≡ []
  pub last : number ≡ length (lines_of text)

-- why a text isn't a script; want of memory says nothing of it
abbrev pub IsRefused : List ℕ → ScriptFault → Type 0
IsRefused text (faults.Line number) = IsFirstFaulty text number ⊎ IsWithoutSections text number
IsRefused text faults.NoMemory = Unit {0}
