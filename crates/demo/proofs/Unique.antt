-- A line says one thing, so a text is the script of one demo, or of none.
use Rattle.std.proofs.Common.{◌≡◌, ◌≢◌, ℕ, suc, ◌+◌, ◌-◌, ◌*◌, ◌<◌, ◌^◌, ◌==◌, if◌then◌else◌, Bool}
use Rattle.std.proofs.Common.{true, false, List, [], ◌∷◌, ◌++◌, length, take, drop, get_or, Option}
use Rattle.std.proofs.Common.{None, Some, Result, Ok, inl, inr, codes, decimal, refl, sym, ap}
use Rattle.std.proofs.Common.{subst, ◌∙◌, arith, drop-cons}
use Rattle.std.specs.Io.BufRead.{strip_last}
use Rattle.std.proofs.lemmas.Fmt.{decimal_injective}
use Rattle.std.proofs.lemmas.List.{take-append-drop}
use Rattle.hex_lines.specs.Lines.{is_skipped}
use Rattle.site_base.specs.declared.actor.Actor.{Actor}
use Rattle.site_base.specs.declared.event.Event.{Event}
use Rattle.site_base.specs.declared.state.PointState.{PointState}
use Rattle.site_base.specs.declared.state.PointState.TheVariants as states
use Rattle.site_base.specs.States.{state_number}
use Rattle.device_map.specs.declared.fault.MapFault.{MapFault}
use Rattle.device_map.specs.Requests.{request_at}
use Rattle.demo.specs.declared.steps.Step.{Step}
use Rattle.demo.specs.declared.steps.Step.TheVariants as steps
use Rattle.demo.specs.declared.fault.ScriptFault.{ScriptFault}
use Rattle.demo.specs.declared.fault.ScriptFault.TheVariants as faults
use Rattle.demo.specs.declared.line.Line.{Line}
use Rattle.demo.specs.declared.line.Line.TheVariants as lines
use Rattle.demo.specs.declared.section.Section.{Section}
use Rattle.demo.specs.declared.section.Section.TheVariants as sections
use Rattle.demo.specs.Lines.{lines_of}
use Rattle.demo.specs.Script.{AreRead, Begins, DemoFacts, DraftFacts, IsFirstFaulty}
use Rattle.demo.specs.Script.{IsRefused, IsScript, IsStepText, IsTask, IsWithoutSections}
use Rattle.demo.specs.Script.{IsWork, Says, SaysIf, nothing_read, sections_of, with_line}
use Rattle.demo.proofs.Messages.{message_is}
use Rattle.forecourt_engines.proofs.Numerals.{behind_is}
use Rattle.forecourt_engines.proofs.TextParts.{digits_above, parts_are}

-- ---- steps

-- the first two octets of a text
abbrev pub key : List ℕ → ℕ
key text = get_or text 0 0 * 256 + get_or text 1 0

abbrev pub step_key : Step → ℕ
step_key steps.Online = 28526
step_key steps.Offline = 28518
step_key (steps.Lift n) = 27753
step_key (steps.Pump volume) = 28789
step_key steps.HangUp = 26721
step_key (steps.WaitFor state) = 30561

key_is : (text : List ℕ) (step : Step) → IsStepText text step → key text ≡ step_key step
key_is text steps.Online is = ap key is
key_is text steps.Offline is = ap key is
key_is text (steps.Lift n) is = ap key is.0
key_is text (steps.Pump volume) is = ap key is.0
key_is text steps.HangUp is = ap key is
key_is text (steps.WaitFor state) is = ap key is

of_number : ℕ → PointState
of_number n =
    if n == 1 then states.Inoperative
    else if n == 2 then states.Closed
    else if n == 3 then states.Idle
    else if n == 4 then states.Calling
    else if n == 5 then states.Authorised
    else if n == 6 then states.Started
    else if n == 7 then states.SuspendedStarted
    else if n == 8 then states.Fuelling
    else states.SuspendedFuelling

of_its_number : (state : PointState) → of_number (state_number state) ≡ state
unfolding of_number
of_its_number states.Inoperative = refl
of_its_number states.Closed = refl
of_its_number states.Idle = refl
of_its_number states.Calling = refl
of_its_number states.Authorised = refl
of_its_number states.Started = refl
of_its_number states.SuspendedStarted = refl
of_its_number states.Fuelling = refl
of_its_number states.SuspendedFuelling = refl

few_states : (state : PointState) → state_number state < 2 ^ 64
few_states states.Inoperative = omega arith
few_states states.Closed = omega arith
few_states states.Idle = omega arith
few_states states.Calling = omega arith
few_states states.Authorised = omega arith
few_states states.Started = omega arith
few_states states.SuspendedStarted = omega arith
few_states states.Fuelling = omega arith
few_states states.SuspendedFuelling = omega arith

step_one : (text : List ℕ) (a b : Step) → IsStepText text a → IsStepText text b → a ≡ b
step_one text steps.Online steps.Online one two = refl
step_one text steps.Offline steps.Offline one two = refl
step_one text steps.HangUp steps.HangUp one two = refl
step_one text (steps.Lift n) (steps.Lift m) one two =
    ap steps.Lift (decimal_injective n m (omega (arith, one.2)) (omega (arith, two.2))
    (behind_is (codes "lift ") text (decimal n) (decimal m) one.0 two.0))
step_one text (steps.Pump n) (steps.Pump m) one two =
    ap steps.Pump (decimal_injective n m (omega (arith, one.1)) (omega (arith, two.1))
    (behind_is (codes "pump ") text (decimal n) (decimal m) one.0 two.0))
step_one text (steps.WaitFor a) (steps.WaitFor b) one two =
    let same : state_number a ≡ state_number b =
    decimal_injective (state_number a) (state_number b) (few_states a) (few_states b)
    (behind_is (codes "wait ") text (decimal (state_number a)) (decimal (state_number b)) one
    two) in
    ap steps.WaitFor (sym (of_its_number a) ∙ ap of_number same ∙ of_its_number b)
step_one text a b one two =
    let e : step_key a ≡ step_key b = sym (key_is text a one) ∙ key_is text b two in
    absurd (omega arith)

-- ---- lines

begins_one : (text : List ℕ) (a b : Line) → Begins text a → Begins text b → a ≡ b
begins_one text lines.Till lines.Till one two = refl
begins_one text lines.Till (lines.Dispenser q n) one two =
    let e : key (codes "till") ≡ 25705 = sym (ap key one)
    ∙ ap key two.text_is in absurd (omega arith)
begins_one text lines.Till b one two = elim two [ ]
begins_one text (lines.Dispenser p m) lines.Till one two =
    let e : key (codes "till") ≡ 25705 = sym (ap key two)
    ∙ ap key one.text_is in absurd (omega arith)
begins_one text (lines.Dispenser p m) (lines.Dispenser q n) one two =
    let both : decimal p ++ (32 ∷ decimal m) ≡ decimal q ++ (32 ∷ decimal n) =
    behind_is (codes "dispenser ") text (decimal p ++ (32 ∷ decimal m))
    (decimal q ++ (32 ∷ decimal n)) one.text_is two.text_is in
    let small_p : p < 2 ^ 64 = omega (arith, one.most_point) in
    let small_q : q < 2 ^ 64 = omega (arith, two.most_point) in
    let parts = parts_are 32 (decimal p) (decimal m) (decimal q) (decimal n)
    (digits_above 32 p (omega arith) small_p) (digits_above 32 q (omega arith) small_q) both in
    let points : p ≡ q = decimal_injective p q small_p small_q parts.0 in
    let polls : m ≡ n = decimal_injective m n (omega (arith, one.most_polls))
    (omega (arith, two.most_polls)) parts.1 in
    cc
begins_one text (lines.Dispenser p m) b one two = elim two [ ]
begins_one text a b one two = elim one [ ]

work_one : (current : Option Section) (text : List ℕ) (a b : Line)
    → IsWork current text a → IsWork current text b → a ≡ b
work_one None text (lines.Call x y) (lines.Call z w) one two =
    let m : one.message ≡ two.message =
    message_is text one.message two.message one.text_is two.text_is in
    let e : ◌≡◌ {A = Result (Actor × Event) MapFault} (Ok (x, y)) (Ok (z, w)) =
    sym one.request ∙ ap request_at m ∙ two.request in
    let p : ◌≡◌ {A = Actor × Event} (x, y) (z, w) = cc in
    let first : x ≡ z = ap (λ v. v.0) p in
    let second : y ≡ w = ap (λ v. v.1) p in
    cc
work_one None text (lines.Call x y) b one two = elim two [ ]
work_one None text a b one two = elim one [ ]
work_one (Some (sections.Till messages)) text (lines.Message m) (lines.Message n) one two =
    ap lines.Message (message_is text m n one two)
work_one (Some (sections.Till messages)) text (lines.Message m) b one two = elim two [ ]
work_one (Some (sections.Till messages)) text a b one two = elim one [ ]
work_one (Some (sections.Dispenser p polls script)) text (lines.Step a) (lines.Step b) one two =
    ap lines.Step (step_one text a b one two)
work_one (Some (sections.Dispenser p polls script)) text (lines.Step a) b one two = elim two [ ]
work_one (Some (sections.Dispenser p polls script)) text a b one two = elim one [ ]

task_one : (d : DraftFacts) (text : List ℕ) (a b : Line) → IsTask d text a → IsTask d text b → a ≡ b
task_one d text a b (inl one) (inl two) = begins_one text a b one.0 two.0
task_one d text a b (inl one) (inr two) = absurd (two.0 a one.0)
task_one d text a b (inr one) (inl two) = absurd (one.0 b two.0)
task_one d text a b (inr one) (inr two) = work_one d.current text a b one.1 two.1

text_one : (skipped : Bool) (d : DraftFacts) (text : List ℕ) (a b : Line)
    → SaysIf skipped d text a → SaysIf skipped d text b → a ≡ b
text_one true d text a b one two = one ∙ sym two
text_one false d text a b one two = task_one d text a b one two

says_one : (d : DraftFacts) (octets : List ℕ) (a b : Line) → Says d octets a → Says d octets b
    → a ≡ b
says_one d octets a b one two =
    text_one (is_skipped (strip_last 13 octets)) d (strip_last 13 octets) a b one.1 two.1

-- ---- texts

read_one : (d e f : DraftFacts) (rest : List (List ℕ)) → AreRead d rest e → AreRead d rest f → e ≡ f
read_one d e f [] one two = sym one ∙ two
read_one d e f (x ∷ rest) one two =
    let same : one.0 ≡ two.0 = says_one d x one.0 two.0 one.1 two.1 in
    read_one (with_line one.0 d) e f rest one.2
    (subst (λ z. AreRead (with_line z d) rest f) (sym same) two.2)

read_split : (d f : DraftFacts) (xs ys : List (List ℕ)) → AreRead d (xs ++ ys) f
    → (e : DraftFacts) × AreRead d xs e × AreRead e ys f
read_split d f [] ys is = (d, refl, is)
read_split d f (x ∷ xs) ys is =
    let rest = read_split (with_line is.0 d) f xs ys is.2 in
    (rest.0, (is.0, is.1, rest.1), rest.2)

faulty_is_none : (text : List ℕ) (number : ℕ) → IsFirstFaulty text number
    → (demo : DemoFacts) → ¬ IsScript text demo
faulty_is_none text number first demo script =
    let k : ℕ = number - 1 in
    let all : List (List ℕ) = lines_of text in
    let within : k < length all = omega (arith, first.least, first.there) in
    let behind : drop k all ≡ get_or all k [] ∷ drop (suc k) all = drop-cons all k [] within in
    let split_at_space : all ≡ take k all ++ (get_or all k [] ∷ drop (suc k) all) =
    sym (take-append-drop k all) ∙ ap (λ ys. take k all ++ ys) behind in
    let split = read_split nothing_read script.draft (take k all)
    (get_or all k [] ∷ drop (suc k) all)
    (subst (λ xs. AreRead nothing_read xs script.draft) split_at_space script.read) in
    let same : split.0 ≡ first.draft =
    read_one nothing_read split.0 first.draft (take k all) split.1 first.read in
    first.faulty split.2.0 (subst (λ d. Says d (get_or all k []) split.2.0) same split.2.1)

without_is_none : (text : List ℕ) (number : ℕ) → IsWithoutSections text number
    → (demo : DemoFacts) → ¬ IsScript text demo
without_is_none text number without demo script =
    let same : script.draft ≡ without.draft =
    read_one nothing_read script.draft without.draft (lines_of text) script.read without.read in
    let none : demo.sections ≡ [] = script.sections ∙ ap sections_of same ∙ without.none in
    omega (arith, script.least, ap length none)

-- a text that is refused is no script, where memory wasn't wanting
pub refused_is_none : (text : List ℕ) (fault : ScriptFault) → IsRefused text fault
    → fault ≢ faults.NoMemory → (demo : DemoFacts) → ¬ IsScript text demo
refused_is_none text (faults.Line n) (inl first) there = faulty_is_none text n first
refused_is_none text (faults.Line n) (inr without) there = without_is_none text n without
refused_is_none text faults.NoMemory refused there = λ demo script. there refl

demo_parts : (a b : List (Actor × Event)) (x y : List Section) → a ≡ b → x ≡ y
    → ◌≡◌ {A = DemoFacts} (record { setup = a; sections = x }) (record { setup = b; sections = y })
demo_parts a b x y one two = cc

-- and a script is that of one demo
pub script_is_one : (text : List ℕ) (a b : DemoFacts) → IsScript text a → IsScript text b → b ≡ a
script_is_one text a b one two =
    let same : one.draft ≡ two.draft =
    read_one nothing_read one.draft two.draft (lines_of text) one.read two.read in
    demo_parts b.setup a.setup b.sections a.sections
    (two.setup ∙ ap (λ d. d.setup) (sym same) ∙ sym one.setup)
    (two.sections ∙ ap sections_of (sym same) ∙ sym one.sections)
