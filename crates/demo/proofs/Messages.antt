-- A text that is one message.
use Rattle.std.proofs.Common.{◌≡◌, ◌≢◌, ℕ, Bool, List, [], ◌∷◌, length, Option, None, Some, Result}
use Rattle.std.proofs.Common.{Ok, Err, true, false, refl, sym, ap, subst, ◌∙◌, arith}
use Rattle.std.specs.Prelude.{is_some, IfOk, IfNone}
use Rattle.hex.specs.Hex.{decode_of}
use Rattle.hex.specs.declared.error.FromHexError.{FromHexError}
use Rattle.app_message.specs.Stream.{Held, Stream, fed_by, held_part, held_after, stream, stream_of}
use Rattle.app_message.specs.Stream.{walk}
use Rattle.app_message.specs.Telegram.{Telegram}
use Rattle.hex_lines.specs.declared.line_reading.LineText.TheVariants as texts
use Rattle.hex_lines.specs.LineTexts.{Says as LineSays}
use Rattle.hex_lines.specs.Lines.{without_spaces}
use Rattle.hex_lines.proofs.Hexadecimal.{skipped_is_empty}
use Rattle.app_message.specs.declared.fault.StreamFault.{StreamFault}
use Rattle.device_map.specs.declared.fault.MapFault.{MapFault}
use Rattle.device_map.specs.Requests.{request_at}
use Rattle.demo.specs.declared.line.Line.{Line}
use Rattle.demo.specs.declared.line.Line.TheVariants as lines
use Rattle.demo.specs.Script.{IsMessageText, IsWork}

-- a decoder that took nothing yet
pub fed_first : (octets : List ℕ) → fed_by (held_after []) octets ≡ stream_of octets
unfolding walk
fed_first octets = refl

pub one_message : (octets : List ℕ) (m n : Telegram) → stream_of octets ≡ stream (m ∷ []) [] None
    → stream_of octets ≡ stream (n ∷ []) [] None → m ≡ n
one_message octets m n one two =
    let e : m ∷ [] ≡ n ∷ [] = ap (λ s. s.messages) (sym one ∙ two) in cc

-- one text is one message
pub message_is : (text : List ℕ) (m n : Telegram) → IsMessageText text m → IsMessageText text n
    → m ≡ n
message_is text m n one two =
    let e : ◌≡◌ {A = Result (List ℕ) FromHexError} (Ok one.octets) (Ok two.octets) = sym one.decoded
    ∙ two.decoded in
    let o : one.octets ≡ two.octets = cc in
    one_message two.octets m n (ap stream_of (sym o) ∙ one.whole) two.whole

nothing_left : (rest : List ℕ) → length rest ≡ 0 → rest ≡ []
nothing_left [] is = refl
nothing_left (x ∷ rest) is = absurd (omega arith)

stream_parts : (a b : List Telegram) (c d : List ℕ) (e f : Option StreamFault) → a ≡ b → c ≡ d
    → e ≡ f
    → stream a c e ≡ stream b d f
stream_parts a b c d e f one two three = cc

-- what a decoder that kept h, and took just these octets, tells and keeps
pub record IsFed (octets : List ℕ) (h : Held) (messages : List Telegram)
    (fault : Option StreamFault) (kept : Held) : Type 0 where
  pub start : h ≡ held_after []
  pub messages_are : messages ≡ (fed_by h octets).messages
  pub fault_is : fault ≡ (fed_by h octets).fault
  pub held_is : kept ≡ held_part (fed_by h octets)

pub fed_of : (octets : List ℕ) (h : Held) (messages : List Telegram) (fault : Option StreamFault)
    (kept : Held)
    → h ≡ held_after [] → messages ≡ (fed_by h octets).messages → fault ≡ (fed_by h octets).fault
    → kept ≡ held_part (fed_by h octets) → IsFed octets h messages fault kept
fed_of octets h messages fault kept start messages_are fault_is held_is =
    record {
      start = start;
      messages_are = messages_are;
      fault_is = fault_is;
      held_is = held_is;
    }

fed_all : (octets : List ℕ) (h : Held) → h ≡ held_after [] → fed_by h octets ≡ stream_of octets
fed_all octets h start = ap (λ x. fed_by x octets) start ∙ fed_first octets

pub fed_whole : (octets : List ℕ) (h : Held) (messages : List Telegram) (fault : Option StreamFault)
    (kept : Held) (m : Telegram)
    → IsFed octets h messages fault kept → messages ≡ m ∷ [] → fault ≡ None → length kept.rest ≡ 0
    → stream_of octets ≡ stream (m ∷ []) [] None
fed_whole octets h messages fault kept m fed one none empty =
    let all = fed_all octets h fed.start in
    let s : Stream = fed_by h octets in
    let left : s.rest ≡ [] = sym (ap (λ x. x.rest) fed.held_is) ∙ nothing_left kept.rest empty in
    sym all ∙ stream_parts s.messages (m ∷ []) s.rest [] s.fault None (sym fed.messages_are ∙ one)
    left (sym fed.fault_is ∙ none)

pub whole_fed : (octets : List ℕ) (h : Held) (messages : List Telegram) (fault : Option StreamFault)
    (kept : Held) (m : Telegram)
    → IsFed octets h messages fault kept → stream_of octets ≡ stream (m ∷ []) [] None
    → (messages ≡ m ∷ []) × (fault ≡ None) × (kept.rest ≡ [])
whole_fed octets h messages fault kept m fed is =
    let all : fed_by h octets ≡ stream (m ∷ []) [] None = fed_all octets h fed.start ∙ is in (
      fed.messages_are ∙ ap (λ s. s.messages) all,
      fed.fault_is ∙ ap (λ s. s.fault) all,
      ap (λ x. x.rest) fed.held_is ∙ ap (λ s. s.rest) all,
    )

pub is_none : (fault : Option StreamFault) → is_some fault ≡ false → fault ≡ None
is_none None is = refl
is_none (Some f) is = cc

pub isnt_none : (fault : Option StreamFault) → is_some fault ≡ true → fault ≢ None
isnt_none None is none = cc
isnt_none (Some f) is none = cc

-- a text that is skipped is no message: at most it spells no octets
pub skipped_none : (text octets : List ℕ) → LineSays texts.Skipped text octets → (m : Telegram)
    → ¬ IsMessageText text m
unfolding walk
skipped_none text octets skips m said =
    let empty : said.octets ≡ [] =
    skipped_is_empty (without_spaces text) said.octets skips said.decoded in
    let spelled : stream [] [] None ≡ stream (m ∷ []) [] None =
    sym (ap stream_of empty) ∙ said.whole in
    let one : ◌≡◌ {A = List Telegram} [] (m ∷ []) = ap (λ s. s.messages) spelled in
    cc

-- nor is one that isn't hexadecimal
pub other_none : (text octets : List ℕ) → LineSays texts.NotHexadecimal text octets
    → (m : Telegram) → ¬ IsMessageText text m
other_none text octets says m said = cc (says.1, said.decoded)

-- what isn't there then isn't there either
pub if_none : {X E : Type 0} (P Q : Type 0) (r : Result (Option X) E) → (P → Q)
    → IfOk r (λ found. IfNone found P) → IfOk r (λ found. IfNone found Q)
if_none P Q (Ok None) then h = then h
if_none P Q (Ok (Some x)) then h = tt
if_none P Q (Err e) then h = tt

-- nor is one whose octets spell none
pub unspelled : (text octets spelled : List ℕ) → LineSays texts.Octets text octets
    → spelled ≡ octets
    → ((m : Telegram) → ¬ (stream_of spelled ≡ stream (m ∷ []) [] None))
    → (m : Telegram) → ¬ IsMessageText text m
unspelled text octets spelled says spells none m said =
    let e : ◌≡◌ {A = Result (List ℕ) FromHexError} (Ok octets) (Ok said.octets) =
    sym says.1 ∙ said.decoded in
    let o : octets ≡ said.octets = cc in
    none m (ap stream_of (spells ∙ o) ∙ said.whole)

-- a text that is no message is no call
pub no_call : (text : List ℕ) → ((m : Telegram) → ¬ IsMessageText text m)
    → (line : Line) → ¬ IsWork None text line
no_call text none (lines.Call actor event) is = none is.message is.text_is
no_call text none line is = is

-- nor is one that isn't a request
pub other_call : (text : List ℕ) (m : Telegram) (e : MapFault) → IsMessageText text m
    → request_at m ≡ Err e
    → (line : Line) → ¬ IsWork None text line
other_call text m e said refused (lines.Call actor event) is =
    let same : m ≡ is.message = message_is text m is.message said is.text_is in
    let at : request_at m ≡ Ok (actor, event) = ap request_at same ∙ is.request in
    cc
other_call text m e said refused line is = is
