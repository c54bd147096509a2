-- A stream whose messages are answered one after another.
use Rattle.std.proofs.Common.{◌≡◌, ℕ, List, [], ◌∷◌, ◌++◌, refl, sym, ap, ◌∙◌, append_assoc}
use Rattle.std.proofs.Common.{append-nil, Option, None}
use Rattle.std.specs.Borrow.{Bor}
use Rattle.app_message.specs.Telegram.{Telegram}
use Rattle.app_message.specs.Stream.{Held, Stream, fed_by, held_part, held_after, stream_of}
use Rattle.app_message.specs.Stream.{with_messages}
use Rattle.app_message.specs.Stream.{walk}
use Rattle.app_message.specs.Fronts.{IsFront}
use Rattle.forecourt_engines.specs.Answers.{Answerer, after_message, after_messages, answers_to}
use Rattle.forecourt_engines.specs.Answers.{lines_for}
use Rattle.forecourt_engines.specs.Streams.{StreamState, stream_after, stream_state}
use Rattle.forecourt_engines.specs.Text.{fault_text, stream_effect}

-- what is left of octets leads where all of them lead, and says what they say and wasn't said
pub record LeadsOn (octets rest said out : List ℕ) (first now : Answerer) : Type 0 where
  pub kept : held_part (stream_of rest) ≡ held_part (stream_of octets)
  pub answerer : after_messages now (stream_of rest).messages
      ≡ after_messages first (stream_of octets).messages
  pub text : out ++ answers_to now (stream_of rest).messages
      ≡ said ++ answers_to first (stream_of octets).messages

pub starts : (octets said : List ℕ) (first : Answerer) → LeadsOn octets octets said said first first
starts octets said first = record { kept = refl; answerer = refl; text = refl }

-- a message more was answered
pub goes_on : (octets rest after said out more : List ℕ) (first now then : Answerer) (m : Telegram)
    → LeadsOn octets rest said out first now
    → stream_of rest ≡ with_messages (m ∷ []) (stream_of after)
    → more ≡ out ++ lines_for now m → then ≡ after_message now m
    → LeadsOn octets after said more first then
goes_on octets rest after said out more first now then m on front text state =
    let later : List Telegram = (stream_of after).messages in
    record {
      kept = ap held_part (sym front) ∙ on.kept;
      answerer = ap (λ (a : Answerer). after_messages a later) state
          ∙ ap (λ (s : Stream). after_messages now s.messages) (sym front) ∙ on.answerer;
      text = ap (λ (t : List ℕ). t ++ answers_to then later) text
          ∙ ap (λ (a : Answerer). (out ++ lines_for now m) ++ answers_to a later) state
          ∙ append_assoc out (lines_for now m) (answers_to (after_message now m) later)
          ∙ ap (λ (s : Stream). out ++ answers_to now s.messages) (sym front) ∙ on.text;
    }

-- no message is left: all of them were answered
pub record HasLed (st : StreamState) (octets said out : List ℕ) (now : Answerer) (h : Held)
    : Type 0 where
  pub state : stream_state h now ≡ stream_after st octets
  pub text : out ≡ said ++ answers_to st.answerer (fed_by st.stream octets).messages

pub ends : (st : StreamState) (octets rest said out : List ℕ) (now : Answerer) (old h : Held)
    (front : Option (Telegram × Bor (List ℕ)))
    → st.stream ≡ held_after [] → LeadsOn octets rest said out st.answerer now
    → front ≡ None → IsFront rest old h front → HasLed st octets said out now h
unfolding walk
ends st octets rest said out now old h front between on none is =
    let left = rw none at is in
    let alone : fed_by st.stream octets ≡ stream_of octets =
    ap (λ (k : Held). fed_by k octets) between in
    let answered : now ≡ after_messages st.answerer (stream_of octets).messages =
    ap (λ (ms : List Telegram). after_messages now ms) (sym left.0) ∙ on.answerer in
    record {
      state = ap (λ (k : Held). stream_state k now) (left.1 ∙ on.kept)
          ∙ ap (stream_state (held_part (stream_of octets))) answered
          ∙ ap (λ (s : Stream). stream_state (held_part s) (after_messages st.answerer s.messages))
          (sym alone);
      text = sym (append-nil out)
          ∙ ap (λ (ms : List Telegram). out ++ answers_to now ms) (sym left.0) ∙ on.text
          ∙ ap (λ (s : Stream). said ++ answers_to st.answerer s.messages) (sym alone);
    }

-- no octet is left: all messages were answered, and nothing is held
pub ends_whole : (st : StreamState) (octets rest said out : List ℕ) (now : Answerer) (h : Held)
    → st.stream ≡ held_after [] → LeadsOn octets rest said out st.answerer now
    → rest ≡ [] → h ≡ held_after [] → HasLed st octets said out now h
unfolding walk
ends_whole st octets rest said out now h between on none kept =
    ends st octets rest said out now h h None between on refl
    (rw none (refl, kept))

-- the refusal of the stream's fault follows the answers
pub with_fault : (st then : StreamState) (octets out told all : List ℕ)
    → told ≡ out ++ answers_to st.answerer (fed_by st.stream octets).messages
    → then ≡ stream_after st octets → all ≡ told ++ fault_text then.stream.fault
    → all ≡ out ++ (stream_effect st.answerer (fed_by st.stream octets)).text
with_fault st then octets out told all answers state last =
    let said : List ℕ = answers_to st.answerer (fed_by st.stream octets).messages in
    last ∙ ap (λ (t : List ℕ). t ++ fault_text then.stream.fault) answers
    ∙ ap (λ (s : StreamState). (out ++ said) ++ fault_text s.stream.fault) state
    ∙ append_assoc out said (fault_text (fed_by st.stream octets).fault)
