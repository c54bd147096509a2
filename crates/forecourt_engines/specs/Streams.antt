-- A stream of messages, and what answers them.
use Rattle.std.specs.Prelude.{List, ℕ}
use Rattle.app_message.specs.Stream.{Held, fed_by, held_part}
use Rattle.forecourt_engines.specs.Answers.{Answerer, after_messages}

-- between two octets: those of a message to come, and what answers messages
pub record StreamState : Type 0 where
  pub stream : Held
  pub answerer : Answerer

abbrev pub stream_state : Held → Answerer → StreamState
stream_state stream answerer = record { stream = stream; answerer = answerer }

-- .. and after octets, whose messages were answered
abbrev pub stream_after : StreamState → List ℕ → StreamState
stream_after st octets = stream_state (held_part (fed_by st.stream octets))
    (after_messages st.answerer (fed_by st.stream octets).messages)
