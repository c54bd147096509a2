-- What stands at the front of a stream's octets.
use Rattle.std.specs.Prelude.{◌≡◌, ◌<◌, List, [], ◌∷◌, ℕ, length, Option, Some, None}
use Rattle.std.specs.Borrow.{Bor}
use Rattle.app_message.specs.Stream.{Held, held_part, stream_of, with_messages}
use Rattle.app_message.specs.Telegram.{Telegram}

-- a message, and the stream behind it, of which a decoder takes nothing yet; or no message ends in
-- the octets, and a decoder keeps what it keeps of them
abbrev pub IsFront : List ℕ → Held → Held → Option (Telegram × Bor (List ℕ)) → Type 0
IsFront octets old new (Some x) = (stream_of octets ≡ with_messages (x.0 ∷ []) (stream_of x.1.now))
    × (length x.1.now < length octets) × (new ≡ old)
IsFront octets old new None =
    ((stream_of octets).messages ≡ []) × (new ≡ held_part (stream_of octets))
