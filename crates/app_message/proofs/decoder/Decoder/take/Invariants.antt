use Rattle.std.proofs.Common.{◌≡◌, length}
use Rattle.app_message.specs.Stream.{with_messages, stream_of}
use Rattle.app_message.proofs.decoder.Decoder.take.Given as goal

-- what was put in the list and what is left make the whole
abbrev pub invariant-loop-message : goal.invariant-loop-message
invariant-loop-message l = record {
  same : l.self ≡ l.fn.self;
  total : with_messages l.messages (stream_of l.rest) ≡ stream_of l.octets;
}

abbrev pub decreases-loop-message : goal.decreases-loop-message
decreases-loop-message l = length l.rest
