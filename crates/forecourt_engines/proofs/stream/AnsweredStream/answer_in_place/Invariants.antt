use Rattle.std.proofs.Common.{◌≡◌, [], length}
use Rattle.app_message.specs.Stream.{held_after}
use Rattle.forecourt_engines.proofs.AnsweredStreams.{LeadsOn}
use Rattle.forecourt_engines.proofs.stream.AnsweredStream.answer_in_place.Given as goal

abbrev pub invariant-loop-rest : goal.invariant-loop-rest
invariant-loop-rest l = record {
  between : l.self-inside.decoder ≡ held_after [];
  leads : LeadsOn l.octets l.rest l.fn.out.items l.out.items l.fn.self.answerer
      l.self-inside.answerer;
}

abbrev pub decreases-loop-rest : goal.decreases-loop-rest
decreases-loop-rest l = length l.rest
