use Rattle.std.proofs.Common.{refl}
use Rattle.app_message.specs.Stream.{walk}
use Rattle.app_message.proofs.decoder.Decoder.new.Goals as goal

pub returns : goal.returns
unfolding walk
returns c = rw c.new.ensures.items refl
