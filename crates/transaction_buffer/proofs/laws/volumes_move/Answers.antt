use Rattle.transaction_buffer.proofs.Volumes.{move as law}
use Rattle.transaction_buffer.proofs.laws.volumes_move.Goals as goal

pub returns : goal.returns
returns c = law
