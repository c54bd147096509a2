use Rattle.transaction_buffer.proofs.Volumes.{add_up as law}
use Rattle.transaction_buffer.proofs.laws.volumes_add_up.Goals as goal

pub returns : goal.returns
returns c = law
