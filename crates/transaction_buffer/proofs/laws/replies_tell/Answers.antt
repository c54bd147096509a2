use Rattle.transaction_buffer.proofs.Requests.{replies_tell as law}
use Rattle.transaction_buffer.proofs.laws.replies_tell.Goals as goal

pub returns : goal.returns
returns c = law
