use Rattle.device_map.proofs.OneRequest.{one_request as law}
use Rattle.device_map.proofs.laws.one_request.Goals as goal

pub returns : goal.returns
returns c = law
