use Rattle.device_map.proofs.Changes.{changes_repeat_requests as law}
use Rattle.device_map.proofs.laws.changes_repeat_requests.Goals as goal

pub returns : goal.returns
returns c = law
