use Rattle.written_site.proofs.RefusedLaws.{refusals_leave}
use Rattle.written_site.proofs.laws.stepping.refusals_leave_the_site.Goals as goal

pub returns : goal.returns
returns c = refusals_leave
