use Rattle.written_site.proofs.Holders.{holds_are_unended_takes}
use Rattle.written_site.proofs.laws.holds_are_unended_takes.Goals as goal

pub returns : goal.returns
returns c = holds_are_unended_takes
