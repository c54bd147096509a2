use Rattle.written_site.proofs.Sound.{stays_sound}
use Rattle.written_site.proofs.laws.stays_sound.Goals as goal

pub returns : goal.returns
returns c = stays_sound
