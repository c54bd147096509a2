use Rattle.written_site.proofs.SoundRuns.{runs_stay_sound}
use Rattle.written_site.proofs.laws.runs_stay_sound.Goals as goal

pub returns : goal.returns
returns c = runs_stay_sound
