use Rattle.written_site.proofs.SoundUses.{volumes_add_up}
use Rattle.written_site.proofs.laws.volumes_add_up.Goals as goal

pub returns : goal.returns
returns c = volumes_add_up
