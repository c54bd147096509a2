use Rattle.written_site.proofs.SoundUses.{finds_room}
use Rattle.written_site.proofs.laws.finds_room.Goals as goal

pub returns : goal.returns
returns c = finds_room
