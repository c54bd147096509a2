use Rattle.site_core.specs.Ready.{IsReady}
use Rattle.site_core.specs.SiteParts.{room_of, site_of}
use Rattle.site_core.proofs.site_parts.SiteParts.step.Goals as goal

pub perform-requires : goal.perform-requires
perform-requires c =
    let ready : IsReady (site_of c.args.self.now) c.args.actor c.args.event.now c.in-Ok.ready =
    rw c.in-Ok.is at c.check.ensures in record {
      can = ready.can;
      room = ready.fits (room_of c.args.self.now) c.requires.room;
    }
