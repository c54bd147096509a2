use Rattle.std.proofs.Common.{Err, refl, sym}
use Rattle.site_base.specs.declared.row.Row.{Row}
use Rattle.station.proofs.Notices.{refused_sign_off, with_notices-none, with_notices-unchanged}
use Rattle.station.proofs.asking.notice_accepted.Goals as goal

pub returns-in-Err-reply : goal.returns-in-Err-reply
returns-in-Err-reply c =
    let row : Row = record {
      actor = c.args.actor.now;
      event = c.args.event.now;
      reply = Err c.in-Err-reply.field-0;
    } in
    rw (c.in-Ok.is, c.in-Err-reply.is)
    (sym (with_notices-unchanged row c.args.others.now refl
    (refused_sign_off c.args.actor.now c.args.event.now c.in-Err-reply.field-0)))

pub returns-in-Err : goal.returns-in-Err
returns-in-Err c = rw c.in-Err.is (sym (with_notices-none _))
