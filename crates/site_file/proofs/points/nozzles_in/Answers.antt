use Rattle.std.proofs.Common.{◌∙◌, sym, arith}
use Rattle.site_file.proofs.Members.{nozzles-more}
use Rattle.site_file.proofs.points.nozzles_in.Goals as goal

pub loop-member-preserved : goal.loop-member-preserved
loop-member-preserved g =
    let i = g.loop-member.member-index in
    let read = g.in_ok-nozzle in
    rw g.in_ok-push.ensures.items
    (sym (nozzles-more g.args.products.now g.loop-member.nozzles.items g.args.members.now i
    g.member-item.result read.nozzle (omega arith) g.member-item.is read.ensures)
    ∙ g.loop-member.invariant)
