use Rattle.std.proofs.Common.{string_bytes}
use Rattle.journal.proofs.Recovering.{lines_then}
use Rattle.journal.proofs.Reopening.{reopens}
use Rattle.journal.proofs.opening.open_journal.Goals as goal

pub returns-in-Ok-resume-clause-opened : goal.returns-in-Ok-resume-clause-opened
returns-in-Ok-resume-clause-opened g c =
    reopens _ (string_bytes c.in-Ok.recovered.site) c.args.config.now c.in-Ok.recovered.book
    c.in-Ok.recovered.end.time c.args.clock (g.D.Disk.file c.args.disk)
    (g.D.Disk.file c.recover.new.disk) c.len-rows.result
    c.in-Ok-resume.station c.in-Ok.ensures.site c.in-Ok.ensures.config c.in-Ok.ensures.read
    c.in-Ok.ensures.moments c.len-rows.ensures.rows c.in-Ok-resume.ensures.resumed

pub returns-in-Err-resume-clause-moments : goal.returns-in-Err-resume-clause-moments
returns-in-Err-resume-clause-moments g c =
    lines_then _ _ _ c.in-Ok.ensures.moments c.in-Err-resume.ensures.moments
