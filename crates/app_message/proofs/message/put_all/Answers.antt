use Rattle.std.proofs.lemmas.Result.{err_from_is_err_and}
use Rattle.app_message.proofs.Rising.{content_fits}
use Rattle.app_message.proofs.message.put_all.Goals as goal

pub returns-in_err-put-clause-fault : goal.returns-in_err-put-clause-fault
returns-in_err-put-clause-fault c =
    let p = err_from_is_err_and c.from_residual.result c.from_residual.ensures.1 in
    let fits = content_fits c.args.items.now c.loop-id.id-index _ c.requires c.loop-id-test.true in
    rw p.1 (cc (p.2, c.in_err-put.ensures.fault fits))
