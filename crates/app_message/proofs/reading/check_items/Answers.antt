use Rattle.std.proofs.Common.{◌≡◌, ◌≢◌, ◌∷◌, [], ◌++◌, length, arith, sym}
use Rattle.std.proofs.lemmas.Bool.{eqb-true, eqb-false}
use Rattle.std.proofs.lemmas.Result.{err_from_is_err_and}
use Rattle.app_message.specs.Grammar.{items_at}
use Rattle.app_message.proofs.ItemSteps.{goes_on, ends, is_done}
use Rattle.app_message.proofs.Bodies.{read_is_listed}
use Rattle.app_message.proofs.reading.check_items.Goals as goal

pub returns-in_err-item : goal.returns-in_err-item
returns-in_err-item c =
    let p = err_from_is_err_and c.from_residual.result c.from_residual.ensures.1 in
    let total = items_at (length c.args.octets.now) 0 c.args.octets.now in
    let some : length c.loop-rest.rest.now ≢ 0 = eqb-false _ _ (sym c.loop-rest-test.ensures) in
    rw (p.1, p.2) (ends c.in_err-item.field-0.0 c.loop-rest.invariant.0 c.loop-rest.low
    c.loop-rest.rest.now total (omega arith) c.in_err-item.ensures.exact c.loop-rest.invariant.1)

pub loop-rest-preserved : goal.loop-rest-preserved
loop-rest-preserved c =
    let item = c.in_ok-item.item in
    let total = items_at (length c.args.octets.now) 0 c.args.octets.now in
    let some : length c.loop-rest.rest.now ≢ 0 = eqb-false _ _ (sym c.loop-rest-test.ensures) in
    let low : c.from-low.result ≡ item.id = cc (c.from-low.ensures, c.id.ensures) in (
      c.loop-rest.invariant.0 ++ item ∷ [],
      rw low (goes_on c.loop-rest.invariant.0 c.loop-rest.low c.loop-rest.rest.now item
          c.in_ok-item.after.now total (omega arith) c.in_ok-item.ensures.exact
          c.loop-rest.invariant.1),
    )

pub returns : goal.returns
returns c =
    let total = items_at (length c.args.octets.now) 0 c.args.octets.now in
    let done = is_done c.loop-rest.invariant.0 c.loop-rest.low c.loop-rest.rest.now total
    (eqb-true _ _ (sym c.loop-rest-test.ensures)) c.loop-rest.invariant.1 in
    read_is_listed c.args.octets.now c.loop-rest.invariant.0
    (λ i. omega (arith, c.type_inv.octets i)) done
