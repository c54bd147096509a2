use Rattle.std.proofs.Common.{◌≡◌, ap, sym, ◌∙◌}
use Rattle.site_base.proofs.Places.{place_found}
use Rattle.site_base.proofs.table.place_of.Goals as goal

pub returns-then-number-clause-found : goal.returns-then-number-clause-found
returns-then-number-clause-found g c =
    let number = g.K.Number.number in
    let here : number c.index-rows-place.result.0 ≡ number c.args.key = sym c.number.ensures
    ∙ c.if-number.true ∙ c.number-number.ensures in
    place_found number c.args.key c.args.rows.now c.loop-place.place c.index-rows-place.result
    c.loop-place-test.true
    (ap (λ (x : g.row.K.Denot × g.row.T.Denot). number x.0) (sym c.index-rows-place.is) ∙ here)
    c.loop-place.invariant.row c.loop-place.invariant.write
