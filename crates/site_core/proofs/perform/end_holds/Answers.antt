use Rattle.std.proofs.Common.{◌≡◌, ◌+◌, ◌∷◌, drop, sym, ap, ◌∙◌}
use Rattle.std.proofs.lemmas.List.{drop_more, drop_all}
use Rattle.std.specs.FinMap as finite
use Rattle.site_core.proofs.SignOffs.{left, left_next, all_left}
use Rattle.site_core.proofs.perform.end_holds.Goals as goal

pub loop-row-preserved : goal.loop-row-preserved
loop-row-preserved c = record {
  left = λ q.
      let points = c.args.points.now in
      let t = c.args.t in
      let rows = c.rows-row-items.result.now in
      let i = c.loop-row.row-index in
      let row = c.row-item.result in
      let split : row ∷ drop (i + 1) rows ≡ drop i rows =
      ap (λ x. x ∷ drop (i + 1) rows) c.row-item.is
      ∙ sym (drop_more rows i row c.loop-row-test.true) in
      ap (λ claims. left points t (drop (i + 1) rows) q (finite.get claims q)) c.end_hold_of.ensures
      ∙ left_next points t row (drop (i + 1) rows) c.loop-row.claims q
      ∙ ap (λ some. left points t some q (finite.get c.loop-row.claims q)) split
      ∙ c.loop-row.invariant.left q;
}

pub returns : goal.returns
returns c = all_left c.args.points.now c.args.t c.args.claims.now c.loop-row.claims (λ q.
    ap (λ some. left c.args.points.now c.args.t some q (finite.get c.loop-row.claims q))
    (sym (drop_all c.loop-row.row-index c.rows-row-items.result.now c.loop-row-test.false))
    ∙ c.loop-row.invariant.left q
    ∙ ap (λ rows. left c.args.points.now c.args.t rows q (finite.get c.args.claims.now q))
    c.rows-row-items.ensures)
