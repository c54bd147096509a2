use Rattle.std.proofs.Common.{◌≡◌, [], ◌∷◌, ◌++◌, ap, ◌∙◌, arith, length}
use Rattle.std.proofs.lemmas.Grind.{common_steps}
use Rattle.site_book.specs.RowLists.{RowList}
use Rattle.site_book.proofs.KeptRows.{pushed, pushed_within}
use Rattle.site_book.proofs.rows.Rows.push.Goals as goal

pub invariant_of-self : goal.invariant_of-self
invariant_of-self c =
    let place : c.len-at.result ≡ length c.self.inside.figures.items =
    grind (arith, common_steps) in
    record {
      within = pushed_within _ _ _ _ _ _ _ c.self.invariant.within c.put_figures.ensures.figures
          c.push_reserved.ensures.items c.new.ensures place;
      rows = grind (arith, common_steps);
      figures = grind (arith, common_steps);
    }

pub returns-clause-rows : goal.returns-clause-rows
returns-clause-rows c =
    let place : c.len-at.result ≡ length c.self.inside.figures.items =
    grind (arith, common_steps) in
    pushed _ _ _ _ _ _ _ c.self.invariant.within c.put_figures.ensures.figures
    c.push_reserved.ensures.items c.new.ensures place
    ∙ ap (λ (l : RowList). l.rows ++ c.args.row.now ∷ []) c.self.view_is
