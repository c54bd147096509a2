use Rattle.std.proofs.Common.{take, sym, ◌∙◌, arith}
use Rattle.written_site.specs.SiteState.{opening}
use Rattle.site_book.proofs.BookDraws.{legal_row, row_draws}
use Rattle.site_book.proofs.RowByRow.{site_more}
use Rattle.site_book.proofs.draws.replay_row.Goals as goal

pub returns-clause-draw : goal.returns-clause-draw
returns-clause-draw c =
    let whole = c.row.ensures.kept (omega (arith, c.requires.replayed.whole)) in
    let found = sym whole ∙ c.in-Some.is in
    row_draws c.args.book.now c.args.at c.in-Some.row c.prepare.new.self.site
    c.draw_made-draw.result found
    (c.in_ok-prepare-in-Some.ensures.site ∙ c.requires.replayed.leads)
    (c.draw_made-draw.ensures c.args.book.now.config (take c.args.at c.args.book.now.rows)
    (legal_row c.args.book.now c.args.at c.in-Some.row c.len.ensures.legal found)
    (c.in_ok-prepare-in-Some.ensures.site ∙ c.requires.replayed.leads))

pub returns-clause-replayed : goal.returns-clause-replayed
returns-clause-replayed c = record {
  whole = c.requires.replayed.whole;
  within = omega (arith, c.requires.within);
  leads = site_more (opening c.args.book.now.config) c.prepare.new.self.site c.step.new.self.site
      c.args.book.now.rows c.args.at c.in-Some.row
      (c.in_ok-prepare-in-Some.ensures.site ∙ c.requires.replayed.leads)
      (sym (c.row.ensures.kept (omega (arith, c.requires.replayed.whole))) ∙ c.in-Some.is)
      c.step.ensures.step.leads;
}
