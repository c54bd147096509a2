use Rattle.std.proofs.Common.{◌∙◌, arith, length-set}
use Rattle.transaction_buffer.proofs.SumsAfter.{can_let_go, kept_let_go}
use Rattle.transaction_buffer.proofs.LetGo.{stages_next}
use Rattle.transaction_buffer.proofs.buffer.unlock_at.Goals as goal

pub unlock_sums-requires : goal.unlock_sums-requires
unlock_sums-requires c =
    can_let_go c.args.t c.loop-p.shelves c.cell.result c.index-shelves-cell.result c.loop-p.sums
    (omega (arith, c.loop-p.invariant.cells)) c.loop-p.invariant.sums

pub loop-p-preserved : goal.loop-p-preserved
loop-p-preserved c =
    let old = c.loop-p.shelves in
    let i = c.cell.result in
    let d = c.index-shelves-cell.result in
    record {
      cells = length-set old i c.unlock_all_of.new.self ∙ c.loop-p.invariant.cells;
      stages = stages_next c.args.t c.args.points c.loop-p.left c.remove.new.self c.in-Some.p i
          c.args.shelves.now old d c.unlock_all_of.new.self c.requires.cells
          c.loop-p.invariant.cells
          c.cell.ensures.place (omega arith) c.in-Some.ensures.member c.remove.ensures.others
          c.unlock_all_of.ensures c.loop-p.invariant.stages;
      sums = kept_let_go c.args.t old i d c.loop-p.sums (omega (arith, c.loop-p.invariant.cells))
          c.loop-p.invariant.sums c.unlock_all_of.new.self c.unlock_all_of.ensures.sales
          c.unlock_sums.new.sums
          c.unlock_sums.ensures;
    }
