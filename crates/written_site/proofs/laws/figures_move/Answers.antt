use Rattle.written_site.proofs.FigureDraws.{draws_move}
use Rattle.written_site.proofs.FigureMoves.{has_clear, keeps_clears}
use Rattle.written_site.proofs.FigureOpens.{opens_empty}
use Rattle.written_site.proofs.laws.figures_move.Goals as goal

pub returns : goal.returns
returns c = record {
  clears = has_clear;
  keeps = keeps_clears;
  draws = draws_move;
  opens = opens_empty;
}
