use Rattle.std.proofs.Common.{◌≡◌, ◌++◌, take, drop}
use Rattle.site_base.specs.Table.{row_by, with_row_by}
use Rattle.site_base.proofs.table.place_of.Given as goal

abbrev pub invariant-loop-place : goal.invariant-loop-place
invariant-loop-place g l = record {
  row : row_by g.K.Number.number l.fn.key (drop l.place l.rows)
      ≡ row_by g.K.Number.number l.fn.key l.rows;
  write : (v : _) → take l.place l.rows
      ++ with_row_by g.K.Number.number l.fn.key v (drop l.place l.rows)
      ≡ with_row_by g.K.Number.number l.fn.key v l.rows;
}
