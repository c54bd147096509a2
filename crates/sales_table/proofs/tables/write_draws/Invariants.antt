use Rattle.std.proofs.Common.{◌≡◌, ℕ, ◌++◌, List, flat_map, length}
use Rattle.std.specs.Io.KnownBytes.{Appends}
use Rattle.devices.specs.Counted.{device_of}
use Rattle.sales_table.specs.Texts.{draw_text, draws_text}
use Rattle.sales_table.proofs.tables.write_draws.Given as goal

abbrev pub invariant-loop-text : goal.invariant-loop-text
invariant-loop-text g l = record {
  done : List ℕ;
  wrote : Appends (g.W.Write.contents (device_of l.fn.writer))
      (g.W.Write.contents (device_of l.writer)) done;
  rest : done ++ (l.text.items ++ flat_map (draw_text l.form l.book.config.products) l.draws)
      ≡ draws_text l.form l.book;
}

abbrev pub decreases-loop-text : goal.decreases-loop-text
decreases-loop-text g l = length l.draws
