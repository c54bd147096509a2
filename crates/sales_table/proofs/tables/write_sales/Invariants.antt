use Rattle.std.proofs.Common.{◌≡◌, ℕ, ◌++◌, List, flat_map, length}
use Rattle.std.specs.Io.KnownBytes.{Appends}
use Rattle.devices.specs.Counted.{device_of}
use Rattle.sales_table.specs.Texts.{sale_text, sales_text}
use Rattle.sales_table.proofs.tables.write_sales.Given as goal

abbrev pub invariant-loop-sold : goal.invariant-loop-sold
invariant-loop-sold g l = record {
  done : List ℕ;
  wrote : Appends (g.W.Write.contents (device_of l.fn.writer))
      (g.W.Write.contents (device_of l.writer)) done;
  rest : done ++ (l.text.items ++ flat_map (sale_text l.form l.book.config.products) l.sales)
      ≡ sales_text l.form l.book;
}

abbrev pub decreases-loop-sold : goal.decreases-loop-sold
decreases-loop-sold g l = length l.sales
