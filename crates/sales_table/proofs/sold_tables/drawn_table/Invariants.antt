use Rattle.std.proofs.Common.{◌≡◌, ◌++◌, drop, flat_map}
use Rattle.sales_table.specs.SoldLists.{drawn_text}
use Rattle.sales_table.specs.Texts.{draw_text}
use Rattle.sales_table.proofs.sold_tables.drawn_table.Given as goal

-- what is to follow is the lines of the draws that are left
abbrev pub invariant-loop-draw : goal.invariant-loop-draw
invariant-loop-draw l =
    l.text.items ++ flat_map (draw_text l.form l.products) (drop l.draw-index l.draws)
    ≡ drawn_text l.form l.products l.draws
