-- What a report for people says of the gaps of its rows.
use Rattle.std.specs.Prelude.{ℕ, ◌==◌, List, [], ◌∷◌, ◌++◌, Option, Some, None, codes, decimal}
use Rattle.std.specs.Prelude.{flat_map, option_map, if◌then◌else◌}
use Rattle.site_base.specs.declared.config.PointEntry.{PointEntry}
use Rattle.site_base.specs.declared.config.ProductEntry.{ProductEntry}
use Rattle.site_base.specs.Configured.{Configured}
use Rattle.site_base.specs.Members as numbered
use Rattle.sales_table.specs.Tables.{name_of}
use Rattle.row_tally.specs.declared.refused_run.RefusedRun.{RefusedRun}
use Rattle.meter_table.specs.declared.gap.Replacement.{Replacement}
use Rattle.meter_table.specs.Gaps.{Gaps}
use Rattle.meter_table.specs.People.{litres, litres_up}

-- the product that nozzle n of point p delivers, as configured
abbrev pub product_at : ℕ → ℕ → List PointEntry → Option ℕ
product_at p n [] = None
product_at p n (e ∷ es) =
    if e.number == p then option_map (λ x. x.product) (numbered.member n e.nozzles)
    else product_at p n es

-- a product's number and name
abbrev pub product_words : List ProductEntry → Option ℕ → List ℕ
product_words products None = []
product_words products (Some q) = codes ", " ++ (decimal q ++ (codes " " ++ name_of q products))

-- a nozzle, with its product: `point 4 nozzle 1, 1 unleaded`
unfoldable pub nozzle_words : Configured → ℕ → ℕ → List ℕ
nozzle_words c p n =
    codes "point " ++ (decimal p ++ (codes " nozzle " ++ (decimal n
    ++ product_words c.products (product_at p n c.points))))

-- how far one reading is above another: `, difference 30.000 litres`
unfoldable pub difference_words : ℕ → ℕ → List ℕ
difference_words up down = codes ", difference " ++ (litres_up up down ++ codes " litres\n")

-- a replaced meter: its nozzle, and both readings
unfoldable pub jump_line : Configured → Replacement → List ℕ
jump_line c x =
    codes "meter replaced: " ++ (nozzle_words c x.point x.nozzle
    ++ (codes ": the old one read " ++ (litres x.old
    ++ (codes ", the new one began at " ++ (litres x.new ++ difference_words x.new x.old)))))

-- an open gap: its nozzle, and both readings
unfoldable pub open_line : Configured → RefusedRun → List ℕ
open_line c x =
    codes "open gap: " ++ (nozzle_words c x.point x.nozzle
    ++ (codes ": " ++ (litres x.expected ++ (codes " expected, "
    ++ (litres x.reported ++ (codes " reported" ++ difference_words x.reported x.expected))))))

-- a line for each replaced meter, and one for each open gap; without any nothing, and else an empty
-- line ahead of them
abbrev pub gap_words : Configured → Gaps → List ℕ
gap_words c g = set_off (flat_map (jump_line c) g.replaced ++ flat_map (open_line c) g.unsettled)
  where
    set_off : List ℕ → List ℕ
    set_off [] = []
    set_off (x ∷ xs) = codes "\n" ++ x ∷ xs
