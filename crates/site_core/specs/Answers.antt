-- Which steps of a point end a delivery.
use Rattle.std.specs.Prelude.{Bool, true, false}
use Rattle.fuelling_point.specs.declared.step.PointStep.{PointStep}
use Rattle.fuelling_point.specs.declared.step.PointStep.TheVariants.{Sold, Drawn}

-- a fuelling is sold, or a test drawn
abbrev pub delivers : PointStep → Bool
delivers (Sold nozzle volume price prepaid) = true
delivers (Drawn nozzle volume) = true
delivers step = false
