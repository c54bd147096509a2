-- What a tally of rows tells, as OpenMetrics text.
use Rattle.std.specs.Prelude.{ℕ, List, [], ◌∷◌, ◌++◌, Option, Some, None, codes}
use Rattle.std.specs.Prelude.{flat_map, length}
use Rattle.row_tally.specs.Tally.{Tally, refused_as}
use Rattle.site_metrics.specs.Families.{gauge, head, numbered, sample}

-- how many rows were refused with the refusal of this number
unfoldable pub refusal_line : ℕ → ℕ → List ℕ
refusal_line refusal count =
    numbered (codes "witsomar_refused_rows{refusal=\"") refusal ++ sample (codes "\"}") [] count

abbrev pub refusal_text : Tally → ℕ → List ℕ
refusal_text t refusal = refusal_line refusal (refused_as refusal t)

-- the numbers of the refusals
abbrev pub refusals : List ℕ
refusals =
    1 ∷ 2 ∷ 3 ∷ 4 ∷ 5 ∷ 6 ∷ 7 ∷ 8 ∷ 9 ∷ 10 ∷ 11 ∷ 12 ∷ 13 ∷ 14 ∷ 15 ∷ 16 ∷ 17 ∷ 18 ∷ 19 ∷ 20
    ∷ 21 ∷ 22 ∷ 23 ∷ 24 ∷ 25 ∷ []

-- how many rows were refused, by refusals
unfoldable pub refusals_text : Tally → List ℕ
refusals_text t =
    head (codes "witsomar_refused_rows") (codes "gauge")
    (codes "Rows that were refused, by refusal.")
    ++ flat_map (refusal_text t) refusals

-- how many gaps are open
unfoldable pub gaps_line : ℕ → List ℕ
gaps_line count =
    gauge (codes "witsomar_open_gaps")
    (codes "Nozzles whose refused readings no accepted one has settled.") count

abbrev pub gaps_text : Tally → List ℕ
gaps_text t = gaps_line (length t.runs)

unfoldable pub told_text : Tally → List ℕ
told_text t = refusals_text t ++ gaps_text t

-- what the tally tells, if there is one
abbrev pub tally_text : Option Tally → List ℕ
tally_text None = []
tally_text (Some t) = told_text t
