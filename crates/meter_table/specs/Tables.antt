-- The lines of the tables of nozzles and of gaps: as comma-separated values and as JSON.
use Rattle.std.specs.Prelude.{ℕ, ◌-◌, ◌^◌, nat_le, nat_lt, negsuc, List, []}
use Rattle.std.specs.Prelude.{◌∷◌, ◌++◌, codes, decimal, flat_map}
use Rattle.std.specs.Prelude.{Option, Some, None, if◌then◌else◌}
use Rattle.csv.specs.Writing.{default_writer, row_text}
use Rattle.serde_json.specs.Data.{Data, null, number, string, object, unsigned, negative}
use Rattle.serde_json.specs.Data.{Members, member, no_members, put}
use Rattle.serde_json.specs.Written.{compact_text}
use Rattle.site_base.specs.declared.config.ProductEntry.{ProductEntry}
use Rattle.site_base.specs.Refusals.{refusal_number}
use Rattle.sales_table.specs.Tables.{decimal_if, name_of}
use Rattle.sales_table.specs.TimedSales.{time_field}
use Rattle.meter_table.specs.declared.figures.NozzleFigures.{NozzleFigures}
use Rattle.meter_table.specs.declared.form.Form.{Form}
use Rattle.meter_table.specs.declared.form.Form.TheVariants.{Text, Csv, Json}
use Rattle.row_tally.specs.declared.refused_run.RefusedRun.{RefusedRun}
use Rattle.meter_table.specs.declared.gap.Replacement.{Replacement}
use Rattle.meter_table.specs.Gaps.{Gaps}

-- ---- words

-- how far something is up, less how far it is down, in decimal with its sign
abbrev pub difference_word : ℕ → ℕ → List ℕ
difference_word up down =
    if nat_le down up then decimal (up - down) else codes "-" ++ decimal (down - up)

-- ---- nozzles, as comma-separated values

abbrev pub figure_titles : List (List ℕ)
figure_titles =
    codes "point" ∷ codes "nozzle" ∷ codes "product" ∷ codes "name" ∷ codes "opening"
    ∷ codes "closing" ∷ codes "metered" ∷ codes "sold" ∷ codes "drawn" ∷ codes "running"
    ∷ codes "replaced" ∷ codes "jumps" ∷ codes "refused" ∷ codes "highest refused" ∷ []

abbrev pub figure_fields : List ProductEntry → NozzleFigures → List (List ℕ)
figure_fields products x =
    decimal x.point ∷ decimal x.nozzle ∷ decimal x.product ∷ name_of x.product products
    ∷ decimal x.opening ∷ decimal x.closing ∷ decimal x.metered ∷ decimal x.sold
    ∷ decimal x.drawn ∷ decimal x.running ∷ decimal x.replaced
    ∷ difference_word x.raised x.lowered ∷ decimal x.refused ∷ decimal_if x.highest ∷ []

-- ---- nozzles, as JSON: members stand in the order of their names

-- the same difference as a number
abbrev pub difference_data : ℕ → ℕ → Data
difference_data up down =
    if nat_le down up then number (unsigned (up - down))
    else if nat_lt (down - up) (2 ^ 63) then number (negative (negsuc (down - up - 1))) else null

-- a number, or null
abbrev pub number_if : Option ℕ → Data
number_if None = null
number_if (Some n) = number (unsigned n)

abbrev pub figure_members : List ProductEntry → NozzleFigures → Members
figure_members products x =
    member (codes "closing") (number (unsigned x.closing))
    (member (codes "drawn") (number (unsigned x.drawn))
    (member (codes "metered") (number (unsigned x.metered))
    (member (codes "name") (string (name_of x.product products))
    (member (codes "nozzle") (number (unsigned x.nozzle))
    (member (codes "opening") (number (unsigned x.opening))
    (member (codes "point") (number (unsigned x.point))
    (member (codes "product") (number (unsigned x.product))
    (member (codes "refused") (number (unsigned x.refused))
    (member (codes "replaced") (number (unsigned x.replaced))
    (member (codes "running") (number (unsigned x.running))
    (member (codes "sold") (number (unsigned x.sold))
    no_members)))))))))))

-- a nozzle: its jumps and its highest refused reading are members more, at their places
abbrev pub figure_data : List ProductEntry → NozzleFigures → Data
figure_data products x =
    object
    (put (codes "jumps") (difference_data x.raised x.lowered)
    (put (codes "highest refused") (number_if x.highest) (figure_members products x)))

-- ---- gaps, as comma-separated values

abbrev pub gap_titles : List (List ℕ)
gap_titles =
    codes "gap" ∷ codes "row" ∷ codes "last row" ∷ codes "at" ∷ codes "point" ∷ codes "nozzle"
    ∷ codes "till" ∷ codes "refusal" ∷ codes "expected" ∷ codes "reported" ∷ codes "difference"
    ∷ codes "settled by row" ∷ []

-- a replaced meter: what was expected is the old one's last reading
abbrev pub replaced_fields : Replacement → List (List ℕ)
replaced_fields x =
    codes "replaced" ∷ decimal x.place.row ∷ [] ∷ time_field x.place.at ∷ decimal x.point
    ∷ decimal x.nozzle ∷ decimal x.till ∷ [] ∷ decimal x.old ∷ decimal x.new
    ∷ difference_word x.new x.old ∷ [] ∷ []

-- the row that settled a run, or that it is open
abbrev pub settled_word : Option ℕ → List ℕ
settled_word None = codes "open"
settled_word (Some row) = decimal row

abbrev pub run_fields : RefusedRun → List (List ℕ)
run_fields x =
    codes "refused" ∷ decimal x.first.row ∷ decimal x.last ∷ time_field x.first.at
    ∷ decimal x.point ∷ decimal x.nozzle ∷ [] ∷ decimal (refusal_number x.refusal)
    ∷ decimal x.expected ∷ decimal x.reported ∷ difference_word x.reported x.expected
    ∷ settled_word x.settled ∷ []

-- ---- gaps, as JSON

-- a time, or null
abbrev pub time_if : Option (List ℕ) → Data
time_if None = null
time_if (Some time) = string time

abbrev pub replaced_data : Replacement → Data
replaced_data x =
    object
    (member (codes "at") (time_if x.place.at)
    (member (codes "difference") (difference_data x.new x.old)
    (member (codes "gap") (string (codes "replaced"))
    (member (codes "new") (number (unsigned x.new))
    (member (codes "nozzle") (number (unsigned x.nozzle))
    (member (codes "old") (number (unsigned x.old))
    (member (codes "point") (number (unsigned x.point))
    (member (codes "row") (number (unsigned x.place.row))
    (member (codes "till") (number (unsigned x.till))
    no_members)))))))))

abbrev pub run_data : RefusedRun → Data
run_data x =
    object
    (member (codes "at") (time_if x.first.at)
    (member (codes "difference") (difference_data x.reported x.expected)
    (member (codes "expected") (number (unsigned x.expected))
    (member (codes "gap") (string (codes "refused"))
    (member (codes "last row") (number (unsigned x.last))
    (member (codes "nozzle") (number (unsigned x.nozzle))
    (member (codes "point") (number (unsigned x.point))
    (member (codes "refusal") (number (unsigned (refusal_number x.refusal)))
    (member (codes "reported") (number (unsigned x.reported))
    (member (codes "row") (number (unsigned x.first.row))
    (member (codes "settled by row") (number_if x.settled)
    no_members)))))))))))

-- ---- the tables

-- what stands above the lines
abbrev pub head_text : Form → List (List ℕ) → List ℕ
head_text Csv titles = row_text default_writer titles
head_text form titles = []

-- the line of a nozzle, but for people, whose lines stand in columns
abbrev pub figure_text : Form → List ProductEntry → NozzleFigures → List ℕ
figure_text Csv products x = row_text default_writer (figure_fields products x)
figure_text Json products x = compact_text (figure_data products x) ++ codes "\n"
figure_text Text products x = []

-- the table of these nozzles as values or as JSON
abbrev pub figures_text : Form → List ProductEntry → List NozzleFigures → List ℕ
figures_text form products xs =
    head_text form figure_titles ++ flat_map (figure_text form products) xs

-- the line of a replaced meter, and of a run of refused readings, but for people
abbrev pub replaced_text : Form → Replacement → List ℕ
replaced_text Csv x = row_text default_writer (replaced_fields x)
replaced_text Json x = compact_text (replaced_data x) ++ codes "\n"
replaced_text Text x = []

abbrev pub run_text : Form → RefusedRun → List ℕ
run_text Csv x = row_text default_writer (run_fields x)
run_text Json x = compact_text (run_data x) ++ codes "\n"
run_text Text x = []

-- the table of gaps as values or as JSON: each replaced meter, each run that is settled, and those
-- that are open
abbrev pub gaps_text : Form → Gaps → List ℕ
gaps_text form g =
    ((head_text form gap_titles ++ flat_map (replaced_text form) g.replaced)
    ++ flat_map (run_text form) g.settled) ++ flat_map (run_text form) g.unsettled
