-- Numbers and texts that may be missing, in JSON.
use Rattle.std.specs.Prelude.{ℕ, ◌^◌, nat_lt, List, Option, Some, None, if◌then◌else◌}
use Rattle.serde_json.specs.Data.{Data, null, string}
use Rattle.day_report.specs.Figures.{figure}

-- a number, or null
abbrev pub figure_if : Option ℕ → Data
figure_if None = null
figure_if (Some n) = figure n

-- a text, or null
abbrev pub text_if : Option (List ℕ) → Data
text_if None = null
text_if (Some text) = string text

-- a sum of figures; null, where it has more than 64 bits
abbrev pub sum_data : ℕ → Data
sum_data n = if nat_lt n (2 ^ 64) then figure n else null
