-- Numbers and lists in JSON.
use Rattle.std.specs.Prelude.{ℕ, List}
use Rattle.serde_json.specs.Data.{Data, array, number, unsigned}
use Rattle.serde_json.specs.View.{items_of}

-- a number
abbrev pub figure : ℕ → Data
figure n = number (unsigned n)

-- these, one after another
abbrev pub listed : List Data → Data
listed ds = array (items_of ds)
