-- Families of samples, as OpenMetrics text.
use Rattle.std.specs.Prelude.{ℕ, List, [], ◌++◌, codes, decimal}

-- the head of a family: its type, and what it tells
unfoldable pub head : List ℕ → List ℕ → List ℕ → List ℕ
head name kind help =
    codes "# TYPE " ++ name ++ codes " " ++ kind ++ codes "\n# HELP " ++ name ++ codes " " ++ help
    ++ codes "\n"

-- a sample: its name, its labels, if it has any, and its value
unfoldable pub sample : List ℕ → List ℕ → ℕ → List ℕ
sample name labels n = name ++ labels ++ codes " " ++ decimal n ++ codes "\n"

-- a name, and a number behind it
unfoldable pub numbered : List ℕ → ℕ → List ℕ
numbered name number = name ++ decimal number

-- a sample that is a time, of so many microseconds
unfoldable pub seconds : List ℕ → ℕ → List ℕ
seconds name microseconds = name ++ codes " " ++ decimal microseconds ++ codes "e-6\n"

-- a family of one sample, without labels
unfoldable pub gauge : List ℕ → List ℕ → ℕ → List ℕ
gauge name help n = head name (codes "gauge") help ++ sample name [] n
