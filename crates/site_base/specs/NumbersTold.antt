-- The numbers that the site and the program tell.
use Rattle.std.specs.Prelude.{ℕ, Bool, ◌||◌}
use Rattle.site_base.specs.Ranges.{is_between}

-- the numbers of refusals
abbrev pub is_refusal : ℕ → Bool
is_refusal n = is_between 1 25 n

-- the numbers that stand in place of a reply: no row, faults of a stream, faults of the mapping
abbrev pub stands_alone : ℕ → Bool
stands_alone n = is_between 30 31 n || is_between 40 43 n || is_between 50 58 n

-- the numbers of refusals, and of faults of the book, of streams, requests, runs and site files
abbrev pub has_meaning : ℕ → Bool
has_meaning n =
    is_refusal n || is_between 30 31 n || is_between 40 44 n || is_between 50 65 n
    || is_between 70 76 n
