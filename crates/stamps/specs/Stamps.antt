-- Times: the stamps of a history.
use Rattle.std.specs.Prelude.{ℕ, Bool, true, false, ◌&&◌, ◌==◌, List, [], ◌∷◌, ◌++◌, codes, drop}
use Rattle.std.specs.Prelude.{nat_le, nat_lt, not, Option, Some, None, if◌then◌else◌}
use Rattle.std.specs.List.{starts_with}

-- the form of a time, UTC in milliseconds; a digit stands for any one up to it
abbrev pub stamp_form : List ℕ
stamp_form = codes "9999-19-39T29:59:59.999Z"

abbrev pub is_digit : ℕ → Bool
is_digit octet = nat_le 48 octet && nat_le octet 57

-- the octet is one that the form allows here
abbrev pub is_formed : ℕ → ℕ → Bool
is_formed form octet =
    if is_digit form then nat_le 48 octet && nat_le octet form else octet == form

-- octets have a form
abbrev pub are_formed : List ℕ → List ℕ → Bool
are_formed [] [] = true
are_formed [] (b ∷ bs) = false
are_formed (f ∷ form) [] = false
are_formed (f ∷ form) (b ∷ bs) = is_formed f b && are_formed form bs

-- octets are a time
abbrev pub is_stamp : List ℕ → Bool
is_stamp octets = are_formed stamp_form octets

-- a time is before another: the order of their octets
abbrev pub is_before : List ℕ → List ℕ → Bool
is_before [] [] = false
is_before [] (y ∷ ys) = true
is_before (x ∷ xs) [] = false
is_before (x ∷ xs) (y ∷ ys) = if x == y then is_before xs ys else nat_lt x y

-- what the line of a time begins with
abbrev pub at_mark : List ℕ
at_mark = codes "# at "

abbrev pub at_line : List ℕ → List ℕ
at_line time = at_mark ++ time

-- octets as a time, where they are one
abbrev pub as_stamp : List ℕ → Option (List ℕ)
as_stamp octets = if is_stamp octets then Some octets else None

-- the time that a line tells, if it tells one
abbrev pub stamp_in : List ℕ → Option (List ℕ)
stamp_in line =
    if starts_with (λ a b. a == b) line at_mark then as_stamp (drop 5 line) else None

-- a time is later than the last one, where there is one
abbrev pub is_later : Option (List ℕ) → List ℕ → Bool
is_later None time = true
is_later (Some last) time = is_before last time

-- the later of the last time and this one
abbrev pub later : Option (List ℕ) → List ℕ → Option (List ℕ)
later last time = if is_later last time then Some time else last

-- .. if there is one
abbrev pub later_of : Option (List ℕ) → Option (List ℕ) → Option (List ℕ)
later_of last None = last
later_of last (Some time) = later last time

-- the time behind a line: times never fall
abbrev pub time_after : List ℕ → Option (List ℕ) → Option (List ℕ)
time_after line last = later_of last (stamp_in line)

-- .. behind lines
abbrev pub time_of_lines : List (List ℕ) → Option (List ℕ) → Option (List ℕ)
time_of_lines [] last = last
time_of_lines (line ∷ lines) last = time_of_lines lines (time_after line last)

-- ---- spans of time

-- a time isn't before the first one, if there is one
abbrev pub is_not_before : Option (List ℕ) → List ℕ → Bool
is_not_before None time = true
is_not_before (Some first) time = not (is_before time first)

-- a time isn't after the last one, if there is one
abbrev pub is_not_after : Option (List ℕ) → List ℕ → Bool
is_not_after None time = true
is_not_after (Some last) time = not (is_before last time)

-- a time lies between these two, both included; one that isn't there leaves that end open
abbrev pub is_between : Option (List ℕ) → Option (List ℕ) → List ℕ → Bool
is_between first last time = is_not_before first time && is_not_after last time
