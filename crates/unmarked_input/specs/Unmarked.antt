-- What clauses see of a reader without the mark.
use Rattle.std.specs.Prelude.{ℕ, List, ◌++◌, Bool, Option, option_map, if◌then◌else◌, slice_range}
use Rattle.unmarked_input.specs.declared.unmarked.Unmarked.{Unmarked}
use Rattle.unmarked_input.specs.Mark.{without_mark}

-- the reader that it reads
abbrev pub input_of : {R : Type 0} → Unmarked R → R
input_of u = u.input

-- it isn't known yet whether the input begins with the mark
abbrev pub is_looking : {R : Type 0} → Unmarked R → Bool
is_looking u = u.is_looking

-- how many octets of the input were looked at
abbrev pub looked_at : {R : Type 0} → Unmarked R → ℕ
looked_at u = u.end

-- the octets that were read of the input and aren't given yet
abbrev pub held_of : {R : Type 0} → Unmarked R → List ℕ
held_of u = slice_range u.front u.start u.end

-- what it gives if these octets are left of its input: without the mark, while it isn't known
-- whether the input begins with one
abbrev pub text_with : {R : Type 0} → Unmarked R → List ℕ → List ℕ
text_with u octets =
    if u.is_looking then without_mark (held_of u ++ octets) else (held_of u ++ octets)

-- what is left, where it is known what is left of the input
abbrev pub unmarked_left : {R : Type 0} → (R → Option (List ℕ)) → Unmarked R → Option (List ℕ)
unmarked_left remaining u = option_map (text_with u) (remaining u.input)
