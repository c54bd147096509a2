-- Who is sent to at the end of a round: keys, in the order in which they became due.
use Rattle.std.specs.Prelude.{◌≡◌, ◌==◌, ◌&&◌, ◌+◌, ℕ, Bool, true, false, List, [], ◌∷◌, ◌++◌}
use Rattle.std.specs.Prelude.{length, get_or, if◌then◌else◌, nat_lt, not, take}
use Rattle.station.specs.declared.sizes.TheConstants.{PEERS}

-- the peer of a key is due
abbrev pub is_due : List ℕ → ℕ → Bool
is_due [] k = false
is_due (j ∷ due) k = if j == k then true else is_due due k

-- the peer of a key is due, too, if it can be one's
abbrev pub with_due : ℕ → List ℕ → List ℕ
with_due key due = if nat_lt key PEERS && not (is_due due key) then due ++ key ∷ [] else due

-- who was due is
abbrev pub StayDue : List ℕ → List ℕ → Type 0
StayDue old new = (k : ℕ) → is_due old k ≡ true → is_due new k ≡ true

-- ---- as a list with marks

abbrev pub count_marks : List Bool → ℕ
count_marks [] = 0
count_marks (true ∷ marks) = count_marks marks + 1
count_marks (false ∷ marks) = count_marks marks

-- those at the first so many places are the marked ones
pub record AreMarked (count : ℕ) (keys : List ℕ) (marks : List Bool) : Type 0 where
  pub places : length keys ≡ PEERS
  pub size : length marks ≡ PEERS
  pub many : count ≡ count_marks marks
  pub those : (k : ℕ) → is_due (take count keys) k ≡ get_or marks k false
