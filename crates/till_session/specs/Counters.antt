-- Counters: what is seen of one, what a request does to it, and which tills it owes a sign-off.
use Rattle.std.specs.Prelude.{◌≡◌, ℕ, ◌⊎◌, Bool, true, false, List, [], ◌∷◌, ◌++◌, ◌==◌, Option}
use Rattle.std.specs.Prelude.{Some, None, if◌then◌else◌}
use Rattle.site_base.specs.declared.actor.Actor.{Actor}
use Rattle.site_base.specs.declared.event.Event.{Event}
use Rattle.site_base.specs.declared.row.Row.{Row}
use Rattle.site_base.specs.declared.signing.SignChange.{SignChange}
use Rattle.site_base.specs.declared.signing.SignChange.TheVariants.{On, Off}
use Rattle.peer_talk.specs.Exchanges.{Outcome, change_by, row_made, sign_off_row}

-- a till was left: there is one row more, its sign-off; or none, where it wasn't signed on any more
abbrev pub IsLeft : ℕ → List Row → List Row → Type 0
IsLeft t old new = (new ≡ old ++ sign_off_row t ∷ []) ⊎ (new ≡ old)

-- the tills owed, of which this one is now owed or isn't
abbrev pub with_debt : ℕ → Bool → (ℕ → Bool) → ℕ → Bool
with_debt t owed owes u = if u == t then owed else owes u

-- which tills are owed after such a change: a till that signs on is owed, one that signs off isn't
-- any more
abbrev pub owed_with : Option SignChange → (ℕ → Bool) → ℕ → Bool
owed_with (Some (On t)) owes = with_debt t true owes
owed_with (Some (Off t)) owes = with_debt t false owes
owed_with None owes = owes

-- .. and once a request is answered so
abbrev pub owed_by : Actor → Event → Outcome → (ℕ → Bool) → ℕ → Bool
owed_by actor event outcome owes = owed_with (change_by actor event outcome) owes

-- the one till that is owed
abbrev pub is_the_one : Option ℕ → ℕ → Bool
is_the_one None u = false
is_the_one (Some t) u = u == t

-- what is seen of a counter: its record, and which tills it owes
pub record Counts : Type 0 where
  pub rows : List Row
  pub owes : ℕ → Bool

abbrev pub counts : List Row → (ℕ → Bool) → Counts
counts rows owes = record { rows = rows; owes = owes }

-- a request was asked at a counter, which has its row, and owes what it makes it owe
abbrev pub IsAskedAt : Counts → Actor → Event → Outcome → Counts → Type 0
IsAskedAt old actor event outcome new =
    (new.rows ≡ old.rows ++ row_made actor event outcome)
    × ((t : ℕ) → new.owes t ≡ owed_by actor event outcome old.owes t)
