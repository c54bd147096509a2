-- What a peer is fed, over any calls.
use Rattle.std.specs.Prelude.{◌≡◌, ℕ, ◌+◌, ◌-◌, ◌≤◌, List, [], ◌∷◌, ◌++◌, ◌⊎◌, codes, decimal, drop}
use Rattle.std.specs.Prelude.{length, take, Option}
use Rattle.site_base.specs.declared.row.Row.{Row}
use Rattle.row_feed.specs.declared.fault.FeedFault.{FeedFault}
use Rattle.row_feed.specs.declared.stage.Stage.{Stage}
use Rattle.row_feed.specs.declared.stage.Stage.TheVariants.{Asks, Follows, Over}
use Rattle.row_json.specs.LastRows.{Last, next_line, with_row}
use Rattle.row_feed.specs.FeedFaults.{alive_line, fault_line}
use Rattle.row_feed.specs.Feeds.{FeedState, Hears, alive, joined, new_feed, with_taken}
use Rattle.row_feed.specs.Feeds as feeds

-- ---- what is made of rows

-- a part of what is made for a peer: the line of its next row, or one that says which row is next
pub data Part : Type 0 where
  Line : Part
  Alive : Part

-- the line of row n
abbrev pub line_at : List (List ℕ) → ℕ → List ℕ
line_at stored n = joined (take 1 (drop n stored))

-- what these parts come to, from row n on
abbrev pub text_from : List (List ℕ) → ℕ → List Part → List ℕ
text_from stored n [] = []
text_from stored n (Line ∷ parts) = line_at stored n ++ text_from stored (n + 1) parts
text_from stored n (Alive ∷ parts) = alive_line n ++ text_from stored n parts

-- the row that is next behind these parts, from row n on
abbrev pub next_behind : ℕ → List Part → ℕ
next_behind n [] = n
next_behind n (Line ∷ parts) = next_behind (n + 1) parts
next_behind n (Alive ∷ parts) = next_behind n parts

-- ---- a peer of a history

-- the lines of the rows that are stored, those of them that can be fed, a peer, what it has said,
-- and what it has taken
pub record Served : Type 0 where
  pub stored : List (List ℕ)
  pub fed : Last
  pub feed : FeedState
  pub said : List ℕ
  pub taken : List ℕ

-- what may be done: a row is stored; the peer says octets; lines are made for it, where chapters
-- begin with these rows; it is told which row is next; it takes so many octets
pub data Move : Type 0 where
  Stores : (time : Option (List ℕ)) (row : Row) → Move
  Says : (octets : List ℕ) → Move
  Makes : (starts : List ℕ) → Move
  Lives : Move
  Takes : (count : ℕ) → Move

abbrev pub with_feed : FeedState → Served → Served
with_feed feed s = record s { feed = feed }

-- what it leads to
abbrev pub IsAfter : Move → Served → Served → Type 0
IsAfter (Stores time r) s s' =
    s' ≡ record s { stored = s.stored ++ next_line time r s.fed ∷ []; fed = with_row time r s.fed }
IsAfter (Says octets) s s' =
    (feed : FeedState) × Hears s.fed.next octets s.feed feed
    × (s' ≡ record s { feed = feed; said = s.said ++ octets })
IsAfter (Makes starts) s s' =
    (feed : FeedState) × feeds.Makes starts s.fed s.feed feed × (s' ≡ with_feed feed s)
IsAfter Lives s s' = s' ≡ with_feed (alive s.feed) s
IsAfter (Takes n) s s' =
    s' ≡ record s { feed = with_taken n s.feed; taken = s.taken ++ take n s.feed.pending }

-- .. one after another
abbrev pub AreAfter : List Move → Served → Served → Type 0
AreAfter [] s s' = s' ≡ s
AreAfter (m ∷ ms) s s' = (mid : Served) × IsAfter m s mid × AreAfter ms mid s'

-- ---- the law

-- the lines that can be fed are those of the last stored rows
pub record AreLast (f : Last) (stored : List (List ℕ)) : Type 0 where
  pub few : length f.lines ≤ length stored
  pub next : f.next ≡ length stored
  pub last : f.lines ≡ drop (length stored - length f.lines) stored

-- a line asks for the rows from this one on
abbrev pub IsFor : List ℕ → ℕ → Type 0
IsFor line n = (line ≡ codes "from end") ⊎ (line ≡ codes "from " ++ decimal n)

-- what was made for a peer whose first line is this one: of the stored rows, from the one on that
-- it asks for, each line in its order, up to the row that is next
pub record IsFedTo (stored : List (List ℕ)) (line : List ℕ) (next : ℕ) (made : List ℕ)
    : Type 0 where
  pub from : ℕ
  pub asked : IsFor line from
  pub parts : List Part
  pub whole : made ≡ text_from stored from parts
  pub next_is : next ≡ next_behind from parts
  pub within : next ≤ length stored

-- nothing was made, or rows were
abbrev pub IsFedSome : List (List ℕ) → List ℕ → List ℕ → Type 0
IsFedSome stored line made = (made ≡ []) ⊎ ((next : ℕ) × IsFedTo stored line next made)

-- a peer that asks has said its line so far, and nothing was made for it; one that is fed has said
-- its line and a line feed, and its rows were made; behind a fault nothing is made any more
abbrev pub IsFed : Served → Stage → List ℕ → Type 0
IsFed s Asks made = (s.said ≡ s.feed.line) × (made ≡ [])
IsFed s (Follows next) made =
    ((rest : List ℕ) × (s.said ≡ s.feed.line ++ 10 ∷ rest))
    × IsFedTo s.stored s.feed.line next made
IsFed s Over made =
    (front : List ℕ) × (fault : FeedFault) × (made ≡ front ++ fault_line fault)
    × IsFedSome s.stored s.feed.line front

-- a peer is served: what it has taken and what is pending is what it was fed
pub record IsServed (s : Served) : Type 0 where
  pub last : AreLast s.fed s.stored
  pub fed : IsFed s s.feed.stage (s.taken ++ s.feed.pending)

-- a peer that has just come
abbrev pub served_new : List (List ℕ) → Last → Served
served_new stored fed =
    record { stored = stored; fed = fed; feed = new_feed; said = []; taken = [] }

-- a peer that comes while these rows are stored is served, over any moves
abbrev pub IsFedWhatItAskedFor : Type 0
IsFedWhatItAskedFor = (stored : List (List ℕ)) (fed : Last) (moves : List Move) (s : Served)
    → AreLast fed stored → AreAfter moves (served_new stored fed) s → IsServed s

-- a peer that was fed parts, and comes back for the row that is next, is fed on: both together are
-- what it would have been fed without the cut
abbrev pub GoesOnOverACut : Type 0
GoesOnOverACut = (stored : List (List ℕ)) (n : ℕ) (first second : List Part)
    → text_from stored n first ++ text_from stored (next_behind n first) second
    ≡ text_from stored n (first ++ second)
