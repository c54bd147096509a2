-- A peer that is fed rows: what each call makes of it.
use Rattle.std.specs.Prelude.{◌≡◌, ℕ, ◌+◌, ◌<◌, ◌≤◌, ◌==◌, Bool, true, false, List, [], ◌∷◌}
use Rattle.std.specs.Prelude.{◌++◌, ◌⊎◌, length}
use Rattle.std.specs.Prelude.{drop, flat_map, nat_le, nat_lt, take, Option, Some, None}
use Rattle.std.specs.Prelude.{if◌then◌else◌}
use Rattle.row_feed.specs.declared.fault.FeedFault.{FeedFault}
use Rattle.row_feed.specs.declared.fault.FeedFault.TheVariants.{Ahead, NoFrom}
use Rattle.row_feed.specs.declared.sizes.TheConstants.{FEED_OCTETS, LINE_OCTETS}
use Rattle.row_feed.specs.declared.stage.Stage.{Stage}
use Rattle.row_feed.specs.declared.stage.Stage.TheVariants.{Asks, Follows, Over}
use Rattle.row_json.specs.LastRows.{Last, first_of, lines_from}
use Rattle.row_feed.specs.FeedFaults.{alive_line, fault_line, forgotten_fault}
use Rattle.row_feed.specs.FirstLines.{AsksFrom}

-- how far a peer has come, what it has sent of its first line, and what was made for it and not
-- taken yet
pub record FeedState : Type 0 where
  pub stage : Stage
  pub line : List ℕ
  pub pending : List ℕ

-- a peer that has sent nothing
abbrev pub new_feed : FeedState
new_feed = record { stage = Asks; line = []; pending = [] }

-- its row n is next
abbrev pub following : ℕ → FeedState → FeedState
following n s = record s { stage = Follows n }

-- it is told why it is fed nothing more
abbrev pub with_fault : FeedFault → FeedState → FeedState
with_fault f s = record s { stage = Over; pending = s.pending ++ fault_line f }

-- what it asked for is answered, where row `next` is next: it is fed from a row on that there is,
-- or from the next one on
abbrev pub answered : ℕ → Option ℕ → FeedState → FeedState
answered next None s = with_fault NoFrom s
answered next (Some n) s = if nat_le n next then following n s else with_fault (Ahead n next) s

-- one octet more of the first line of a peer; one whose line is too long is fed nothing
abbrev pub with_octet : ℕ → FeedState → FeedState
with_octet b s =
    if nat_lt (length s.line) LINE_OCTETS then record s { line = s.line ++ b ∷ [] }
    else with_fault NoFrom s

-- an octet of a peer that asks: the line feed behind its first line, or not
abbrev pub AsksBy : Bool → ℕ → ℕ → FeedState → FeedState → Type 0
AsksBy true next b s s' =
    (asked : Option ℕ) × AsksFrom next s.line asked × (s' ≡ answered next asked s)
AsksBy false next b s s' = s' ≡ with_octet b s

abbrev pub AsksOctet : ℕ → ℕ → FeedState → FeedState → Type 0
AsksOctet next b s s' = AsksBy (b == 10) next b s s'

-- an octet: what stands behind the first line is passed over
abbrev pub HearsOctet : ℕ → ℕ → FeedState → FeedState → Type 0
HearsOctet next b s s' = by s.stage
  where
    by : Stage → Type 0
    by Asks = AsksOctet next b s s'
    by stage = s' ≡ s

-- octets, one after another
abbrev pub Hears : ℕ → List ℕ → FeedState → FeedState → Type 0
Hears next [] s s' = s' ≡ s
Hears next (b ∷ bs) s s' = (mid : FeedState) × HearsOctet next b s mid × Hears next bs mid s'

-- these lines, one after another
abbrev pub joined : List (List ℕ) → List ℕ
joined lines = flat_map (λ line. line) lines

-- of these lines as many are made as fit: so many, and the next one, if there is one, doesn't fit
pub record AreMade (lines : List (List ℕ)) (count : ℕ) (text : List ℕ) : Type 0 where
  pub within : count ≤ length lines
  pub whole : text ≡ joined (take count lines)
  pub fit : length text ≤ FEED_OCTETS
  pub most : (count ≡ length lines) ⊎ (FEED_OCTETS < length (joined (take (count + 1) lines)))

-- lines are made for a peer whose row n is next, and can be fed or not: those of the rows from this
-- one on; or it is told that it isn't in memory any more, where chapters begin with these rows
abbrev pub MakesBy : Bool → List ℕ → Last → ℕ → FeedState → FeedState → Type 0
MakesBy true starts f n s s' =
    (count : ℕ) × (text : List ℕ) × AreMade (lines_from n f) count text
    × (s' ≡ record s { stage = Follows (n + count); pending = text })
MakesBy false starts f n s s' = s' ≡ with_fault (forgotten_fault starts n) s

abbrev pub MakesFrom : List ℕ → Last → ℕ → FeedState → FeedState → Type 0
MakesFrom starts f n s s' = MakesBy (nat_le (first_of f) n) starts f n s s'

-- .. for a peer that is fed, and has taken all
abbrev pub Makes : List ℕ → Last → FeedState → FeedState → Type 0
Makes starts f s s' = by s.stage s.pending
  where
    by : Stage → List ℕ → Type 0
    by (Follows n) [] = MakesFrom starts f n s s'
    by stage pending = s' ≡ s

-- a peer that is fed, and has taken all, is told which row is next
abbrev pub alive : FeedState → FeedState
alive s = by s.stage s.pending
  where
    by : Stage → List ℕ → FeedState
    by (Follows n) [] = record s { pending = alive_line n }
    by stage pending = s

-- so many octets were taken
abbrev pub with_taken : ℕ → FeedState → FeedState
with_taken n s = record s { pending = drop n s.pending }
