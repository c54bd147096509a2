-- Why a peer is fed nothing more.
use Rattle.std.specs.Prelude.{ℕ, ◌==◌, List, ◌++◌, codes, count_by, decimal, if◌then◌else◌, nat_le}
use Rattle.serde_json.specs.Data.{Data, object, member, no_members, number, string, unsigned}
use Rattle.serde_json.specs.Written.{compact_text}
use Rattle.row_feed.specs.declared.fault.FeedFault.{FeedFault}
use Rattle.row_feed.specs.declared.fault.FeedFault.TheVariants.{NoFrom, Ahead, InChapter, Forgotten}

-- the number of the chapter in which a row is: so many begin with it, or with an earlier one
abbrev pub chapter_of : List ℕ → ℕ → ℕ
chapter_of starts row = count_by (λ start. nat_le start row) starts

-- what is wrong, in words
abbrev pub fault_text : FeedFault → List ℕ
fault_text NoFrom = codes "a feed begins with a line: from N, or from end"
fault_text (Ahead n next) =
    codes "row "
    ++ (decimal n ++ (codes " isn't there: row " ++ (decimal next ++ codes " is next")))
fault_text (InChapter n chapter) =
    codes "row " ++ (decimal n ++ (codes " is in chapter " ++ decimal chapter))
fault_text (Forgotten n) = codes "row " ++ (decimal n ++ codes " isn't in memory any more")

-- it as JSON
abbrev pub fault_data : FeedFault → Data
fault_data f = object (member (codes "fault") (string (fault_text f)) no_members)

-- the number of the next row as JSON
abbrev pub alive_data : ℕ → Data
alive_data n = object (member (codes "alive") (number (unsigned n)) no_members)

-- the line that says why a peer is fed nothing more
abbrev pub fault_line : FeedFault → List ℕ
fault_line f = compact_text (fault_data f) ++ codes "\n"

-- the line that says which row is next
abbrev pub alive_line : ℕ → List ℕ
alive_line n = compact_text (alive_data n) ++ codes "\n"

-- why a row that can't be fed any more isn't, where chapters begin with these rows: it is in one of
-- them, if there are any
abbrev pub forgotten_fault : List ℕ → ℕ → FeedFault
forgotten_fault starts n =
    if chapter_of starts n == 0 then Forgotten n else InChapter n (chapter_of starts n)
