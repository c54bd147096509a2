-- What is read of chapters: their requests. Each chapter has to go on from the one before, and each
-- seal to be the one of what it covers.
use Rattle.std.specs.Prelude.{ℕ, suc, Bool, true, false, ◌&&◌, ◌==◌, List, [], ◌∷◌, ◌++◌, drop}
use Rattle.std.specs.Prelude.{length, Option, Some, None, codes, if◌then◌else◌}
use Rattle.std.specs.List.{starts_with}
use Rattle.site_base.specs.declared.actor.Actor.{Actor}
use Rattle.site_base.specs.declared.event.Event.{Event}
use Rattle.stamps.specs.Stamps.{time_after}
use Rattle.chapters.specs.Lines.{request_in, unfinished, whole_lines}
use Rattle.chapters.specs.ChapterText.{first_lines, no_seal, seal_line, seal_mark, seal_of}
use Rattle.chapters.specs.ChapterText.{text_of_lines}

-- read so far: the last seal, the lines behind it, the octets behind the last line feed of the last
-- chapter, the last time that was told, and the requests of all rows
pub record HistoryRead : Type 0 where
  pub seal : List ℕ
  pub unsealed : List (List ℕ)
  pub torn : List ℕ
  pub time : Option (List ℕ)
  pub events : List (Actor × Event)

-- nothing is read
abbrev pub nothing_read : HistoryRead
nothing_read = record { seal = no_seal; unsealed = []; torn = []; time = None; events = [] }

-- ---- a line

-- the line is of a seal
abbrev pub is_of_seal : List ℕ → Bool
is_of_seal line = starts_with (λ a b. a == b) line seal_mark

-- .. and it is just this one
abbrev pub is_same_line : List ℕ → List ℕ → Bool
is_same_line right line = (length line == length right) && starts_with (λ a b. a == b) line right

-- .. which is that of what it covers
abbrev pub is_right_seal : List ℕ → HistoryRead → Bool
is_right_seal line r = is_same_line (seal_line (seal_of r.seal r.unsealed)) line

-- with its seal, behind which nothing stands yet
abbrev pub with_seal : HistoryRead → HistoryRead
with_seal r = record r { seal = seal_of r.seal r.unsealed; unsealed = [] }

abbrev pub sealed_by : Bool → HistoryRead → Option HistoryRead
sealed_by true r = Some (with_seal r)
sealed_by false r = None

abbrev pub with_line : List ℕ → HistoryRead → HistoryRead
with_line line r = record r { unsealed = r.unsealed ++ line ∷ [] }

abbrev pub add_request : Option (Actor × Event) → List ℕ → HistoryRead → Option HistoryRead
add_request None line r = None
add_request (Some e) line r = Some (record (with_line line r) { events = r.events ++ e ∷ [] })

-- the line says nothing of rows
abbrev pub is_comment : List ℕ → Bool
is_comment line = starts_with (λ a b. a == b) line (codes "#")

-- with a comment, which may tell a time
abbrev pub with_comment : List ℕ → HistoryRead → HistoryRead
with_comment line r = record (with_line line r) { time = time_after line r.time }

-- a line that is no seal: a comment says nothing of rows, and any other is a request whose row is
-- kept
abbrev pub read_text : List ℕ → HistoryRead → Option HistoryRead
read_text line r =
    if is_comment line then Some (with_comment line r) else add_request (request_in line) line r

-- a line is read: a seal has to be right
abbrev pub read_line : List ℕ → HistoryRead → Option HistoryRead
read_line line r =
    if is_of_seal line then sealed_by (is_right_seal line r) r else read_text line r

abbrev pub and_then : Option HistoryRead → (HistoryRead → Option HistoryRead) → Option HistoryRead
and_then None next = None
and_then (Some r) next = next r

-- lines are read, one after another
abbrev pub read_lines : List (List ℕ) → HistoryRead → Option HistoryRead
read_lines [] r = Some r
read_lines (line ∷ lines) r = and_then (read_line line r) (read_lines lines)

-- ---- a chapter

abbrev pub is_none_left : HistoryRead → Bool
is_none_left r = (length r.unsealed == 0) && (length r.torn == 0)

-- a chapter of this number is read: the one before ended with a seal, and its own first lines name
-- it, the site, and that seal. Its first seal covers these lines too. Octets behind its last line
-- feed are none of its lines
abbrev pub read_chapter : List ℕ → ℕ → List ℕ → HistoryRead → Option HistoryRead
read_chapter site n text r =
    let lines = first_lines site n r.seal in
    let first = text_of_lines lines in
    let rest = drop (length first) text in
    if is_none_left r && starts_with (λ a b. a == b) text first
    then read_lines (whole_lines rest) (record r { unsealed = lines; torn = unfinished rest })
    else None

-- chapters are read, from this number on
abbrev pub read_from : List ℕ → ℕ → List (List ℕ) → HistoryRead → Option HistoryRead
read_from site n [] r = Some r
read_from site n (text ∷ texts) r =
    and_then (read_chapter site n text r) (read_from site (suc n) texts)

-- the texts of a history's chapters are read: there is one at least
abbrev pub read_history : List ℕ → List (List ℕ) → Option HistoryRead
read_history site [] = None
read_history site (text ∷ texts) = read_from site 1 (text ∷ texts) nothing_read
