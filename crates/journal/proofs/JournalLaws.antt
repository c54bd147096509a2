-- The laws of a journal.
use Rattle.std.proofs.Common.{◌≡◌, ℕ, Bool, true, false, List, [], ◌∷◌, ◌++◌, length, take, drop}
use Rattle.std.proofs.Common.{Option, Some, None, refl, sym, ap, ◌∙◌, append_assoc}
use Rattle.std.proofs.Common.{arith, inl, inr, subst}
use Rattle.std.specs.Prelude.{◌==◌, IfSome}
use Rattle.std.proofs.lemmas.Bool.{eqb-true}
use Rattle.std.proofs.lemmas.List.{take-append-drop, take_all}
use Rattle.site_base.specs.declared.actor.Actor.{Actor}
use Rattle.site_base.specs.declared.event.Event.{Event}
use Rattle.site_base.specs.declared.row.Row.{Row}
use Rattle.site_base.specs.Configured.{Configured}
use Rattle.kept_history.specs.KeptRows.{kept_rows}
use Rattle.kept_history.proofs.LeftOut.{left_out as reads_can_be_left_out}
use Rattle.written_site.specs.SiteRun.{IsLegal, events_of, site_of_rows}
use Rattle.written_site.specs.SiteState.{opening}
use Rattle.site_book.specs.Book.{Book}
use Rattle.station.specs.Runs.{opening_station}
use Rattle.station.proofs.Keeping.{books_keep}
use Rattle.chapters.specs.ChapterReading.{HistoryRead, nothing_read, read_from, read_lines}
use Rattle.chapters.specs.History.{IsMadeOf, rows_asked}
use Rattle.chapters.specs.Lines.{unfinished, whole_lines}
use Rattle.chapters.specs.HistoryEnds.{EndState}
use Rattle.chapters.specs.RowText.{kept_behind, kept_first}
use Rattle.chapters.specs.Times.{Rise, times_in}
use Rattle.chapters.proofs.Chapters.{lines_again}
use Rattle.chapters.proofs.Histories.{Grows, from_grows, grows_then, history_on, lines_front}
use Rattle.chapters.proofs.Histories.{lines_grow, lines_torn, texts_front}
use Rattle.chapters.proofs.Lines.{lines_both}
use Rattle.chapters.proofs.Made.{asked_again, asked_both}
use Rattle.journal.specs.Disks.{BeginsWith, DiskFile, GoesOn, Moment, OfFile, OfFiles, moment_of}
use Rattle.journal.specs.Laws.{BeginningsAreRead, BeginsWithRows, HistoriesAreMadeAgain}
use Rattle.journal.specs.Laws.{StampsRise, StationsRowsAreSent, StoredRowsAreFoundAgain}
use Rattle.journal.specs.Laws.{ToldRowsAreFoundAgain, WritesRising}
use Rattle.journal.specs.Lives.{end_of}
use Rattle.journal.specs.Readings.{TellsWhole, texts_of}
use Rattle.journal.specs.Stored.{GrowsByRound, HoldsRows, IsJournalOf, JournalState}
use Rattle.journal.specs.Stored.{has_stored}
use Rattle.journal.proofs.Lives.{goes_for_life, told_whole}
use Rattle.journal.proofs.Moves.{forgotten_are_sent, rows_are_sent}

-- ---- a station's rows

pub stations_rows_are_sent : StationsRowsAreSent
stations_rows_are_sent g b ms =
    books_keep rows_are_sent forgotten_are_sent ms (opening_station g b)

-- a legal history is made again of its requests
pub histories_are_made_again : HistoriesAreMadeAgain
histories_are_made_again config rows legal = asked_again (opening config) rows legal

-- ---- what is stored is found again

-- rows whose requests are the first of those of a book are its first rows
rows_first : (config : Configured) (rows : List Row) (b : Book)
    (events fs : List (Actor × Event)) → IsLegal (opening config) rows → b.config ≡ config
    → IsMadeOf b events → events ≡ events_of rows ++ fs → BeginsWithRows rows b
rows_first config rows b events fs legal same made parts =
    let first : List Row = rows_asked (opening config) (events_of rows) in
    let again : first ≡ rows = asked_again (opening config) rows legal in
    record {
      more = rows_asked (site_of_rows (opening config) first) fs;
      parts =
          made
          ∙ ap (λ (c : Configured). rows_asked (opening c) events) same
          ∙ ap (rows_asked (opening config)) parts
          ∙ asked_both (opening config) (events_of rows) fs
          ∙ ap (λ (rs : List Row). rs ++ rows_asked (site_of_rows (opening config) first) fs) again;
    }

-- what is read of chapters grows with the open one
front_grows : (site : List ℕ) (closed : List (List ℕ)) (front octets : List ℕ)
    (r s : HistoryRead) → read_from site 1 (closed ++ front ∷ []) nothing_read ≡ Some r
    → r.torn ≡ [] → BeginsWith front octets
    → read_from site 1 (closed ++ octets ∷ []) nothing_read ≡ Some s → Grows r s
front_grows site closed front octets r s read whole begins is =
    let on = history_on site closed front begins.rest r read whole in
    let same : read_from site 1 (closed ++ octets ∷ []) nothing_read
    ≡ read_lines (whole_lines begins.rest) (record r { torn = unfinished begins.rest }) =
    ap (λ (xs : List ℕ). read_from site 1 (closed ++ xs ∷ []) nothing_read) begins.parts ∙ on in
    let grows = lines_grow (whole_lines begins.rest)
    (record r { torn = unfinished begins.rest }) s (sym same ∙ is) in
    record { more = grows.more; events = grows.events; each = grows.each }

-- .. and with more chapters
all_grow : (site : List ℕ) (m n : Moment) (r s : HistoryRead)
    → read_from site 1 (texts_of m) nothing_read ≡ Some r → r.torn ≡ [] → GoesOn m n
    → read_from site 1 (texts_of n) nothing_read ≡ Some s → Grows r s
all_grow site m n r s read whole (inl same) is =
    front_grows site m.closed m.front n.front r s read whole same.front
    (ap (λ (ts : List (List ℕ)). read_from site 1 (ts ++ n.front ∷ []) nothing_read)
    (sym same.closed) ∙ is)
all_grow site m n r s read whole (inr since) is =
    let parts : texts_of n
    ≡ (m.closed ++ since.text ∷ []) ++ (since.more ++ n.front ∷ []) =
    ap (λ (ts : List (List ℕ)). ts ++ n.front ∷ []) since.closed
    ∙ append_assoc m.closed (since.text ∷ since.more) (n.front ∷ [])
    ∙ sym (append_assoc m.closed (since.text ∷ []) (since.more ++ n.front ∷ [])) in
    let split = texts_front site (m.closed ++ since.text ∷ []) (since.more ++ n.front ∷ []) s
    (ap (λ (ts : List (List ℕ)). read_from site 1 ts nothing_read) (sym parts) ∙ is) in
    grows_then r split.0 s
    (front_grows site m.closed m.front since.text r split.0 read whole since.front split.1)
    (from_grows site _ (since.more ++ n.front ∷ []) split.0 s split.2)

-- what is new goes on from nothing that was read
none_new : (site : List ℕ) (m n : Moment) (events : List (Actor × Event))
    → TellsWhole site m events → GoesOn m n → n.closed ≡ [] → n.front ≡ [] → ⊥
none_new site m n events tells (inl same) closed front =
    let nothing : m.front ≡ [] = no_front m.front _ (sym same.front.parts ∙ front) in
    let is : Some tells.tells.reading ≡ None =
    sym tells.tells.read
    ∙ ap (λ (ts : List (List ℕ)). read_from site 1 (ts ++ m.front ∷ []) nothing_read)
    (sym same.closed ∙ closed)
    ∙ ap (λ (xs : List ℕ). read_from site 1 (xs ∷ []) nothing_read) nothing in
    cc is
  where
    no_front : (a b : List ℕ) → a ++ b ≡ [] → a ≡ []
    no_front [] b is = refl
    no_front (x ∷ a) b is = absurd (cc is)
none_new site m n events tells (inr since) closed front =
    no_text m.closed since.text since.more (sym since.closed ∙ closed)
  where
    no_text : (a : List (List ℕ)) (t : List ℕ) (b : List (List ℕ)) → a ++ t ∷ b ≡ [] → ⊥
    no_text [] t b is = cc is
    no_text (x ∷ a) t b is = cc is

pub stored_rows_are_found_again : StoredRowsAreFoundAgain
stored_rows_are_found_again site m n config rows b legal same tells goes (inl begun) =
    absurd (none_new site m n (events_of rows) tells goes begun.new.closed begun.new.front)
stored_rows_are_found_again site m n config rows b legal same tells goes (inr back) =
    let grows = all_grow site m n tells.tells.reading back.tells.reading tells.tells.read
    tells.whole goes back.tells.read in
    rows_first config rows b back.events grows.more legal same back.made
    (sym back.tells.told ∙ grows.events
    ∙ ap (λ (es : List (Actor × Event)). es ++ grows.more) tells.tells.told)

-- ---- what is told

pub holds_all : (rows : List Row) (j : JournalState) (f : DiskFile) → IsJournalOf rows j
    → (j.stored == length rows) ≡ true → j.file ≡ Some f
    → HoldsRows j.site (kept_rows rows) j.failed j.end f
holds_all rows j f is all there =
    let whole : take j.stored rows ≡ rows =
    take_all j.stored rows
    (let size = eqb-true j.stored (length rows) all in omega (arith, size)) in
    subst (λ (rs : List Row). HoldsRows j.site (kept_rows rs) j.failed j.end f) whole
    (subst (OfFile (HoldsRows j.site (kept_first j.stored rows) j.failed j.end)) there is.holds)

pub told_rows_are_found_again : ToldRowsAreFoundAgain
told_rows_are_found_again s j f life b stored has there told lives same read =
    let rows = s.station.book.rows in
    let is : IsJournalOf rows j =
    subst (λ (o : Option JournalState). IfSome o (IsJournalOf rows)) has stored.journal in
    let all : has_stored (length rows) (Some j) ≡ true =
    ap (has_stored (length rows)) (sym has) ∙ told in
    let holds = holds_all rows j f is all there in
    let config = s.station.book.config in
    let enough = reads_can_be_left_out (opening config) rows stored.legal in
    stored_rows_are_found_again j.site holds.at (end_of (moment_of f) life) config
    (kept_rows rows) b enough.legal same holds.tells
    (goes_for_life holds.at (told_whole j.site holds.at _ holds.tells) (moment_of f) life
    holds.there lives) read

-- ---- beginnings

pub beginnings_are_read : BeginningsAreRead
beginnings_are_read site m told more text n t whole nothing =
    let r = t.tells.reading in
    let front : List ℕ = take n text in
    let begun : HistoryRead = record r { torn = unfinished front } in
    let cut : whole_lines text ≡ whole_lines front ++ _ =
    ap whole_lines (sym (take-append-drop n text)) ∙ lines_both [] front (drop n text) in
    let all : read_lines (whole_lines text) (record r { torn = unfinished text })
    ≡ Some whole.tells.reading =
    sym (history_on site m.closed m.front text r t.tells.read t.whole) ∙ whole.tells.read in
    let some = lines_front (whole_lines front) _ begun _
    (ap (λ (ls : List (List ℕ)). read_lines ls begun) (sym cut)
    ∙ lines_torn (whole_lines text) (unfinished front) _ _ all) in
    nothing.untold some.0.events (record {
      reading = some.0;
      read = history_on site m.closed m.front front r t.tells.read t.whole ∙ some.1;
      told = refl;
    })

-- ---- times

rising : (site : List ℕ) (rows more : List Row) (now : Option (List ℕ)) (e : EndState)
    (old new : DiskFile) → HoldsRows site rows false e old
    → GrowsByRound e.time now more old new → WritesRising site old new
rising site rows more now e old new holds grown =
    let settled = holds.settled refl in
    let r = holds.tells.tells.reading in
    let lines : whole_lines grown.text ≡ grown.round.lines =
    ap whole_lines grown.round.is ∙ lines_again grown.round.lines grown.round.plain in
    record {
      text = grown.text;
      grows = grown.grows;
      rises = record {
        reading = r;
        read =
            ap (λ (ts : List (List ℕ)). read_from site 1 (ts ++ old.octets ∷ []) nothing_read)
            settled.closed
            ∙ ap (λ (xs : List ℕ). read_from site 1 (holds.at.closed ++ xs ∷ []) nothing_read)
            settled.open_one.octets
            ∙ holds.tells.tells.read;
        last = grown.round.behind;
        rises =
            subst (λ (ls : List (List ℕ)). Rise r.time (times_in ls) grown.round.behind)
            (sym lines)
            (subst (λ (t : Option (List ℕ)). Rise t (times_in grown.round.lines)
            grown.round.behind) settled.time grown.round.rises);
      };
    }

pub stamps_rise : StampsRise
stamps_rise rows a b old new is whole before behind grown =
    rising a.site (kept_first a.stored rows) (kept_behind a.stored rows) a.clock a.end old new
    (subst (OfFile (HoldsRows a.site (kept_first a.stored rows) false a.end)) before
    (subst (λ (failed : Bool).
    OfFile (HoldsRows a.site (kept_first a.stored rows) failed a.end) a.file) whole is.holds))
    (subst (λ (f : Option DiskFile). OfFiles
    (GrowsByRound a.end.time a.clock (kept_behind a.stored rows)) f (Some new)) before
    (subst (OfFiles (GrowsByRound a.end.time a.clock (kept_behind a.stored rows)) a.file) behind
    grown))
