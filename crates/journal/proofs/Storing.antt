-- What storing rows makes of a journal's disk.
use Rattle.std.proofs.Common.{◌≡◌, ℕ, ◌+◌, true, false, List, [], ◌++◌, length, drop, Option}
use Rattle.std.proofs.Common.{Some, None, refl, sym, ap, ◌∙◌, append-nil, arith, subst, inl}
use Rattle.std.specs.Prelude.{Bool, ◌≤◌}
use Rattle.std.proofs.lemmas.List.{take_all}
use Rattle.std.proofs.Math.Seq.{drop-length}
use Rattle.site_base.specs.declared.actor.Actor.{Actor}
use Rattle.site_base.specs.declared.event.Event.{Event}
use Rattle.site_base.specs.declared.row.Row.{Row}
use Rattle.device_map.specs.Laws.{AsksFor}
use Rattle.kept_history.specs.KeptRows.{kept_rows}
use Rattle.written_site.specs.SiteRun.{events_of}
use Rattle.chapters.specs.ChapterReading.{HistoryRead, read_lines}
use Rattle.chapters.specs.HistoryEnds.{EndState, EndsAt}
use Rattle.chapters.specs.Lines.{unfinished, whole_lines}
use Rattle.chapters.specs.Rounds.{Writes, WritesOn, WritesRound, round_lines}
use Rattle.chapters.specs.RowText.{CanBeSpelled, kept_behind, kept_first, row_request}
use Rattle.chapters.specs.Times.{Rise, times_in}
use Rattle.chapters.proofs.Chapters.{lines_again}
use Rattle.chapters.proofs.Histories.{history_on}
use Rattle.chapters.proofs.Kept.{kept_parts}
use Rattle.chapters.proofs.Lists.{all_both}
use Rattle.chapters.proofs.Reading.{lines_keep_torn}
use Rattle.chapters.proofs.ReadingChapters.{none_torn}
use Rattle.chapters.proofs.Requests.{events_both}
use Rattle.journal.specs.Disks.{Appends, DiskFile, Keeps, Moment, OfFile, OfFiles, Syncs, moment_of}
use Rattle.journal.specs.Readings.{TellsWhole}
use Rattle.journal.specs.Stored.{GrowsByLines, GrowsByRound, HoldsRows, IsJournalOf, JournalState}
use Rattle.journal.proofs.Fronts.{goes_then}

-- chapters that tell rows, with what is written of more rows behind them
pub record TellsMore (site : List ℕ) (m : Moment) (rows more : List Row) (r : HistoryRead)
    (n : ℕ) (e : EndState) : Type 0 where
  pub tells : TellsWhole site m (events_of (rows ++ more))
  pub ends : EndsAt n tells.tells.reading.seal tells.tells.reading.unsealed e
  pub time : e.time ≡ tells.tells.reading.time

pub tells_more : (site : List ℕ) (m : Moment) (text : List ℕ) (said : List (List ℕ))
    (rows more : List Row) (n : ℕ) (e d : EndState) (t : TellsWhole site m (events_of rows))
    → Writes said more n t.tells.reading e d [] text → e.time ≡ t.tells.reading.time
    → TellsMore site (record m { front = m.front ++ text }) rows more t.tells.reading n d
tells_more site m text said rows more n e d t w known =
    let r = t.tells.reading in
    let lines : whole_lines text ≡ w.lines =
    ap whole_lines w.grows ∙ lines_again w.lines w.plain in
    let none : unfinished text ≡ [] = ap unfinished w.grows ∙ none_torn w.lines in
    let same : record r { torn = unfinished text } ≡ r =
    ap (λ (torn : List ℕ). record r { torn = torn }) (none ∙ sym t.whole) in
    record {
      tells = record {
        tells = record {
          reading = w.reading;
          read =
              history_on site m.closed m.front text r t.tells.read t.whole
              ∙ ap (λ (x : HistoryRead). read_lines (whole_lines text) x) same
              ∙ ap (λ (ls : List (List ℕ)). read_lines ls r) lines ∙ w.read;
          told =
              w.told ∙ ap (λ (es : List (Actor × Event)). es ++ events_of more) t.tells.told
              ∙ sym (events_both rows more);
        };
        whole = lines_keep_torn w.lines r w.reading w.read ∙ t.whole;
      };
      ends = w.ends;
      time = w.time known;
    }

-- ---- the lines that are written

-- a round was written, of these rows
grown : (said : List (List ℕ)) (last now : Option (List ℕ)) (more : List Row) (n : ℕ)
    (r : HistoryRead) (e d : EndState) (text : List ℕ) (a b c : DiskFile)
    → said ≡ round_lines last now more → e.time ≡ last → Writes said more n r e d [] text
    → Appends text a b → Syncs b c → GrowsByRound last now more a c
grown said last now more n r e d text a b c is same w wrote synced = record {
  text = text;
  round = record {
    lines = w.lines;
    is = w.grows;
    plain = w.plain;
    says = w.says ∙ is;
    behind = d.time;
    rises = subst (λ (t : Option (List ℕ)). Rise t (times_in w.lines) d.time) same w.rises;
  };
  grows = record {
    closed = synced.closed ∙ wrote.0.closed;
    octets = synced.octets ∙ wrote.0.octets;
  };
}

grown_file : (site text : List ℕ) (rows more : List Row) (now : Option (List ℕ)) (e d : EndState)
    (a b c : Option DiskFile) → OfFile (HoldsRows site rows false e) a
    → WritesRound now more e d [] text → OfFiles (Appends text) a b → OfFiles Syncs b c
    → OfFiles (GrowsByRound e.time now more) a c
grown_file site text rows more now e d None None None holds writes wrote synced = tt
grown_file site text rows more now e d (Some a) (Some b) (Some c) holds writes wrote synced =
    let settled = holds.settled refl in
    grown (round_lines e.time now more) e.time now more (length holds.at.closed + 1)
    holds.tells.tells.reading e d text a b c refl refl
    (writes (length holds.at.closed + 1) holds.tells.tells.reading settled.ends) wrote synced
grown_file site text rows more now e d None None (Some c) holds writes wrote synced =
    absurd synced
grown_file site text rows more now e d None (Some b) c holds writes wrote synced = absurd wrote
grown_file site text rows more now e d (Some a) None c holds writes wrote synced = absurd wrote
grown_file site text rows more now e d (Some a) (Some b) None holds writes wrote synced =
    absurd synced

-- the rows that weren't stored were written and synced
pub lines_written : (rows : List Row) (j : JournalState) (text : List ℕ) (d : EndState)
    (b c : Option DiskFile) → IsJournalOf rows j → j.failed ≡ false
    → WritesRound j.clock (kept_behind j.stored rows) j.end d [] text
    → OfFiles (Appends text) j.file b → OfFiles Syncs b c
    → OfFiles (GrowsByRound j.end.time j.clock (kept_behind j.stored rows)) j.file c
lines_written rows j text d b c is whole writes wrote synced =
    grown_file j.site text (kept_first j.stored rows) (kept_behind j.stored rows) j.clock j.end d
    j.file b c
    (subst (λ (failed : Bool).
    OfFile (HoldsRows j.site (kept_first j.stored rows) failed j.end) j.file) whole is.holds)
    writes wrote synced

-- .. or there are none
grown_none : (last now : Option (List ℕ)) (more : List Row) (a : Option DiskFile) → more ≡ []
    → OfFiles (GrowsByRound last now more) a a
grown_none last now more None is = tt
grown_none last now more (Some a) is = record {
  text = [];
  round = record {
    lines = [];
    is = refl;
    plain = tt;
    says = ap (round_lines last now) (sym is);
    behind = last;
    rises = refl;
  };
  grows = record { closed = refl; octets = sym (append-nil a.octets) };
}

pub lines_none : (rows : List Row) (j k : JournalState) → kept_behind j.stored rows ≡ []
    → k.file ≡ j.file → GrowsByLines rows j k
lines_none rows j k none is =
    subst (λ (f : Option DiskFile).
    OfFiles (GrowsByRound j.end.time j.clock (kept_behind j.stored rows)) j.file f) (sym is)
    (grown_none j.end.time j.clock (kept_behind j.stored rows) j.file none)

-- behind the last row there are none
pub none_left : (rows : List Row) (j : JournalState) → j.stored ≡ length rows
    → kept_behind j.stored rows ≡ []
none_left rows j all = ap kept_rows (ap (λ (n : ℕ). drop n rows) all ∙ drop-length rows)

-- ---- what it holds

-- what is on the disk stays, where a write may have failed
failed_holds : (site : List ℕ) (rows : List Row) (failed : Bool) (e : EndState) (a b : DiskFile)
    → HoldsRows site rows failed e a → Keeps a b → HoldsRows site rows true e b
failed_holds site rows failed e a b holds keeps = record {
  at = holds.at;
  tells = holds.tells;
  there = goes_then holds.at (moment_of a) (moment_of b) holds.there keeps.last;
  settled = λ never. absurd (let no : true ≡ false = never in cc);
}

failed_file : (site : List ℕ) (rows : List Row) (failed : Bool) (e : EndState)
    (a b : Option DiskFile) → OfFile (HoldsRows site rows failed e) a → OfFiles Keeps a b
    → OfFile (HoldsRows site rows true e) b
failed_file site rows failed e None None holds keeps = tt
failed_file site rows failed e (Some a) (Some b) holds keeps =
    failed_holds site rows failed e a b holds keeps
failed_file site rows failed e None (Some b) holds keeps = absurd keeps
failed_file site rows failed e (Some a) None holds keeps = absurd keeps

broken_file : (site : List ℕ) (rows : List Row) (failed : Bool) (e d : EndState)
    (a b : Option DiskFile) → OfFile (HoldsRows site rows failed e) a → OfFiles Keeps a b
    → OfFile (HoldsRows site rows true d) b
broken_file site rows failed e d None None holds keeps = tt
broken_file site rows failed e d (Some a) (Some b) holds keeps = record {
  at = holds.at;
  tells = holds.tells;
  there = goes_then holds.at (moment_of a) (moment_of b) holds.there keeps.last;
  settled = λ never. absurd (let no : true ≡ false = never in cc);
}
broken_file site rows failed e d None (Some b) holds keeps = absurd keeps
broken_file site rows failed e d (Some a) None holds keeps = absurd keeps

-- a journal of which a write may have failed
pub journal_failed : (rows : List Row) (j : JournalState) (b : Option DiskFile)
    → IsJournalOf rows j → OfFiles Keeps j.file b
    → IsJournalOf rows (record j { failed = true; file = b })
journal_failed rows j b is keeps = record {
  few = is.few;
  spelled = is.spelled;
  holds = failed_file j.site (kept_first j.stored rows) j.failed j.end j.file b is.holds keeps;
}

-- .. wherever its text ended since
pub journal_broken : (rows : List Row) (j : JournalState) (d : EndState) (b : Option DiskFile)
    → IsJournalOf rows j → OfFiles Keeps j.file b
    → IsJournalOf rows (record j { failed = true; end = d; file = b })
journal_broken rows j d b is keeps = record {
  few = is.few;
  spelled = is.spelled;
  holds = broken_file j.site (kept_first j.stored rows) j.failed j.end d j.file b is.holds keeps;
}

-- a round was written behind others, and synced
stored_holds : (site text : List ℕ) (said : List (List ℕ)) (rows more : List Row)
    (e d : EndState) (a b c : DiskFile) → HoldsRows site rows false e a
    → WritesOn said more e d [] text → Appends text a b → Syncs b c
    → HoldsRows site (rows ++ more) false d c
stored_holds site text said rows more e d a b c holds writes wrote synced =
    let settled = holds.settled refl in
    let n : ℕ = length holds.at.closed + 1 in
    let t = tells_more site holds.at text said rows more n e d holds.tells
    (writes n holds.tells.tells.reading settled.ends) settled.time in
    let octets : c.octets ≡ holds.at.front ++ text =
    synced.octets ∙ wrote.0.octets ∙ ap (λ (xs : List ℕ). xs ++ text) settled.open_one.octets in
    let sound : b.sound ≡ true = wrote.1 ∙ settled.open_one.sound in
    let all : c.synced ≡ holds.at.front ++ text =
    synced.synced sound ∙ sym synced.octets ∙ octets in
    let closed : c.closed ≡ holds.at.closed =
    synced.closed ∙ wrote.0.closed ∙ settled.closed in
    record {
      at = record holds.at { front = holds.at.front ++ text };
      tells = t.tells;
      there = inl (record {
        closed = closed;
        front = record { rest = []; parts = all ∙ sym (append-nil (holds.at.front ++ text)) };
      });
      settled = λ never. record {
        closed = closed;
        open_one = record { octets = octets; synced = all; sound = synced.sound ∙ sound };
        ends = t.ends;
        time = t.time;
      };
    }

stored_file : (site text : List ℕ) (said : List (List ℕ)) (rows more : List Row)
    (e d : EndState) (a b c : Option DiskFile) → OfFile (HoldsRows site rows false e) a
    → WritesOn said more e d [] text → OfFiles (Appends text) a b → OfFiles Syncs b c
    → OfFile (HoldsRows site (rows ++ more) false d) c
stored_file site text said rows more e d None None None holds writes wrote synced = tt
stored_file site text said rows more e d (Some a) (Some b) (Some c) holds writes wrote synced =
    stored_holds site text said rows more e d a b c holds writes wrote synced
stored_file site text said rows more e d None None (Some c) holds writes wrote synced =
    absurd synced
stored_file site text said rows more e d None (Some b) c holds writes wrote synced = absurd wrote
stored_file site text said rows more e d (Some a) None c holds writes wrote synced = absurd wrote
stored_file site text said rows more e d (Some a) (Some b) None holds writes wrote synced =
    absurd synced

-- all rows are those that were stored, and those behind them
all_kept : (rows : List Row) (n count : ℕ) → count ≡ length rows
    → kept_first n rows ++ kept_behind n rows ≡ kept_first count rows
all_kept rows n count all =
    sym (kept_parts n rows)
    ∙ ap kept_rows (sym (take_all count rows (omega (arith, all))))

-- a journal that has stored all rows
pub journal_stored : (rows : List Row) (j : JournalState) (text : List ℕ) (said : List (List ℕ))
    (d : EndState) (b c : Option DiskFile) (count : ℕ) → IsJournalOf rows j → j.failed ≡ false
    → WritesOn said (kept_behind j.stored rows) j.end d [] text
    → CanBeSpelled (kept_behind j.stored rows) → OfFiles (Appends text) j.file b
    → OfFiles Syncs b c → count ≡ length rows
    → IsJournalOf rows (record j { stored = count; failed = false; end = d; file = c })
journal_stored rows j text said d b c count is whole writes spelled wrote synced all =
    let holds =
    subst (λ (failed : Bool).
    OfFile (HoldsRows j.site (kept_first j.stored rows) failed j.end) j.file) whole is.holds in
    let file = stored_file j.site text said (kept_first j.stored rows) (kept_behind j.stored rows)
    j.end d j.file b c holds writes wrote synced in
    let same = all_kept rows j.stored count all in
    record {
      few = omega (arith, all);
      spelled = subst CanBeSpelled same
          (all_both (λ (r : Row). AsksFor 0 r.actor r.event (row_request r))
          (kept_first j.stored rows) (kept_behind j.stored rows) is.spelled spelled);
      holds = subst (λ (rs : List Row). OfFile (HoldsRows j.site rs false d) c) same file;
    }

-- .. where only reads were left
pub journal_quiet : (rows : List Row) (j : JournalState) (count : ℕ) → IsJournalOf rows j
    → kept_behind j.stored rows ≡ [] → count ≡ length rows
    → IsJournalOf rows (record j { stored = count })
journal_quiet rows j count is none all =
    let same : kept_first j.stored rows ≡ kept_first count rows =
    sym (append-nil (kept_first j.stored rows))
    ∙ ap (λ (rs : List Row). kept_first j.stored rows ++ rs) (sym none)
    ∙ all_kept rows j.stored count all in
    record {
      few = omega (arith, all);
      spelled = subst CanBeSpelled same is.spelled;
      holds =
          subst (λ (rs : List Row). OfFile (HoldsRows j.site rs j.failed j.end) j.file) same
          is.holds;
    }

-- .. also where its end was looked at
pub journal_kept : (rows : List Row) (j : JournalState) (count : ℕ) (d : EndState)
    → IsJournalOf rows j → j.failed ≡ false → d ≡ j.end → kept_behind j.stored rows ≡ []
    → count ≡ length rows → IsJournalOf rows (record j { stored = count; failed = false; end = d })
journal_kept rows j count d is whole same none all =
    subst (λ (e : EndState). IsJournalOf rows (record j { stored = count; failed = false; end = e }))
    (sym same)
    (subst (λ (failed : Bool). IsJournalOf rows (record j { stored = count; failed = failed }))
    whole (journal_quiet rows j count is none all))

pub some_text : (text : List ℕ) → 1 ≤ length text → text ≡ [] → ⊥
some_text text some none = let size = ap length none in omega (arith, some, size)
