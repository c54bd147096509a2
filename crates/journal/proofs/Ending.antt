-- What the end of a chapter makes of a journal's disk.
use Rattle.std.proofs.Common.{◌≡◌, ◌≢◌, ℕ, ◌+◌, Bool, true, false, List, [], ◌∷◌, ◌++◌, length}
use Rattle.std.proofs.Common.{Option, Some, None, refl, sym, ap, ◌∙◌, append-nil, arith, subst, inl}
use Rattle.std.proofs.lemmas.Bool.{eqb-true}
use Rattle.std.proofs.lemmas.List.{length-append, nil_from_length}
use Rattle.site_base.specs.declared.row.Row.{Row}
use Rattle.written_site.specs.SiteRun.{events_of}
use Rattle.chapters.specs.ChapterReading.{HistoryRead, and_then}
use Rattle.chapters.specs.ChapterReading.{read_lines, with_seal}
use Rattle.chapters.specs.ChapterText.{first_lines, seal_line, seal_of, text_of_lines}
use Rattle.chapters.specs.declared.chapter_begin.ChapterBegin.{ChapterBegin}
use Rattle.chapters.specs.HistoryEnds.{EndState, EndsAt}
use Rattle.chapters.specs.Lines.{unfinished, whole_lines}
use Rattle.chapters.specs.RowText.{kept_first}
use Rattle.chapters.proofs.Chapters.{lines_again, seal_plain, seal_read}
use Rattle.chapters.proofs.Histories.{first_behind, history_on}
use Rattle.chapters.proofs.ReadingChapters.{none_torn}
use Rattle.journal.specs.Disks.{Appends, Begins, DiskFile, IsUntouched, Moment, OfFile}
use Rattle.journal.specs.Disks.{OfFiles, Syncs}
use Rattle.journal.specs.Readings.{TellsWhole}
use Rattle.journal.specs.Stored.{HoldsRows, IsJournalOf, JournalState}

-- ---- a seal

-- the next seal stands behind chapters that tell rows
pub record TellsSealed (site : List ℕ) (m : Moment) (rows : List Row) (r : HistoryRead)
    : Type 0 where
  pub tells : TellsWhole site m (events_of rows)
  pub seal : tells.tells.reading.seal ≡ seal_of r.seal r.unsealed
  pub unsealed : tells.tells.reading.unsealed ≡ []
  pub time : tells.tells.reading.time ≡ r.time

tells_sealed : (site : List ℕ) (m : Moment) (text : List ℕ) (rows : List Row)
    (t : TellsWhole site m (events_of rows))
    → text ≡ text_of_lines
    (seal_line (seal_of t.tells.reading.seal t.tells.reading.unsealed) ∷ [])
    → TellsSealed site (record m { front = m.front ++ text }) rows t.tells.reading
tells_sealed site m text rows t is =
    let r = t.tells.reading in
    let line : List ℕ = seal_line (seal_of r.seal r.unsealed) in
    let lines : whole_lines text ≡ line ∷ [] =
    ap whole_lines is ∙ lines_again (line ∷ []) (seal_plain r.seal r.unsealed, tt) in
    let none : unfinished text ≡ [] = ap unfinished is ∙ none_torn (line ∷ []) in
    let begun : HistoryRead = record r { torn = unfinished text } in
    record {
      tells = record {
        tells = record {
          reading = with_seal begun;
          read =
              history_on site m.closed m.front text r t.tells.read t.whole
              ∙ ap (λ (ls : List (List ℕ)). read_lines ls begun) lines
              ∙ ap (λ (o : Option HistoryRead). and_then o (read_lines [])) (seal_read begun);
          told = t.tells.told;
        };
        whole = none;
      };
      seal = refl;
      unsealed = refl;
      time = refl;
    }

-- the end of a text with the next seal
abbrev pub Sealed : List ℕ → EndState → EndState → Type 0
Sealed text e d =
    (chapters : ℕ) (seal : List ℕ) (unsealed : List (List ℕ)) → EndsAt chapters seal unsealed e
    → (text ≡ text_of_lines (seal_line (seal_of seal unsealed) ∷ []))
    × EndsAt chapters (seal_of seal unsealed) [] d

sealed_holds : (site text : List ℕ) (rows : List Row) (e d : EndState) (a b c : DiskFile)
    → HoldsRows site rows false e a → Sealed text e d → d.time ≡ e.time → Appends text a b
    → Syncs b c → HoldsRows site rows false d c
sealed_holds site text rows e d a b c holds sealed time wrote synced =
    let settled = holds.settled refl in
    let is = sealed (length holds.at.closed + 1) holds.tells.tells.reading.seal
    holds.tells.tells.reading.unsealed settled.ends in
    let t = tells_sealed site holds.at text rows holds.tells is.0 in
    let octets : c.octets ≡ holds.at.front ++ text =
    synced.octets ∙ wrote.0.octets ∙ ap (λ (xs : List ℕ). xs ++ text) settled.open_one.octets in
    let sound : b.sound ≡ true = wrote.1 ∙ settled.open_one.sound in
    let all : c.synced ≡ holds.at.front ++ text =
    synced.synced sound ∙ sym synced.octets ∙ octets in
    let closed : c.closed ≡ holds.at.closed =
    synced.closed ∙ wrote.0.closed ∙ settled.closed in
    record {
      at = record holds.at { front = holds.at.front ++ text };
      tells = t.tells;
      there = inl (record {
        closed = closed;
        front = record { rest = []; parts = all ∙ sym (append-nil (holds.at.front ++ text)) };
      });
      settled = λ never. record {
        closed = closed;
        open_one = record { octets = octets; synced = all; sound = synced.sound ∙ sound };
        ends = rw (t.seal, t.unsealed) is.1;
        time = time ∙ settled.time ∙ sym t.time;
      };
    }

sealed_file : (site text : List ℕ) (rows : List Row) (e d : EndState) (a b c : Option DiskFile)
    → OfFile (HoldsRows site rows false e) a → Sealed text e d → d.time ≡ e.time
    → OfFiles (Appends text) a b → OfFiles Syncs b c → OfFile (HoldsRows site rows false d) c
sealed_file site text rows e d None None None holds sealed time wrote synced = tt
sealed_file site text rows e d (Some a) (Some b) (Some c) holds sealed time wrote synced =
    sealed_holds site text rows e d a b c holds sealed time wrote synced
sealed_file site text rows e d None None (Some c) holds sealed time wrote synced = absurd synced
sealed_file site text rows e d None (Some b) c holds sealed time wrote synced = absurd wrote
sealed_file site text rows e d (Some a) None c holds sealed time wrote synced = absurd wrote
sealed_file site text rows e d (Some a) (Some b) None holds sealed time wrote synced = absurd synced

pub journal_sealed : (rows : List Row) (j : JournalState) (text : List ℕ) (d : EndState)
    (b c : Option DiskFile) → IsJournalOf rows j → j.failed ≡ false → Sealed text j.end d
    → d.time ≡ j.end.time → OfFiles (Appends text) j.file b → OfFiles Syncs b c
    → IsJournalOf rows (record j { failed = false; end = d; file = c })
journal_sealed rows j text d b c is whole sealed time wrote synced = record {
  few = is.few;
  spelled = is.spelled;
  holds =
      sealed_file j.site text (kept_first j.stored rows) j.end d j.file b c
      (subst (λ (failed : Bool).
      OfFile (HoldsRows j.site (kept_first j.stored rows) failed j.end) j.file) whole is.holds)
      sealed time wrote synced;
}

-- ---- the next chapter

-- the end of a text with the first lines of the next chapter
abbrev pub Begun : List ℕ → EndState → EndState → Type 0
Begun text e d =
    (chapters : ℕ) (seal : List ℕ) (lines : List (List ℕ)) → EndsAt chapters seal [] e
    → text ≡ text_of_lines lines → lines ≢ [] → EndsAt (chapters + 1) seal lines d

begun_holds : (site text : List ℕ) (rows : List Row) (e d : EndState) (a c : DiskFile)
    → HoldsRows site rows false e a → e.sealed ≡ true
    → text ≡ text_of_lines (first_lines site (e.chapters + 1) e.seal) → Begun text e d
    → d.time ≡ e.time → Begins text a c → HoldsRows site rows false d c
begun_holds site text rows e d a c holds sealed is begun time begins =
    let settled = holds.settled refl in
    let r = holds.tells.tells.reading in
    let n : ℕ = length holds.at.closed + 1 in
    let none : r.unsealed ≡ [] =
    nil_from_length r.unsealed
    (eqb-true (length r.unsealed) 0 (sym settled.ends.sealed ∙ sealed)) in
    let lines : List (List ℕ) = first_lines site (n + 1) r.seal in
    let same : text ≡ text_of_lines lines =
    is ∙ ap (λ (k : ℕ). text_of_lines (first_lines site (k + 1) e.seal)) settled.ends.count
    ∙ ap (λ (seal : List ℕ). text_of_lines (first_lines site (n + 1) seal)) settled.ends.last in
    let closed : c.closed ≡ holds.at.closed ++ holds.at.front ∷ [] =
    begins.0
    ∙ ap (λ (ts : List (List ℕ)). ts ++ a.octets ∷ []) settled.closed
    ∙ ap (λ (xs : List ℕ). holds.at.closed ++ xs ∷ []) settled.open_one.octets in
    let size : length (holds.at.closed ++ holds.at.front ∷ []) ≡ n =
    length-append holds.at.closed (holds.at.front ∷ []) in
    record {
      at = record { closed = holds.at.closed ++ holds.at.front ∷ []; front = text };
      tells = record {
        tells = record {
          reading = record r { unsealed = lines; torn = [] };
          read = first_behind site (holds.at.closed ++ holds.at.front ∷ []) text (n + 1) r
              holds.tells.tells.read none holds.tells.whole (omega (arith, size)) same;
          told = holds.tells.tells.told;
        };
        whole = refl;
      };
      there = inl (record {
        closed = closed;
        front = record { rest = []; parts = begins.1.synced ∙ sym (append-nil text) };
      });
      settled = λ never. record {
        closed = closed;
        open_one = begins.1;
        ends = subst (λ (k : ℕ). EndsAt (k + 1) r.seal lines d) (sym size)
            (begun n r.seal lines
            (subst (λ (ls : List (List ℕ)). EndsAt n r.seal ls e) none settled.ends) same some);
        time = time ∙ settled.time;
      };
    }
  where
    some : first_lines site (length holds.at.closed + 1 + 1) holds.tells.tells.reading.seal ≢ []
    some none = absurd (cc none)

begun_file : (site text : List ℕ) (rows : List Row) (e d : EndState) (a c : Option DiskFile)
    → OfFile (HoldsRows site rows false e) a → e.sealed ≡ true
    → text ≡ text_of_lines (first_lines site (e.chapters + 1) e.seal) → Begun text e d
    → d.time ≡ e.time → OfFiles (Begins text) a c → OfFile (HoldsRows site rows false d) c
begun_file site text rows e d None None holds sealed is begun time begins = tt
begun_file site text rows e d (Some a) (Some c) holds sealed is begun time begins =
    begun_holds site text rows e d a c holds sealed is begun time begins
begun_file site text rows e d None (Some c) holds sealed is begun time begins = absurd begins
begun_file site text rows e d (Some a) None holds sealed is begun time begins = absurd begins

pub journal_begun_anew : (rows : List Row) (j : JournalState) (text : List ℕ) (d : EndState)
    (c : Option DiskFile) → IsJournalOf rows j → j.failed ≡ false → j.end.sealed ≡ true
    → text ≡ text_of_lines (first_lines j.site (j.end.chapters + 1) j.end.seal)
    → Begun text j.end d → d.time ≡ j.end.time → OfFiles (Begins text) j.file c
    → IsJournalOf rows (record j { failed = false; end = d; file = c })
journal_begun_anew rows j text d c is whole sealed same begun time begins = record {
  few = is.few;
  spelled = is.spelled;
  holds =
      begun_file j.site text (kept_first j.stored rows) j.end d j.file c
      (subst (λ (failed : Bool).
      OfFile (HoldsRows j.site (kept_first j.stored rows) failed j.end) j.file) whole is.holds)
      sealed same begun time begins;
}

-- ---- the open chapter goes on

same_holds : (site : List ℕ) (rows : List Row) (e : EndState) (a c : DiskFile)
    → HoldsRows site rows false e a → IsUntouched a c → HoldsRows site rows false e c
same_holds site rows e a c holds stays =
    let settled = holds.settled refl in
    let closed : c.closed ≡ holds.at.closed = stays.closed ∙ settled.closed in
    let synced : c.synced ≡ holds.at.front = stays.synced ∙ settled.open_one.synced in
    record {
      at = holds.at;
      tells = holds.tells;
      there = inl (record {
        closed = closed;
        front = record { rest = []; parts = synced ∙ sym (append-nil holds.at.front) };
      });
      settled = λ never. record {
        closed = closed;
        open_one = record {
          octets = stays.octets settled.open_one.sound ∙ settled.open_one.octets;
          synced = synced;
          sound = stays.sound ∙ settled.open_one.sound;
        };
        ends = settled.ends;
        time = settled.time;
      };
    }

same_file : (site : List ℕ) (rows : List Row) (e : EndState) (a c : Option DiskFile)
    → OfFile (HoldsRows site rows false e) a → OfFiles IsUntouched a c
    → OfFile (HoldsRows site rows false e) c
same_file site rows e None None holds stays = tt
same_file site rows e (Some a) (Some c) holds stays = same_holds site rows e a c holds stays
same_file site rows e None (Some c) holds stays = absurd stays
same_file site rows e (Some a) None holds stays = absurd stays

pub journal_same : (rows : List Row) (j : JournalState) (c : Option DiskFile) → IsJournalOf rows j
    → j.failed ≡ false → OfFiles IsUntouched j.file c
    → IsJournalOf rows (record j { failed = false; file = c })
journal_same rows j c is whole stays = record {
  few = is.few;
  spelled = is.spelled;
  holds =
      same_file j.site (kept_first j.stored rows) j.end j.file c
      (subst (λ (failed : Bool).
      OfFile (HoldsRows j.site (kept_first j.stored rows) failed j.end) j.file) whole is.holds)
      stays;
}

-- where its chapter began says nothing of a journal's rows
pub journal_watched : (rows : List Row) (j : JournalState) (begin : ChapterBegin)
    (refused : Option ℕ) → IsJournalOf rows j
    → IsJournalOf rows (record j { begin = begin; refused = refused })
journal_watched rows j begin refused is =
    record { few = is.few; spelled = is.spelled; holds = is.holds }
