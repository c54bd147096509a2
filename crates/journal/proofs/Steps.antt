-- What was told stays through a station's life.
use Rattle.std.proofs.Common.{◌≡◌, ◌∙◌, ℕ, zero, suc, true, List, [], ◌∷◌}
use Rattle.std.proofs.Common.{◌++◌, Option, Some, None, refl, sym, ap, inl, subst}
use Rattle.std.proofs.Common.{append_assoc, append-nil}
use Rattle.std.specs.Prelude.{IfSome, length}
use Rattle.site_base.specs.declared.actor.Actor.{Actor}
use Rattle.site_base.specs.declared.actor.Actor.TheVariants.{Till}
use Rattle.site_base.specs.declared.event.Event.{Event}
use Rattle.site_base.specs.declared.event.Event.TheVariants.{SignOff}
use Rattle.site_base.specs.declared.limits.TheConstants.{TILLS}
use Rattle.site_base.specs.declared.row.Row.{Row}
use Rattle.site_base.specs.Configured.{Configured}
use Rattle.kept_history.specs.KeptRows.{kept_rows}
use Rattle.kept_history.proofs.LeftOut.{left_out as reads_can_be_left_out}
use Rattle.written_site.specs.SiteRun.{IsLegal, events_of}
use Rattle.written_site.specs.SiteState.{opening}
use Rattle.site_book.specs.Book.{Book, next_row, with_row_of}
use Rattle.site_book.proofs.Books.{forgets_alone}
use Rattle.station.specs.Runs.{Move}
use Rattle.station.proofs.Keeping.{ForgetsKeep, RowsKeep, books_keep, left_keeps}
use Rattle.chapters.specs.Lines.{unfinished}
use Rattle.chapters.proofs.Kept.{kept_again, kept_both}
use Rattle.journal.specs.Disks.{BeginsWith, DiskFile, GoesOn, Moment, OfFile, OfFiles, moment_of}
use Rattle.journal.specs.Disks.{shown_of}
use Rattle.journal.specs.Disks as disks
use Rattle.journal.specs.Laws.{BeginsWithRows, KeepsFirst, ToldRowsStay}
use Rattle.journal.specs.Lives.{end_of}
use Rattle.journal.specs.Opening.{Reopens, tills_off}
use Rattle.journal.specs.Readings.{TellsWhole}
use Rattle.journal.specs.Recovering.{KeepsWholeLines}
use Rattle.journal.specs.Steps.{AreSteps, Calls, Gates, IsRestart, IsStep, Moves, Restart, Restarts, Step}
use Rattle.journal.specs.Steps.{after_step, after_steps, is_restart, is_restart_of}
use Rattle.journal.specs.Stored.{IsJournalOf, JournalGoesOn, JournalState, StoredState, has_stored}
use Rattle.journal.proofs.Fronts.{goes_then}
use Rattle.journal.proofs.JournalLaws.{holds_all, stored_rows_are_found_again}
use Rattle.journal.proofs.Lives.{goes_for_life, goes_on_step, told_whole}

-- ---- rows

-- a book of this configuration keeps these rows first
record KeepsTold (config : Configured) (told : List Row) (b : Book) : Type 0 where
  pub same : b.config ≡ config
  pub first : KeepsFirst told b

row_keeps : (config : Configured) (told : List Row) (b : Book) (actor : Actor) (event : Event)
    → KeepsTold config told b → KeepsTold config told (with_row_of b actor event)
row_keeps config told b actor event keeps =
    let row = next_row b actor event ∷ [] in
    record {
      same = keeps.same;
      first = record {
        more = keeps.first.more ++ kept_rows row;
        parts =
            kept_both b.rows row
            ∙ ap (λ (rs : List Row). rs ++ kept_rows row) keeps.first.parts
            ∙ append_assoc told keeps.first.more (kept_rows row);
      };
    }

rows_keep : (config : Configured) (told : List Row) → RowsKeep (KeepsTold config told)
rows_keep config told = record {
  asked = λ b m actor event is room keeps. row_keeps config told b actor event keeps;
  own = λ b actor event own room keeps. row_keeps config told b actor event keeps;
  left = λ b t on keeps. row_keeps config told b (Till t) SignOff keeps;
}

forgotten_keeps : (config : Configured) (told : List Row) → ForgetsKeep (KeepsTold config told)
forgotten_keeps config told b keeps =
    let alone = forgets_alone b in
    record {
      same = alone.config ∙ keeps.same;
      first = record {
        more = keeps.first.more;
        parts = ap kept_rows alone.rows ∙ keeps.first.parts;
      };
    }

-- tills are signed off
off_keeps : (config : Configured) (told : List Row) (n : ℕ) (b : Book) → KeepsTold config told b
    → KeepsTold config told (tills_off n b)
off_keeps config told zero b keeps = keeps
off_keeps config told (suc n) b keeps =
    left_keeps (rows_keep config told) (Some (suc n)) (tills_off n b)
    (off_keeps config told n b keeps)

-- a book that begins with kept rows keeps them first
begins_keeps : (config : Configured) (told : List Row) (b : Book) → kept_rows told ≡ told
    → b.config ≡ config → BeginsWithRows told b → KeepsTold config told b
begins_keeps config told b kept same begins = record {
  same = same;
  first = record {
    more = kept_rows begins.more;
    parts =
        ap kept_rows begins.parts ∙ kept_both told begins.more
        ∙ ap (λ (rs : List Row). rs ++ kept_rows begins.more) kept;
  };
}

-- ---- steps

-- the station keeps what was told, and its disk goes on from chapters that tell it
record Keeps (site : List ℕ) (config : Configured) (told : List Row) (at : Moment)
    (s : StoredState) : Type 0 where
  pub rows : KeepsTold config told s.station.book
  pub journal : JournalState
  pub there : s.journal ≡ Some journal
  pub named : journal.site ≡ site
  pub file : DiskFile
  pub known : journal.file ≡ Some file
  pub goes : GoesOn at (moment_of file)

-- chapters that tell legal rows, all of which are kept
record Tell (site : List ℕ) (config : Configured) (told : List Row) (at : Moment) : Type 0 where
  pub tells : TellsWhole site at (events_of told)
  pub legal : IsLegal (opening config) told
  pub kept : kept_rows told ≡ told

module _ (site : List ℕ) (config : Configured) (told : List Row) (at : Moment)
    (tell : Tell site config told at) where
  whole : unfinished at.front ≡ []
  whole = told_whole site at (events_of told) tell.tells

  moved : (move : Move) (s : StoredState) → Keeps site config told at s
      → Keeps site config told at (after_step (Moves move) s)
  moved move s keeps = record {
    rows =
        books_keep (rows_keep config told) (forgotten_keeps config told) (move ∷ []) s.station
        keeps.rows;
    journal = keeps.journal;
    there = keeps.there;
    named = keeps.named;
    file = keeps.file;
    known = keeps.known;
    goes = keeps.goes;
  }

  called : (later : Option JournalState) (s : StoredState) → JournalGoesOn s.journal later
      → Keeps site config told at s → Keeps site config told at (after_step (Calls later) s)
  called None s on keeps =
      absurd (subst (λ (o : Option JournalState). JournalGoesOn o None) keeps.there on)
  called (Some j) s on keeps =
      let both = subst (λ (o : Option JournalState). JournalGoesOn o (Some j)) keeps.there on in
      by_file j.file refl
      (subst (λ (o : Option DiskFile). OfFiles disks.Keeps o j.file) keeps.known both.1)
    where
      by_file : (o : Option DiskFile) → j.file ≡ o → OfFiles disks.Keeps (Some keeps.file) o
          → Keeps site config told at (after_step (Calls (Some j)) s)
      by_file None none goes = absurd goes
      by_file (Some file) known goes = record {
        rows = keeps.rows;
        journal = j;
        there = refl;
        named =
            (subst (λ (o : Option JournalState). JournalGoesOn o (Some j)) keeps.there on).0
            ∙ keeps.named;
        file = file;
        known = known;
        goes = goes_then at (moment_of keeps.file) (moment_of file) keeps.goes goes.last;
      }

  -- a start finds what was told, and goes on from there
  restarted : (r : Restart) (file : DiskFile) → GoesOn at (moment_of file)
      → IsRestart site config file r → Keeps site config told at r.later
  restarted r file goes is = by_file starts.journal.file refl starts.moments
    where
      starts : Reopens site config r.clock (Some r.found) r.rows r.later
      starts = is.starts

      found : GoesOn at (moment_of r.found)
      found =
          goes_then at (end_of (moment_of file) r.life) (moment_of r.found)
          (goes_for_life at whole (moment_of file) r.life goes is.lives) (inl is.left.same)

      shown : GoesOn at (shown_of r.found)
      shown =
          goes_then at (moment_of r.found) (shown_of r.found) found
          (inl (record { closed = refl; front = is.left.shown }))

      begins : BeginsWithRows told starts.recovered
      begins =
          stored_rows_are_found_again site at (shown_of r.found) config told starts.recovered
          tell.legal starts.same tell.tells shown starts.read

      by_file : (o : Option DiskFile) → starts.journal.file ≡ o
          → OfFiles KeepsWholeLines (Some r.found) o → Keeps site config told at r.later
      by_file None none kept = absurd kept
      by_file (Some later) known kept = record {
        rows =
            subst (KeepsTold config told) (sym starts.signed_off)
            (off_keeps config told TILLS starts.recovered
            (begins_keeps config told starts.recovered tell.kept starts.same begins));
        journal = starts.journal;
        there = starts.there;
        named = starts.named;
        file = later;
        known = known;
        goes =
            goes_on_step at whole (moment_of r.found) (moment_of later) found
            (λ front ends begins. (kept front ends begins).last);
      }

  step_keeps : (step : Step) (s : StoredState) → IsStep step s → Keeps site config told at s
      → Keeps site config told at (after_step step s)
  step_keeps (Moves move) s is keeps = moved move s keeps
  step_keeps (Gates gates) s is keeps = record {
    rows = keeps.rows;
    journal = keeps.journal;
    there = keeps.there;
    named = keeps.named;
    file = keeps.file;
    known = keeps.known;
    goes = keeps.goes;
  }
  step_keeps (Calls later) s is keeps = called later s is keeps
  step_keeps (Restarts r) s is keeps =
      restarted r keeps.file keeps.goes
      (subst (λ (c : Configured). IsRestart site c keeps.file r) keeps.rows.same
      (subst (λ (n : List ℕ). IsRestart n s.station.book.config keeps.file r) keeps.named
      (subst (λ (o : Option DiskFile).
      is_restart_of keeps.journal.site s.station.book.config o r) keeps.known
      (subst (λ (o : Option JournalState). is_restart s.station.book.config o r) keeps.there
      is))))

  steps_keep : (steps : List Step) (s : StoredState) → AreSteps steps s
      → Keeps site config told at s → KeepsTold config told (after_steps steps s).station.book
  steps_keep [] s are keeps = keeps.rows
  steps_keep (step ∷ steps) s are keeps =
      steps_keep steps (after_step step s) are.1 (step_keeps step s are.0 keeps)

-- ---- what is told

pub told_rows_stay : ToldRowsStay
told_rows_stay s j f steps stored has there told are =
    let rows = s.station.book.rows in
    let config = s.station.book.config in
    let is : IsJournalOf rows j =
    subst (λ (o : Option JournalState). IfSome o (IsJournalOf rows)) has stored.journal in
    let all : has_stored (length rows) (Some j) ≡ true =
    ap (has_stored (length rows)) (sym has) ∙ told in
    let holds = holds_all rows j f is all there in
    let enough = reads_can_be_left_out (opening config) rows stored.legal in
    let tell : Tell j.site config (kept_rows rows) holds.at = record {
      tells = holds.tells;
      legal = enough.legal;
      kept = kept_again rows;
    } in
    (steps_keep j.site config (kept_rows rows) holds.at tell steps s are (record {
      rows = record {
        same = refl;
        first = record { more = []; parts = sym (append-nil (kept_rows rows)) };
      };
      journal = j;
      there = has;
      named = refl;
      file = f;
      known = there;
      goes = holds.there;
    })).first
