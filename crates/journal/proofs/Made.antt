-- Books with more rows, and what a station with a journal keeps of them.
use Rattle.std.proofs.Common.{◌≡◌, ◌≤◌, ℕ, true, List, [], ◌∷◌, ◌++◌, length, Option, Some, None}
use Rattle.std.proofs.Common.{refl, sym, ap, ◌∙◌, append_assoc, append-nil, arith, subst}
use Rattle.std.specs.Prelude.{IfSome}
use Rattle.std.specs.List.{AllByRecursion}
use Rattle.std.proofs.lemmas.List.{length-append, take-append-le}
use Rattle.site_base.specs.declared.actor.Actor.{Actor}
use Rattle.site_base.specs.declared.actor.Actor.TheVariants.{Till}
use Rattle.site_base.specs.declared.event.Event.{Event}
use Rattle.site_base.specs.declared.event.Event.TheVariants.{SignOff}
use Rattle.site_base.specs.declared.row.Row.{Row}
use Rattle.site_base.specs.Configured.{Configured}
use Rattle.device_map.specs.Ways.{sends, way_to}
use Rattle.kept_history.specs.KeptRows.{kept_rows}
use Rattle.written_site.specs.SiteState.{opening}
use Rattle.written_site.proofs.Histories.{IsLegal-push}
use Rattle.site_book.specs.Book.{Book, next_row, with_row_of}
use Rattle.site_book.proofs.Growing.{goes_on}
use Rattle.station.specs.Moves.{StationState}
use Rattle.chapters.specs.History.{IsHistory}
use Rattle.chapters.specs.RowText.{CanBeSpelled, IsSent, kept_first}
use Rattle.chapters.proofs.Lists.{all_both}
use Rattle.journal.specs.declared.memory.TheConstants.{LEAST_ROWS}
use Rattle.journal.specs.Disks.{OfFile}
use Rattle.journal.specs.Stored.{HoldsRows, IsJournalOf, IsStored, JournalState, StoredState}
use Rattle.journal.specs.Stored.{with_station}

-- ---- a book with more rows

-- it has more rows, each of them sent by its actor, and has forgotten none
pub record Adds (old new : Book) : Type 0 where
  pub later : List Row
  pub rows : new.rows ≡ old.rows ++ later
  pub same : new.config ≡ old.config
  pub memory : new.forgotten ≡ old.forgotten
  pub sent : AllByRecursion IsSent later
  pub legal : IsHistory old → IsHistory new

pub adds_same : (old new : Book) → new ≡ old → Adds old new
adds_same old new is = record {
  later = [];
  rows = ap (λ (b : Book). b.rows) is ∙ sym (append-nil old.rows);
  same = ap (λ (b : Book). b.config) is;
  memory = ap (λ (b : Book). b.forgotten) is;
  sent = tt;
  legal = λ legal. subst IsHistory (sym is) legal;
}

pub adds_then : (a b c : Book) → Adds a b → Adds b c → Adds a c
adds_then a b c one two = record {
  later = one.later ++ two.later;
  rows = two.rows ∙ ap (λ (rs : List Row). rs ++ two.later) one.rows
      ∙ append_assoc a.rows one.later two.later;
  same = two.same ∙ one.same;
  memory = two.memory ∙ one.memory;
  sent = all_both IsSent one.later two.later one.sent two.sent;
  legal = λ legal. two.legal (one.legal legal);
}

pub adds_row : (b : Book) (actor : Actor) (event : Event)
    → sends actor (way_to event).kind ≡ true → Adds b (with_row_of b actor event)
adds_row b actor event sent = record {
  later = next_row b actor event ∷ [];
  rows = refl;
  same = refl;
  memory = refl;
  sent = (sent, tt);
  legal = λ legal. IsLegal-push (opening b.config) b.rows (next_row b actor event) legal refl;
}

pub adds_sign_off : (b : Book) (t : ℕ) → Adds b (with_row_of b (Till t) SignOff)
adds_sign_off b t = adds_row b (Till t) SignOff refl

-- ---- the journal of a book with more rows

-- the first rows are the same
first_stay : (rows later : List Row) (n : ℕ) → n ≤ length rows
    → kept_first n (rows ++ later) ≡ kept_first n rows
first_stay rows later n few = ap kept_rows (take-append-le n rows later few)

pub journal_stays : (rows later : List Row) (j : JournalState) → IsJournalOf rows j
    → IsJournalOf (rows ++ later) j
journal_stays rows later j is = record {
  few = omega (arith, is.few, length-append rows later);
  spelled = subst CanBeSpelled (sym (first_stay rows later j.stored is.few)) is.spelled;
  holds =
      subst (λ (rs : List Row). OfFile (HoldsRows j.site rs j.failed j.end) j.file)
      (sym (first_stay rows later j.stored is.few)) is.holds;
}

journals_stay : (rows later : List Row) (j : Option JournalState) → IfSome j (IsJournalOf rows)
    → IfSome j (IsJournalOf (rows ++ later))
journals_stay rows later None is = tt
journals_stay rows later (Some j) is = journal_stays rows later j is

behind_stays : (old new : ℕ) (j : Option JournalState) → new ≡ old
    → IfSome j (λ (x : JournalState). old ≤ x.stored)
    → IfSome j (λ (x : JournalState). new ≤ x.stored)
behind_stays old new None same is = tt
behind_stays old new (Some j) same is = omega (arith, same, is)

pub stored_with : (s : StoredState) (new : StationState) → IsStored s
    → Adds s.station.book new.book → IsStored (with_station new s)
stored_with s new is adds = record {
  legal = adds.legal is.legal;
  sent = subst (AllByRecursion IsSent) (sym adds.rows)
      (all_both IsSent s.station.book.rows adds.later is.sent adds.sent);
  unpaid = goes_on s.unpaid s.station.book new.book adds.later adds.same adds.rows
      (omega (arith, adds.memory, is.unpaid.behind)) is.unpaid;
  journal = subst (λ (rows : List Row). IfSome s.journal (IsJournalOf rows)) (sym adds.rows)
      (journals_stay s.station.book.rows adds.later s.journal is.journal);
  behind = behind_stays s.station.book.forgotten new.book.forgotten s.journal adds.memory is.behind;
  enough = subst (λ (c : Configured). LEAST_ROWS ≤ c.rows) (sym adds.same) is.enough;
}
