-- What a station's moves add to its book.
use Rattle.std.proofs.Common.{◌≡◌, ℕ, Option, refl, sym, subst}
use Rattle.std.specs.List.{AllByRecursion}
use Rattle.site_base.specs.declared.actor.Actor.{Actor}
use Rattle.site_base.specs.declared.actor.Actor.TheVariants.{Dispenser, Till}
use Rattle.site_base.specs.declared.event.Event.{Event}
use Rattle.site_base.specs.declared.event.Event.TheVariants.{Offline, SignOn, Terminate}
use Rattle.site_book.specs.Book.{Book, next_row}
use Rattle.site_book.proofs.Books.{forgets_alone}
use Rattle.station.specs.Moves.{IsOwnEvent, StationState}
use Rattle.station.specs.Runs.{Forgets, Move, after_move}
use Rattle.station.specs.Sessions.{without_till}
use Rattle.station.proofs.Keeping.{ForgetsKeep, RowsKeep, book_moved, left_keeps}
use Rattle.chapters.specs.RowText.{IsSent}
use Rattle.chapters.proofs.Lists.{all_both}
use Rattle.journal.proofs.Made.{Adds, adds_row, adds_same, adds_sign_off, adds_then}
use Rattle.chapters.proofs.Sent.{request_sends}

-- whoever the station itself asks for sends such requests
own_sends : (b : Book) (actor : Actor) (event : Event) → IsOwnEvent actor event
    → IsSent (next_row b actor event)
own_sends b (Till t) SignOn own = refl
own_sends b (Till t) (Terminate p) own = refl
own_sends b (Dispenser p) (Offline q) own = refl
own_sends b actor event own = absurd own

pub rows_add : (b : Book) → RowsKeep (Adds b)
rows_add b = record {
  asked = λ c m actor event is room adds.
      adds_then b c _ adds (adds_row c actor event (request_sends m actor event is));
  own = λ c actor event own room adds.
      adds_then b c _ adds (adds_row c actor event (own_sends c actor event own));
  left = λ c t on adds. adds_then b c _ adds (adds_sign_off c t);
}

pub adds_leaving : (on : Option ℕ) (b : Book) → Adds b (without_till on b)
adds_leaving on b = left_keeps (rows_add b) on b (adds_same b b refl)

-- a move that forgets nothing
pub move_adds : (m : Move) (s : StationState) → (m ≡ Forgets → ⊥)
    → Adds s.book (after_move m s).book
move_adds m s other = book_moved (rows_add s.book) m s other (adds_same s.book s.book refl)

-- ---- whoever sent them

abbrev pub AreSent : Book → Type 0
AreSent b = AllByRecursion IsSent b.rows

pub rows_are_sent : RowsKeep AreSent
rows_are_sent = record {
  asked = λ b m actor event is room sent.
      all_both IsSent b.rows _ sent (request_sends m actor event is, tt);
  own = λ b actor event own room sent.
      all_both IsSent b.rows _ sent (own_sends b actor event own, tt);
  left = λ b t on sent. all_both IsSent b.rows _ sent (refl, tt);
}

pub forgotten_are_sent : ForgetsKeep AreSent
forgotten_are_sent b sent =
    subst (AllByRecursion IsSent) (sym (forgets_alone b).rows) sent
