-- Rows that a turn of a session adds.
use Rattle.std.proofs.Common.{◌≡◌, ℕ, Bool, true, List, [], ◌∷◌, ◌++◌, length, drop, map}
use Rattle.std.proofs.Common.{Option, None, refl, ap, sym, ◌∙◌, append_assoc, append-nil}
use Rattle.std.proofs.Common.{arith}
use Rattle.site_base.specs.declared.actor.Actor.{Actor}
use Rattle.site_base.specs.declared.actor.Actor.TheVariants.{Till}
use Rattle.site_base.specs.declared.event.Event.{Event}
use Rattle.site_base.specs.declared.event.Event.TheVariants.{SignOff}
use Rattle.site_base.specs.declared.answer.Answer.TheVariants.{Done}
use Rattle.site_base.specs.declared.refusal.Refusal.{Refusal}
use Rattle.site_base.specs.declared.row.Row.{Row}
use Rattle.site_base.specs.Checks.{reply_or}
use Rattle.site_base.specs.SignChanges.{sign_change}
use Rattle.app_message.specs.declared.fault.StreamFault.{StreamFault}
use Rattle.app_message.specs.Telegram.{Telegram}
use Rattle.site_book.specs.Book.{Book, next_row, site_of_book, with_row_of, with_rows_forgotten}
use Rattle.site_book.proofs.Books.{forgets_alone}
use Rattle.written_site.specs.SiteState.{is_signed_on}
use Rattle.peer_talk.specs.Exchanges.{Outcome, row_made}
use Rattle.station.specs.Moves.{rows_since}
use Rattle.station.specs.Peers.{till_off, with_notices}
use Rattle.station.specs.PeerViews.{slot_forgotten}
use Rattle.station.specs.declared.gates.Admission.{Admission}
use Rattle.station.specs.Sessions.{Granted, Session, Turn, admit, answer, answer_all, refuse_by}
use Rattle.conversation.specs.Books.{with_outcome}
use Rattle.station.specs.Sessions.{without_till}
use Rattle.station.proofs.Keeping.{ForgetsKeep}
use Rattle.station.proofs.Keeping.{Input, Keeps, RowsKeep, admitted_keeps, after_input, all_keep}
use Rattle.station.proofs.Keeping.{answered_keeps}
use Rattle.station.proofs.Keeping.{heard_keeps, left_keeps, refused_keeps, rows_keep}
use Rattle.station.proofs.Notices.{all_forgotten, no_sign_off_change, with_notices-append}
use Rattle.station.proofs.Notices.{with_notices-none}
use Rattle.station.proofs.SigningOff.{may_sign_off}

-- a book with more rows
pub record Grows (earlier later : Book) : Type 0 where
  pub more : List Row
  pub rows : later.rows ≡ earlier.rows ++ more
  pub same : later.config ≡ earlier.config

pub drop-front : (a b : List Row) → drop (length a) (a ++ b) ≡ b
drop-front [] b = refl
drop-front (r ∷ a) b = drop-front a b

pub since : (a b : Book) → (g : Grows a b) → rows_since a b ≡ g.more
since a b g = ap (drop (length a.rows)) g.rows ∙ drop-front a.rows g.more

abbrev pub grows_none : (b : Book) → Grows b b
grows_none b = record { more = []; rows = sym (append-nil b.rows); same = refl }

abbrev pub grows_then : (a b c : Book) → Grows a b → Grows b c → Grows a c
grows_then a b c one two = record {
  more = one.more ++ two.more;
  rows =
      two.rows ∙ ap (λ rs. rs ++ two.more) one.rows
      ∙ append_assoc a.rows one.more two.more;
  same = two.same ∙ one.same;
}

pub since_then : (a b c : Book) → Grows a b → Grows b c
    → rows_since a c ≡ rows_since a b ++ rows_since b c
since_then a b c one two =
    since a c (grows_then a b c one two)
    ∙ ap (λ rs. rs ++ two.more) (sym (since a b one))
    ∙ ap (λ rs. rows_since a b ++ rs) (sym (since b c two))

-- the others are told of a turn's rows, and then of the next one's
pub told_then : (a b c : Book) (x y z : List (Option Session)) → Grows a b → Grows b c
    → y ≡ with_notices (rows_since a b) x → z ≡ with_notices (rows_since b c) y
    → z ≡ with_notices (rows_since a c) x
told_then a b c x y z one two first second =
    second ∙ ap (with_notices (rows_since b c)) first
    ∙ sym (with_notices-append (rows_since a b) (rows_since b c) x)
    ∙ ap (λ rs. with_notices rs x) (sym (since_then a b c one two))

pub told_none : (b : Book) (x : List (Option Session)) → x ≡ with_notices (rows_since b b) x
told_none b x =
    sym (ap (λ rs. with_notices rs x) (since b b (grows_none b)) ∙ with_notices-none x)

-- ---- a session's end

abbrev pub with_row-grows : (b : Book) (actor : Actor) (event : Event)
    → Grows b (with_row_of b actor event)
with_row-grows b actor event =
    record { more = next_row b actor event ∷ []; rows = refl; same = refl }

-- a book that has forgotten rows has as many
pub forgets_none : (b : Book) → ForgetsKeep (Grows b)
forgets_none b c g =
    let alone = forgets_alone c in
    grows_then b c (with_rows_forgotten c) g
    (record { more = []; rows = alone.rows ∙ sym (append-nil c.rows); same = alone.config })

pub more_rows : (b : Book) → RowsKeep (Grows b)
more_rows b = record {
  asked = λ c m actor event is room g. grows_then b c _ g (with_row-grows c actor event);
  own = λ c actor event own room g. grows_then b c _ g (with_row-grows c actor event);
  left = λ c t on g. grows_then b c _ g (with_row-grows c (Till t) SignOff);
}

pub left-grows : (on : Option ℕ) (b : Book) → Grows b (without_till on b)
left-grows on b = left_keeps (more_rows b) on b (grows_none b)

-- those that had signed a till on that is left forget that
pub signed_off-told : (t : ℕ) (b : Book) (x : List (Option Session))
    → is_signed_on (site_of_book b) t ≡ true
    → map (slot_forgotten t) x ≡ with_notices (rows_since b (with_row_of b (Till t) SignOff)) x
signed_off-told t b x on =
    let row = next_row b (Till t) SignOff in
    all_forgotten row t x (no_sign_off_change row.reply)
    (ap (λ (r : Option Refusal). till_off (sign_change (Till t) SignOff (reply_or r Done)))
    (may_sign_off (site_of_book b) t on))
    ∙ ap (λ rs. with_notices rs x)
    (sym (since b (with_row_of b (Till t) SignOff) (with_row-grows b (Till t) SignOff)))

-- ---- what a session does

abbrev pub outcome-grows : (actor : Actor) (event : Event) (outcome : Outcome) (b : Book)
    → Grows b (with_outcome actor event outcome b)
outcome-grows actor event outcome b =
    record { more = row_made actor event outcome; rows = refl; same = refl }

-- a book only grows
pub turns_grow : (b : Book) → Keeps (λ t. Grows b t.book)
turns_grow b = rows_keep (more_rows b)

pub answered-grows : (g : Granted) (m : Telegram) (t : Turn) → Grows t.book (answer g m t).book
answered-grows g m t = answered_keeps (turns_grow t.book) g m t (grows_none t.book)

pub all-grows : (gs : List Granted) (ms : List Telegram) (t : Turn)
    → Grows t.book (answer_all gs ms t).book
all-grows gs ms t = all_keep (turns_grow t.book) gs ms t (grows_none t.book)

pub admitted-grows : (admits : List ℕ → Admission) (memory : Bool) (gs : List Granted)
    (ms : List Telegram) (t : Turn) → t.session.end ≡ None
    → Grows t.book (admit admits memory gs ms t).book
admitted-grows admits memory gs ms t lasts =
    admitted_keeps (turns_grow t.book) admits memory gs ms t lasts (grows_none t.book)

pub refused-grows : (memory : Bool) (fault : Option StreamFault) (t : Turn)
    → Grows t.book (refuse_by memory fault t).book
refused-grows memory fault t =
    refused_keeps (turns_grow t.book) memory fault t (grows_none t.book)

pub input-grows : (admits : List ℕ → Admission) (input : Input) (t : Turn)
    → t.session.end ≡ None → Grows t.book (after_input admits input t).book
input-grows admits input t lasts =
    let none = grows_none t.book in
    heard_keeps (turns_grow t.book) admits input t lasts none (λ piece. none)

-- ---- messages one after another

pub one_more : (gs : List Granted) (ms : List Telegram) (g : Granted) (m : Telegram) (t : Turn)
    → length gs ≡ length ms
    → answer_all (gs ++ g ∷ []) (ms ++ m ∷ []) t ≡ answer g m (answer_all gs ms t)
one_more [] [] g m t same = refl
one_more [] (n ∷ ms) g m t same = absurd (omega arith)
one_more (h ∷ gs) [] g m t same = absurd (omega arith)
one_more (h ∷ gs) (n ∷ ms) g m t same = one_more gs ms g m (answer h n t) (omega arith)
