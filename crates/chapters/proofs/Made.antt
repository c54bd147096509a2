-- The rows that requests make.
use Rattle.std.proofs.Common.{◌≡◌, List, [], ◌∷◌, ◌++◌, refl, sym, ap, ◌∙◌, subst}
use Rattle.site_base.specs.declared.actor.Actor.{Actor}
use Rattle.site_base.specs.declared.event.Event.{Event}
use Rattle.site_base.specs.declared.row.Row.{Row}
use Rattle.site_base.specs.Configured.{Configured}
use Rattle.written_site.specs.SiteRun.{IsLegal, events_of, row_to, site_of_rows}
use Rattle.written_site.specs.SiteState.{SiteState, opening}
use Rattle.written_site.specs.SiteStep.{reply_to, site_after}
use Rattle.site_book.specs.Book.{Book, next_row}
use Rattle.chapters.specs.History.{IsHistory, IsMadeOf, rows_asked}

-- of some, and then of more
pub asked_both : (s : SiteState) (es fs : List (Actor × Event))
    → rows_asked s (es ++ fs)
    ≡ rows_asked s es ++ rows_asked (site_of_rows s (rows_asked s es)) fs
asked_both s [] fs = refl
asked_both s (e ∷ es) fs =
    ap (λ (rows : List Row). row_to s e.0 e.1 ∷ rows) (asked_both (site_after s e.0 e.1) es fs)

-- they are a legal history
pub asked_legal : (s : SiteState) (es : List (Actor × Event)) → IsLegal s (rows_asked s es)
asked_legal s [] = tt
asked_legal s (e ∷ es) = (refl, asked_legal (site_after s e.0 e.1) es)

-- .. of just these requests
pub asked_events : (s : SiteState) (es : List (Actor × Event)) → events_of (rows_asked s es) ≡ es
asked_events s [] = refl
asked_events s (e ∷ es) =
    ap (λ (xs : List (Actor × Event)). e ∷ xs) (asked_events (site_after s e.0 e.1) es)

-- the row of the written step is the one that is there
same_row : (s : SiteState) (r : Row) → r.reply ≡ reply_to s r.actor r.event
    → row_to s r.actor r.event ≡ r
same_row s r is = ap (λ reply. record r { reply = reply }) (sym is)

-- a legal history is that of its requests
pub asked_again : (s : SiteState) (rows : List Row) → IsLegal s rows
    → rows_asked s (events_of rows) ≡ rows
asked_again s [] legal = refl
asked_again s (r ∷ rows) legal =
    ap (λ (x : Row). x ∷ rows_asked (site_after s r.actor r.event) (events_of rows))
    (same_row s r legal.0)
    ∙ ap (λ (rest : List Row). r ∷ rest)
    (asked_again (site_after s r.actor r.event) rows legal.1)

-- a book with the row of one request more
pub made_more : (b after : Book) (events : List (Actor × Event)) (actor : Actor) (event : Event)
    → IsMadeOf b events → after.config ≡ b.config
    → after.rows ≡ b.rows ++ next_row b actor event ∷ []
    → IsMadeOf after (events ++ (actor, event) ∷ [])
made_more b after events actor event made same rows =
    rows
    ∙ ap (λ (rs : List Row).
    rs ++ row_to (site_of_rows (opening b.config) rs) actor event ∷ []) made
    ∙ sym (asked_both (opening b.config) events ((actor, event) ∷ []))
    ∙ ap (λ (c : Configured). rows_asked (opening c) (events ++ (actor, event) ∷ [])) (sym same)

-- what was made is that of its requests
pub made_events : (b : Book) (events : List (Actor × Event)) → IsMadeOf b events
    → events_of b.rows ≡ events
made_events b events made = ap events_of made ∙ asked_events (opening b.config) events

pub made_legal : (b : Book) (events : List (Actor × Event)) → IsMadeOf b events → IsHistory b
made_legal b events made =
    subst (IsLegal (opening b.config)) (sym made) (asked_legal (opening b.config) events)
