-- A peer's own rows are no news to it: a change goes to a dispenser, and a dispenser's reports make
-- none.
use Rattle.std.proofs.Common.{◌≡◌, ℕ, Bool, true, false, List, [], Option, Some}
use Rattle.std.proofs.Common.{None, Result, Ok, Err, refl, ap, sym, ◌∙◌, append-nil}
use Rattle.std.specs.Prelude.{if◌then◌else◌, slice_index}
use Rattle.site_base.specs.declared.actor.Actor.{Actor}
use Rattle.site_base.specs.declared.actor.Actor.TheVariants.{Till, Dispenser}
use Rattle.site_base.specs.declared.answer.Answer.{Answer}
use Rattle.site_base.specs.declared.event.Event.{Event}
use Rattle.site_base.specs.declared.event.Event.TheVariants as events
use Rattle.site_base.specs.declared.refusal.NoRow.TheVariants as norow
use Rattle.site_base.specs.declared.refusal.Refusal.{Refusal}
use Rattle.site_base.specs.Checks.{reply_or}
use Rattle.app_message.specs.Telegram.{Telegram}
use Rattle.device_map.specs.declared.ids.TheConstants as ids
use Rattle.device_map.specs.Changes.{change_by, change_where}
use Rattle.written_site.specs.SiteChecks.{first_refusal, own_kind}
use Rattle.written_site.specs.SiteState.{SiteState}
use Rattle.written_site.specs.SiteStep.{reply_to, site_answer}
use Rattle.written_site.proofs.PassedChecks.{passed}
use Rattle.site_book.specs.Book.{Book, book_reply, is_full, site_of_book}
use Rattle.peer_talk.specs.Exchanges.{row_made}
use Rattle.peer_talk.specs.Talks.{IsSpokenBy}
use Rattle.peer_talk.specs.Text.{is_same_node}
use Rattle.station.specs.Notices.{notice_at, notices_of, octets_of, row_notice}
use Rattle.conversation.specs.Books.{outcome_at}

-- ---- a change goes to a dispenser

-- the subnet that a change goes to, if there is one
abbrev to_subnet : Option Telegram → ℕ
to_subnet None = ids.DISPENSER_SUBNET
to_subnet (Some m) = slice_index m.to 0

goes_by : (event : Event) → to_subnet (change_by event) ≡ ids.DISPENSER_SUBNET
goes_by (events.Open p) = refl
goes_by (events.Close p) = refl
goes_by (events.Release p preset) = refl
goes_by (events.Prepay p cents) = refl
goes_by (events.TestRelease p) = refl
goes_by (events.Suspend p) = refl
goes_by (events.Resume p) = refl
goes_by (events.Terminate p) = refl
goes_by event = refl

pub goes : (event : Event) (m : Telegram) → change_by event ≡ Some m
    → slice_index m.to 0 ≡ ids.DISPENSER_SUBNET
goes event m is = sym (ap to_subnet is) ∙ goes_by event

pub other_subnet : (node to : List ℕ) → slice_index node 0 ≡ ids.TILL_SUBNET
    → slice_index to 0 ≡ ids.DISPENSER_SUBNET → is_same_node node to ≡ false
other_subnet node to till dispenser = rw (till, dispenser) refl

-- .. and not to a till
pub not_told : (change : Option Telegram) (node : List ℕ)
    → slice_index node 0 ≡ ids.TILL_SUBNET
    → ((m : Telegram) → change ≡ Some m → slice_index m.to 0 ≡ ids.DISPENSER_SUBNET)
    → octets_of (notice_at change (Some node)) ≡ []
not_told None node till to = refl
not_told (Some m) node till to = rw (other_subnet node m.to till (to m refl)) refl

pub where_goes : (event : Event) (reply : Result Answer Refusal) (m : Telegram)
    → change_where event reply ≡ Some m → slice_index m.to 0 ≡ ids.DISPENSER_SUBNET
where_goes event (Ok answer) m is = goes event m is
where_goes event (Err refusal) m is = absurd cc

-- ---- a dispenser makes no change

reports_none : (d : ℕ) (event : Event) → own_kind (Dispenser d) event ≡ None
    → change_by event ≡ None
reports_none d (events.Open p) own = absurd cc
reports_none d (events.Close p) own = absurd cc
reports_none d (events.Release p preset) own = absurd cc
reports_none d (events.Prepay p cents) own = absurd cc
reports_none d (events.TestRelease p) own = absurd cc
reports_none d (events.Suspend p) own = absurd cc
reports_none d (events.Resume p) own = absurd cc
reports_none d (events.Terminate p) own = absurd cc
reports_none d event own = refl

pub report_quiet : (s : SiteState) (d : ℕ) (event : Event)
    → change_where event (reply_to s (Dispenser d) event) ≡ None
report_quiet s d event = by_refusal (first_refusal s (Dispenser d) event)
    (λ none. reports_none d event (passed s (Dispenser d) event none).asks)
  where
    by_refusal : (refusal : Option Refusal) → (refusal ≡ None → change_by event ≡ None)
        → change_where event (reply_or refusal (site_answer s event)) ≡ None
    by_refusal None quiet = quiet refl
    by_refusal (Some refusal) quiet = refl

-- ---- so a row that a message made is no news to its peer

reply_quiet : (s : SiteState) (actor : Actor) (event : Event) (peer : Option (List ℕ))
    → IsSpokenBy actor peer
    → octets_of (notice_at (change_where event (reply_to s actor event)) peer) ≡ []
reply_quiet s (Till t) event None spoken = absurd spoken
reply_quiet s (Till t) event (Some node) spoken =
    not_told (change_where event (reply_to s (Till t) event)) node spoken.0
    (where_goes event (reply_to s (Till t) event))
reply_quiet s (Dispenser d) event peer spoken =
    ap (λ c. octets_of (notice_at c peer)) (report_quiet s d event)

pub own_quiet : (memory : Bool) (b : Book) (actor : Actor) (event : Event)
    (peer : Option (List ℕ)) → IsSpokenBy actor peer
    → notices_of peer (row_made actor event (outcome_at memory b actor event)) ≡ []
own_quiet false b actor event peer spoken = refl
own_quiet true b actor event peer spoken = by_full (is_full b)
  where
    by_full : (full : Bool)
        → notices_of peer (row_made actor event (if full then Err norow.BookFull
        else Ok (book_reply b actor event))) ≡ []
    by_full true = refl
    by_full false =
        append-nil (octets_of (row_notice peer
        (record { actor = actor; event = event; reply = book_reply b actor event })))
        ∙ reply_quiet (site_of_book b) actor event peer spoken
