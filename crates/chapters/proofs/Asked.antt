-- What the lines of a history ask: requests that their actors send, and no reads.
use Rattle.std.proofs.Common.{◌≡◌, ℕ, Bool, true, false, List, [], ◌∷◌}
use Rattle.std.proofs.Common.{Option, Some, None, Result, Ok, Err, refl, ap, subst}
use Rattle.std.specs.Prelude.{if◌then◌else◌}
use Rattle.std.specs.List.{AllByRecursion}
use Rattle.std.proofs.lemmas.Option.{none-some, same_Some}
use Rattle.hex.specs.declared.error.FromHexError.{FromHexError}
use Rattle.site_base.specs.declared.actor.Actor.{Actor}
use Rattle.site_base.specs.declared.event.Event.{Event}
use Rattle.site_base.specs.declared.row.Row.{Row}
use Rattle.app_message.specs.declared.fault.StreamFault.{StreamFault}
use Rattle.app_message.specs.Stream.{fed_by, held_after}
use Rattle.app_message.specs.Telegram.{Telegram}
use Rattle.device_map.specs.declared.fault.MapFault.{MapFault}
use Rattle.device_map.specs.Requests.{request_at}
use Rattle.device_map.specs.Ways.{sends, way_to}
use Rattle.written_site.specs.SiteRun.{events_of}
use Rattle.kept_history.specs.KeptRows.{is_read, kept_rows}
use Rattle.chapters.specs.Lines.{if_kept, request_alone, request_decoded, request_meant}
use Rattle.chapters.specs.RowText.{IsSent}
use Rattle.chapters.proofs.Sent.{request_sends}

-- ---- whoever sent the requests of lines

abbrev pub SendsOne : Actor × Event → Type 0
SendsOne e = sends e.0 (way_to e.1).kind ≡ true

-- a request whose row is kept is no read
pub kept_alone : (request e : Actor × Event) → if_kept request ≡ Some e
    → (request ≡ e) × (is_read e.1 ≡ false)
kept_alone request e is = by_test (is_read request.1) refl is
  where
    by_test : (read : Bool) → is_read request.1 ≡ read
        → (if read then None else Some request) ≡ Some e → (request ≡ e) × (is_read e.1 ≡ false)
    by_test true reads some = absurd (none-some e some)
    by_test false reads some =
        let same = same_Some request e some in
        (same, subst (λ (x : Actor × Event). is_read x.1 ≡ false) same reads)

meant_sends : (m : Telegram) (r : Result (Actor × Event) MapFault) (e : Actor × Event)
    → request_at m ≡ r → request_meant r ≡ Some e → SendsOne e
meant_sends m (Ok request) e at is =
    subst SendsOne (kept_alone request e is).0 (request_sends m request.0 request.1 at)
meant_sends m (Err f) e at is = absurd (none-some e is)

alone_sends : (ms : List Telegram) (rest : List ℕ) (fault : Option StreamFault)
    (e : Actor × Event) → request_alone ms rest fault ≡ Some e → SendsOne e
alone_sends (m ∷ []) [] None e is = meant_sends m (request_at m) e refl is
alone_sends ms rest fault e is = absurd (none-some e is)

pub line_sends : (r : Result (List ℕ) FromHexError) (e : Actor × Event) → request_decoded r ≡ Some e
    → SendsOne e
line_sends (Ok octets) e is =
    let s = fed_by (held_after []) octets in alone_sends s.messages s.rest s.fault e is
line_sends (Err f) e is = absurd (none-some e is)

pub rows_sent : (rows : List Row) → AllByRecursion SendsOne (events_of rows)
    → AllByRecursion IsSent rows
rows_sent [] all = tt
rows_sent (r ∷ rows) all = (all.0, rows_sent rows all.1)

-- ---- lines are no reads

abbrev pub ReadsNone : Actor × Event → Type 0
ReadsNone e = is_read e.1 ≡ false

alone_kept : (ms : List Telegram) (rest : List ℕ) (fault : Option StreamFault)
    (e : Actor × Event) → request_alone ms rest fault ≡ Some e → ReadsNone e
alone_kept (m ∷ []) [] None e is = by_request (request_at m) is
  where
    by_request : (r : Result (Actor × Event) MapFault) → request_meant r ≡ Some e → ReadsNone e
    by_request (Ok request) kept = (kept_alone request e kept).1
    by_request (Err f) kept = absurd (none-some e kept)
alone_kept ms rest fault e is = absurd (none-some e is)

pub line_kept : (r : Result (List ℕ) FromHexError) (e : Actor × Event) → request_decoded r ≡ Some e
    → ReadsNone e
line_kept (Ok octets) e is =
    let s = fed_by (held_after []) octets in alone_kept s.messages s.rest s.fault e is
line_kept (Err f) e is = absurd (none-some e is)

pub rows_kept : (rows : List Row) → AllByRecursion ReadsNone (events_of rows)
    → kept_rows rows ≡ rows
rows_kept [] all = refl
rows_kept (r ∷ rows) all =
    rw (all.0) (ap (λ (rest : List Row). r ∷ rest) (rows_kept rows all.1))
