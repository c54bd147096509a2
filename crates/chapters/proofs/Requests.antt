-- The line of a request is read again as it.
use Rattle.std.proofs.Common.{◌≡◌, ℕ, true, false, not, List, [], ◌∷◌, ◌++◌}
use Rattle.std.proofs.Common.{Some, None, Ok, refl, sym, ap, ◌∙◌, append-nil, eqb}
use Rattle.std.proofs.Common.{inl, inr, subst}
use Rattle.std.proofs.lemmas.Bool.{cases_eq, ne_eqb}
use Rattle.std.proofs.lemmas.Grind.{flat_map-append}
use Rattle.std.proofs.lemmas.List.{map-append}
use Rattle.std.proofs.lemmas.List.Elements.{recursion_from_All}
use Rattle.std.specs.List.{AllByRecursion}
use Rattle.hex.specs.Hex.{encode_lower, is_hex_digit}
use Rattle.hex.proofs.HexLemmas.{decode_of-encode_lower, decode_of-ok}
use Rattle.site_base.specs.declared.actor.Actor.{Actor}
use Rattle.site_base.specs.declared.event.Event.{Event}
use Rattle.site_base.specs.declared.row.Row.{Row}
use Rattle.app_message.specs.Spelling.{IsMessage, spelling}
use Rattle.app_message.specs.Stream.{fed_by, held_after, stream_of, walk}
use Rattle.app_message.specs.Telegram.{Telegram}
use Rattle.app_message.proofs.Again.{read_again}
use Rattle.device_map.specs.Requests.{request_at}
use Rattle.hex_lines.specs.Lines.{IsLine}
use Rattle.kept_history.specs.KeptRows.{is_read}
use Rattle.written_site.specs.SiteRun.{events_of}
use Rattle.chapters.specs.Lines.{request_decoded, request_in}
use Rattle.chapters.specs.RowText.{row_line, rows_text}
use Rattle.chapters.proofs.Octets.{spelled_octets}

no_feed : (x : ℕ) → is_hex_digit x ≡ true → not (eqb x 10) ≡ true
no_feed x digit = elim (cases_eq x 10) [
  | inl is ↦ absurd (cc (subst (λ (y : ℕ). is_hex_digit y ≡ true) is digit))
  | inr other ↦ ap not (ne_eqb x 10 other)
]

digits_plain : (xs : List ℕ) → AllByRecursion (λ x. is_hex_digit x ≡ true) xs → IsLine xs
digits_plain [] all = refl
digits_plain (x ∷ xs) all = rw (no_feed x all.0) (digits_plain xs all.1)

-- the hexadecimal of a message has no line feed
pub spelled_plain : (m : Telegram) → IsMessage m → IsLine (encode_lower (spelling m))
spelled_plain m valid =
    let text = encode_lower (spelling m) in
    let read = decode_of-encode_lower (spelling m) (spelled_octets m valid) in
    digits_plain text (recursion_from_All (λ x. is_hex_digit x ≡ true) text
    (decode_of-ok text (spelling m) read).1)

-- a message alone
pub alone_read : (m : Telegram) → IsMessage m
    → fed_by (held_after []) (spelling m) ≡ record { messages = m ∷ []; rest = []; fault = None }
unfolding walk
alone_read m valid =
    ap stream_of (sym (append-nil (spelling m))) ∙ read_again m [] valid

-- .. is read as its request
pub request_read : (m : Telegram) (actor : Actor) (event : Event) → IsMessage m
    → request_at m ≡ Ok (actor, event) → is_read event ≡ false
    → request_in (encode_lower (spelling m)) ≡ Some (actor, event)
request_read m actor event valid asks kept =
    ap request_decoded (decode_of-encode_lower (spelling m) (spelled_octets m valid))
    ∙ rw (alone_read m valid, asks, kept) refl

pub events_both : (a b : List Row) → events_of (a ++ b) ≡ events_of a ++ events_of b
events_both a b = map-append (λ r. (r.actor, r.event)) a b

pub texts_both : (a b : List Row) → rows_text (a ++ b) ≡ rows_text a ++ rows_text b
texts_both a b = flat_map-append row_line a b
