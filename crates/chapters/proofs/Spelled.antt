-- A request that was read can be spelled.
use Rattle.std.proofs.Common.{◌≡◌, ℕ, List, [], ◌∷◌, Option, Some, None, Result, Ok, Err, refl}
use Rattle.std.proofs.Common.{arith, subst}
use Rattle.std.specs.List.{AllByRecursion}
use Rattle.std.proofs.lemmas.Option.{none-some}
use Rattle.hex.specs.Hex.{decode_of}
use Rattle.hex.specs.declared.error.FromHexError.{FromHexError}
use Rattle.hex.proofs.HexLemmas.{decode_of-ok}
use Rattle.site_base.specs.declared.actor.Actor.{Actor}
use Rattle.site_base.specs.declared.event.Event.{Event}
use Rattle.site_base.specs.declared.row.Row.{Row}
use Rattle.app_message.specs.declared.fault.StreamFault.{StreamFault}
use Rattle.app_message.specs.Spelling.{IsMessage}
use Rattle.app_message.specs.Stream.{stream_of, walk}
use Rattle.app_message.specs.Telegram.{Telegram}
use Rattle.app_message.proofs.SpelledStreams.{octets_are_spelled}
use Rattle.device_map.specs.declared.fault.MapFault.{MapFault}
use Rattle.device_map.specs.Laws.{AsksFor}
use Rattle.device_map.specs.Requests.{request_at}
use Rattle.device_map.specs.Ways.{request_by, way_to}
use Rattle.device_map.proofs.OneRequest.{alone}
use Rattle.written_site.specs.SiteRun.{events_of}
use Rattle.chapters.specs.Lines.{request_alone, request_decoded, request_meant}
use Rattle.chapters.specs.RowText.{CanBeSpelled}
use Rattle.chapters.proofs.Asked.{kept_alone}

-- the request, with token 0, can be spelled
abbrev pub IsSpelled : Actor × Event → Type 0
IsSpelled e = AsksFor 0 e.0 e.1 (request_by 0 e.0 (way_to e.1))

-- whatever token it was told with
pub told_again : (m : Telegram) (actor : Actor) (event : Event) → IsMessage m
    → request_at m ≡ Ok (actor, event) → IsSpelled (actor, event)
unfolding request_at
told_again m actor event valid is =
    let told : Telegram = record m { token = 0 } in
    let asks : AsksFor 0 actor event told = record {
      message = record {
        head = record {
          to_size = valid.head.to_size;
          to_octets = valid.head.to_octets;
          from_size = valid.head.from_size;
          from_octets = valid.head.from_octets;
          in_range = omega arith;
        };
        address_least = valid.address_least;
        address_most = valid.address_most;
        address_octets = valid.address_octets;
        items = valid.items;
        least = valid.least;
        most = valid.most;
      };
      told = refl;
      asks = is;
    } in
    subst (λ (x : Telegram). AsksFor 0 actor event x) (alone 0 actor event told asks) asks

meant_spelled : (m : Telegram) (r : Result (Actor × Event) MapFault) (e : Actor × Event)
    → IsMessage m → request_at m ≡ r → request_meant r ≡ Some e → IsSpelled e
meant_spelled m (Ok request) e valid at is =
    subst IsSpelled (kept_alone request e is).0 (told_again m request.0 request.1 valid at)
meant_spelled m (Err f) e valid at is = absurd (none-some e is)

alone_spelled : (ms : List Telegram) (rest : List ℕ) (fault : Option StreamFault)
    (e : Actor × Event) → AllByRecursion IsMessage ms → request_alone ms rest fault ≡ Some e
    → IsSpelled e
alone_spelled (m ∷ []) [] None e valid is = meant_spelled m (request_at m) e valid.0 refl is
alone_spelled ms rest fault e valid is = absurd (none-some e is)

pub line_spelled : (line : List ℕ) (r : Result (List ℕ) FromHexError) (e : Actor × Event)
    → decode_of line ≡ r → request_decoded r ≡ Some e → IsSpelled e
unfolding walk
line_spelled line (Ok octets) e decoded is =
    let s = stream_of octets in
    alone_spelled s.messages s.rest s.fault e
    (octets_are_spelled octets (decode_of-ok line octets decoded).3).valid is
line_spelled line (Err f) e decoded is = absurd (none-some e is)

pub rows_spelled : (rows : List Row) → AllByRecursion IsSpelled (events_of rows) → CanBeSpelled rows
rows_spelled [] all = tt
rows_spelled (r ∷ rows) all = (all.0, rows_spelled rows all.1)
