-- How many octets are told at once: what is said to a message, a refusal, notices.
use Rattle.std.proofs.Common.{◌≡◌, ℕ, zero, suc, ◌+◌, ◌*◌, ◌≤◌, Bool, true, false, List, []}
use Rattle.std.proofs.Common.{◌∷◌, ◌++◌, length, Option, Some, None, Result, Ok, Err}
use Rattle.std.proofs.Common.{refl, arith, lit≤}
use Rattle.std.specs.Prelude.{IfSome, if◌then◌else◌, slice_index}
use Rattle.std.specs.Int.{to_be_bytes, w16}
use Rattle.std.specs.List.{AllByRecursion, flat_map}
use Rattle.std.proofs.lemmas.List.{length-append, length-take}
use Rattle.site_base.specs.declared.answer.Answer.{Answer}
use Rattle.site_base.specs.declared.answer.Answer.TheVariants as answers
use Rattle.site_base.specs.declared.event.Event.{Event}
use Rattle.site_base.specs.declared.event.Event.TheVariants as events
use Rattle.site_base.specs.declared.limits.TheConstants.{POINTS}
use Rattle.site_base.specs.declared.refusal.Refusal.{Refusal}
use Rattle.site_base.specs.declared.row.Row.{Row}
use Rattle.site_base.specs.declared.state.PointState.{PointState}
use Rattle.site_base.specs.declared.state.PointState.TheVariants as states
use Rattle.site_base.specs.declared.state.Preset.{Preset}
use Rattle.site_base.specs.declared.state.Preset.TheVariants.{Unset, Volume, Money}
use Rattle.site_base.specs.declared.view.PointView.{PointView}
use Rattle.site_base.specs.Ranges.{is_between}
use Rattle.site_base.specs.Refusals.{no_row_number, refusal_detail, refusal_number}
use Rattle.app_message.specs.declared.fault.StreamFault.{StreamFault}
use Rattle.app_message.specs.Grammar.{Halt, address_at, body_at, fault, front_at}
use Rattle.app_message.specs.Grammar.{header_at, short}
use Rattle.app_message.specs.Numbers.{grammar_number}
use Rattle.app_message.specs.Spelling.{body, head_text, item_text, kind_code, spelling}
use Rattle.app_message.specs.Stream.{Held, fed_by, fed_from, stream_on, walk}
use Rattle.app_message.specs.Telegram.{Entry, Telegram}
use Rattle.device_map.specs.declared.ids.TheConstants as ids
use Rattle.device_map.specs.Changes.{change_by, change_of, change_where}
use Rattle.device_map.specs.Items.{octet, two_octets, four_octets, eight_octets}
use Rattle.device_map.specs.Replies.{answer_items, detail_items, fault_message, number_message}
use Rattle.device_map.specs.Replies.{preset_items, prepaid_items, reply_items, reply_message}
use Rattle.device_map.specs.Replies.{standing_items, test_items}
use Rattle.peer_talk.specs.Exchanges.{Outcome}
use Rattle.peer_talk.specs.Text.{is_same_node, number_text, outcome_text}
use Rattle.site_book.specs.Book.{Book, site_of_book}
use Rattle.station.specs.Notices.{events_text, notice_at, octets_of, row_notice}
use Rattle.station.specs.Owing.{REPLY_OCTETS, STANDING_OCTETS}
use Rattle.station.specs.Sessions.{opening_text}
use Rattle.station.specs.Standing.{standing_at, standing_by}
use Rattle.station.specs.Standing.{standing_in}
use Rattle.written_site.specs.SiteState.{SiteState, view_point}

-- ---- the messages of a stream

-- its originator has two octets, and its address eight at most
pub record IsShort (m : Telegram) : Type 0 where
  pub from : length m.from ≤ 2
  pub address : length m.address ≤ 8

front_from : (s : List ℕ) (x : Telegram × List ℕ) → front_at s ≡ Ok x → length x.0.from ≤ 2
unfolding front_at header_at body_at
front_from s x is = grind arith

front_address : (s : List ℕ) (x : Telegram × List ℕ) → front_at s ≡ Ok x → length x.0.address ≤ 8
unfolding front_at body_at address_at
front_address s x is = grind (arith, length-take {A = ℕ})

walk_short : (n : ℕ) (s : List ℕ) → AllByRecursion IsShort (walk n s).messages
unfolding walk
walk_short zero s = tt
walk_short (suc n) s = by_front (front_at s) refl (walk_short n)
  where
    by_front : (r : Result (Telegram × List ℕ) Halt) → front_at s ≡ r
        → ((rest : List ℕ) → AllByRecursion IsShort (walk n rest).messages)
        → AllByRecursion IsShort (stream_on s (walk n) r).messages
    by_front (Ok x) is rest =
        (record { from = front_from s x is; address = front_address s x is }, rest x.1)
    by_front (Err short) is rest = tt
    by_front (Err (fault f)) is rest = tt

-- the originator of a stream's fault has two octets
abbrev pub IsShortFault : Option StreamFault → Type 0
IsShortFault f = IfSome f (λ g. length g.originator ≤ 2)

pub walk_fault : (n : ℕ) (s : List ℕ) → IsShortFault (walk n s).fault
unfolding walk
walk_fault zero s = tt
walk_fault (suc n) s = by_front (front_at s) (walk_fault n)
  where
    by_front : (r : Result (Telegram × List ℕ) Halt)
        → ((rest : List ℕ) → IsShortFault (walk n rest).fault)
        → IsShortFault (stream_on s (walk n) r).fault
    by_front (Ok x) rest = rest x.1
    by_front (Err short) rest = tt
    by_front (Err (fault f)) rest = lit≤ tt

pub fed_short : (h : Held) (piece : List ℕ) → AllByRecursion IsShort (fed_by h piece).messages
fed_short h piece = by h.fault
  where
    by : (f : Option StreamFault) → AllByRecursion IsShort (fed_from f (h.rest ++ piece)).messages
    by None = walk_short (length (h.rest ++ piece)) (h.rest ++ piece)
    by (Some f) = tt

pub fed_fault : (h : Held) (piece : List ℕ) → IsShortFault h.fault
    → IsShortFault (fed_by h piece).fault
fed_fault h piece held = by h.fault held
  where
    by : (f : Option StreamFault) → IsShortFault f
        → IsShortFault (fed_from f (h.rest ++ piece)).fault
    by None held = walk_fault (length (h.rest ++ piece)) (h.rest ++ piece)
    by (Some f) held = held

-- ---- what is said

spelled_size : (m : Telegram)
    → length (spelling m)
    ≤ length m.to + length m.from + length m.address + length (flat_map item_text m.items) + 5
spelled_size m =
    let n = length (body m) in
    let tail : List ℕ = 0 ∷ (kind_code m.kind * 32 + m.token) ∷ to_be_bytes w16 n in
    let four : length tail ≡ 4 = refl in
    let one : length (body m) ≡ suc (length (m.address ++ flat_map item_text m.items)) = refl in
    let head : length (head_text m n) ≡ length ((m.to ++ m.from) ++ tail) = refl in
    let whole : length (spelling m) ≡ length (head_text m n ++ body m) = refl in
    omega (
      arith,
      one,
      head,
      whole,
      length-append (head_text m n) (body m),
      length-append (m.to ++ m.from) tail,
      length-append m.to m.from,
      four,
      length-append m.address (flat_map item_text m.items),
    )

abbrev HasFew : List Entry → Type 0
HasFew items = length (flat_map item_text items) ≤ 72

point_few : (v : PointView) (test : Bool) (preset : Preset) (prepaid : Option ℕ)
    → HasFew (standing_items v ++ test_items test ++ preset_items preset
    ++ four_octets ids.PRICE v.price ++ eight_octets ids.VOLUME v.volume ++ prepaid_items prepaid)
unfolding standing_items octet two_octets four_octets eight_octets
point_few v true Unset None = lit≤ tt
point_few v true Unset (Some cents) = lit≤ tt
point_few v true (Volume n) None = lit≤ tt
point_few v true (Volume n) (Some cents) = lit≤ tt
point_few v true (Money n) None = lit≤ tt
point_few v true (Money n) (Some cents) = lit≤ tt
point_few v false Unset None = lit≤ tt
point_few v false Unset (Some cents) = lit≤ tt
point_few v false (Volume n) None = lit≤ tt
point_few v false (Volume n) (Some cents) = lit≤ tt
point_few v false (Money n) None = lit≤ tt
point_few v false (Money n) (Some cents) = lit≤ tt

start_few : (preset : Preset) (price : ℕ) → HasFew (answer_items (answers.Start preset price))
unfolding octet two_octets four_octets eight_octets
start_few Unset price = lit≤ tt
start_few (Volume n) price = lit≤ tt
start_few (Money n) price = lit≤ tt

answer_few : (answer : Answer) → HasFew (answer_items answer)
unfolding octet two_octets four_octets eight_octets
answer_few (answers.PointIs view) = point_few view view.test view.preset view.prepaid
answer_few (answers.Start preset price) = start_few preset price
answer_few answer = lit≤ tt

refusal_few : (number : ℕ) (detail : Option ℕ)
    → HasFew (octet ids.RESULT number ++ detail_items detail)
unfolding octet two_octets four_octets eight_octets
refusal_few number None = lit≤ tt
refusal_few number (Some detail) = lit≤ tt

number_few : (number : ℕ) → HasFew (octet ids.RESULT number)
unfolding octet
number_few number = lit≤ tt

reply_few : (reply : Result Answer Refusal) → HasFew (reply_items reply)
reply_few (Ok answer) = answer_few answer
reply_few (Err refusal) = refusal_few (refusal_number refusal) (refusal_detail refusal)

pub number_size : (m : Telegram) (number : ℕ) → IsShort m
    → length (number_text m number) ≤ REPLY_OCTETS
number_size m number is =
    omega (arith, spelled_size (number_message m number), number_few number, is.from, is.address)

pub outcome_size : (m : Telegram) (outcome : Outcome) → IsShort m
    → length (outcome_text m outcome) ≤ REPLY_OCTETS
outcome_size m (Ok reply) is =
    omega (arith, spelled_size (reply_message m reply), reply_few reply, is.from, is.address)
outcome_size m (Err no_row) is = number_size m (no_row_number no_row) is

pub refusal_size : (f : StreamFault) → length f.originator ≤ 2
    → length (spelling (fault_message f)) ≤ REPLY_OCTETS
refusal_size f is = omega (arith, spelled_size (fault_message f), number_few (grammar_number f.fault), is)

-- ---- notices

-- one of an event has 21 octets at most
abbrev IsFew : Option Telegram → Type 0
IsFew change = IfSome change (λ m. length (spelling m) ≤ 21)

release_few : (p : ℕ) (preset : Preset) → IsFew (change_by (events.Release p preset))
unfolding four_octets
release_few p Unset = lit≤ tt
release_few p (Volume n) = lit≤ tt
release_few p (Money n) = lit≤ tt

change_few : (e : Event) → IsFew (change_by e)
unfolding four_octets
change_few (events.Release p preset) = release_few p preset
change_few (events.Open p) = lit≤ tt
change_few (events.Close p) = lit≤ tt
change_few (events.Prepay p cents) = lit≤ tt
change_few (events.TestRelease p) = lit≤ tt
change_few (events.Suspend p) = lit≤ tt
change_few (events.Resume p) = lit≤ tt
change_few (events.Terminate p) = lit≤ tt
change_few e = tt

at_few : (change : Option Telegram) (to : Option (List ℕ)) → IsFew change
    → length (octets_of (notice_at change to)) ≤ 21
at_few None to few = lit≤ tt
at_few (Some m) None few = lit≤ tt
at_few (Some m) (Some node) few = by_test (is_same_node node m.to)
  where
    by_test : (b : Bool) → length (octets_of (if b then Some (spelling m) else None)) ≤ 21
    by_test true = few
    by_test false = lit≤ tt

pub notice_size : (r : Row) (node : Option (List ℕ)) → length (octets_of (row_notice node r)) ≤ 21
notice_size r node = at_few (change_of r) node (by_reply r.reply)
  where
    by_reply : (reply : Result Answer Refusal) → IsFew (change_where r.event reply)
    by_reply (Ok answer) = change_few r.event
    by_reply (Err refusal) = tt

events_size : (node : List ℕ) (es : List Event) → length (events_text node es) ≤ length es * 21
events_size node [] = lit≤ tt
events_size node (e ∷ es) =
    omega (
      arith,
      length-append (octets_of (notice_at (change_by e) (Some node))) (events_text node es),
      at_few (change_by e) (Some node) (change_few e),
      events_size node es,
    )

standing_three : (s : PointState) (p : ℕ) (v : PointView) → length (standing_in s p v) ≤ 3
standing_three states.Inoperative p v = lit≤ tt
standing_three states.Closed p v = lit≤ tt
standing_three states.Idle p v = lit≤ tt
standing_three states.Calling p v = lit≤ tt
standing_three states.Authorised p v = lit≤ tt
standing_three states.Started p v = lit≤ tt
standing_three states.SuspendedStarted p v = lit≤ tt
standing_three states.Fuelling p v = lit≤ tt
standing_three states.SuspendedFuelling p v = lit≤ tt

standing_few : (s : SiteState) (p : ℕ) → length (standing_at s p) ≤ 3
standing_few s p = by_test (is_between 1 POINTS p)
  where
    by_view : (v : Option PointView) → length (standing_by p v) ≤ 3
    by_view None = lit≤ tt
    by_view (Some v) = standing_three v.state p v

    by_test : (b : Bool)
        → length (if b then standing_by p (view_point s p) else []) ≤ 3
    by_test true = by_view (view_point s p)
    by_test false = lit≤ tt

-- .. unless the session serves somebody
abbrev pub opening_room : Option (List ℕ) → ℕ
opening_room None = STANDING_OCTETS
opening_room (Some peer) = 0

pub opening_size : (peer : Option (List ℕ)) (from : List ℕ) (b : Book)
    → length (opening_text peer from b) ≤ opening_room peer
opening_size (Some peer) from b = lit≤ tt
opening_size None from b =
    let p = slice_index from 1 in
    omega (
      arith,
      events_size from (standing_at (site_of_book b) p),
      standing_few (site_of_book b) p,
    )
