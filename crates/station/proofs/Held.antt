-- At most 1,031 octets are held of a message to come, whatever was heard.
use Rattle.std.proofs.Common.{◌≡◌, ℕ, zero, suc, ◌+◌, ◌≤◌, List, [], length, Some, Result, Ok}
use Rattle.std.proofs.Common.{Err, arith, subst}
use Rattle.std.proofs.lemmas.List.{length-drop}
use Rattle.site_book.specs.Book.{Book}
use Rattle.app_message.specs.Grammar.{Halt, Header, address_at, body_at, front_at, header_at}
use Rattle.app_message.specs.Grammar.{item_at, items_at, short}
use Rattle.app_message.specs.Stream.{Held, fed_by, walk}
use Rattle.app_message.specs.Telegram.{Telegram}
use Rattle.app_message.proofs.Cutting.{front_taken}
use Rattle.app_message.proofs.Taking.{header_takes}
use Rattle.station.specs.Gates.{GateState}
use Rattle.station.specs.Peers.{peer_at}
use Rattle.station.specs.Runs.{Move, after, opening_station}
use Rattle.station.specs.Sessions.{Session}
use Rattle.station.proofs.Keeping.{EachKeeps, HoldsAt, each_keep}

-- ---- octets without a whole message

-- this stage of the grammar doesn't want more octets
abbrev IsEnough : {A : Type 0} → Result A Halt → Type 0
IsEnough r = r ≡ Err short → ⊥

header_enough : (s : List ℕ) → 8 ≤ length s → IsEnough (header_at s)
unfolding header_at
header_enough s long is = grind arith

item_enough : (low : ℕ) (s : List ℕ) → IsEnough (item_at low s)
unfolding item_at
item_enough low s is = grind arith

items_enough : (n low : ℕ) (s : List ℕ) → IsEnough (items_at n low s)
unfolding items_at
items_enough zero low s is = cc
items_enough (suc n) low s is = grind (arith, item_enough, items_enough n)

body_enough : (h : Header) (s : List ℕ) → IsEnough (body_at h s)
unfolding address_at body_at
body_enough h s is = grind (arith, items_enough)

header_most : (s : List ℕ) (h : Header) → header_at s ≡ Ok h → h.len ≤ 1024
header_most s h is = (header_takes s h is).most

-- only the octets of a header, or of a body whose length it says, are waited for
short_few : (s : List ℕ) → front_at s ≡ Err short → length s ≤ 1031
unfolding front_at
short_few s is = grind (arith, header_enough, header_most, body_enough, length-drop {A = ℕ})

-- ---- what is held

pub front_eight : (s : List ℕ) (x : Telegram × List ℕ) → front_at s ≡ Ok x
    → length x.1 + 8 ≤ length s
front_eight s x is = (front_taken s x is).eight

rest_few : (n : ℕ) (s : List ℕ) → length s ≤ n → length (walk n s).rest ≤ 1031
unfolding walk
rest_few zero s within = omega arith
rest_few (suc n) s within = grind (arith, front_eight, short_few, rest_few n)

-- a piece leaves few octets, whatever was held
pub left_few : (h : Held) (piece : List ℕ) → length (fed_by h piece).rest ≤ 1031
left_few h piece = grind (arith, rest_few)

abbrev HoldsFew : Session → Type 0
HoldsFew x = length x.held.rest ≤ 1031

few_kept : EachKeeps HoldsFew
few_kept = record {
  opens = λ door. rest_few 0 [] (omega arith);
  forgets = λ t x few. few;
  holds = λ piece x few. left_few x.held piece;
  turns = record {
    serves = λ from t lasts few. few;
    asks = λ memory m actor event t lasts is spoken few. few;
    tells = λ text t lasts few. few;
    ends = λ end t lasts few. few;
  };
  takes = λ n x few. few;
}

pub always_few : (g : GateState) (b : Book) (ms : List Move) (k : ℕ) (x : Session)
    → peer_at (after ms (opening_station g b)).peers k ≡ Some x → length x.held.rest ≤ 1031
always_few g b ms k x there =
    subst (HoldsAt HoldsFew) there (each_keep few_kept ms (opening_station g b) (λ j. tt) k)
