-- Who is told what.
use Rattle.std.proofs.Common.{◌≡◌, ℕ, Bool, true, false, List, [], ◌∷◌, ◌++◌, map, Option, Some}
use Rattle.std.proofs.Common.{None, Result, Ok, Err, refl, ap, sym, ◌∙◌}
use Rattle.std.specs.Prelude.{if◌then◌else◌}
use Rattle.site_base.specs.declared.answer.Answer.{Answer}
use Rattle.site_base.specs.declared.actor.Actor.{Actor}
use Rattle.site_base.specs.declared.actor.Actor.TheVariants.{Till}
use Rattle.site_base.specs.declared.event.Event.{Event}
use Rattle.site_base.specs.declared.event.Event.TheVariants.{SignOff, SignOn}
use Rattle.site_base.specs.declared.refusal.Refusal.{Refusal}
use Rattle.site_base.specs.declared.row.Row.{Row}
use Rattle.site_base.specs.SignChanges.{sign_change}
use Rattle.app_message.specs.Spelling.{spelling}
use Rattle.app_message.specs.Telegram.{Telegram}
use Rattle.device_map.specs.Changes.{change_of, change_where}
use Rattle.peer_talk.specs.Text.{is_same_node}
use Rattle.station.specs.Notices.{notice_at, row_notice}
use Rattle.station.specs.Listening.{is_at, listener}
use Rattle.station.specs.Peers.{forget_till, row_off, tell_notice, tell_row, tell_rows, till_off}
use Rattle.station.specs.Peers.{with_notices}
use Rattle.station.specs.PeerViews.{session_noticed, slot_forgotten, slot_noticed}
use Rattle.station.specs.Sessions.{Session}

-- ---- rows one after another

pub noticed_all-append : (a b : List Row) (x : Session)
    → tell_rows (a ++ b) x ≡ tell_rows b (tell_rows a x)
noticed_all-append [] b x = refl
noticed_all-append (r ∷ a) b x = noticed_all-append a b (tell_row r x)

pub with_notices-append : (a b : List Row) (peers : List (Option Session))
    → with_notices (a ++ b) peers ≡ with_notices b (with_notices a peers)
with_notices-append a b [] = refl
with_notices-append a b (None ∷ peers) = ap (λ ps. None ∷ ps) (with_notices-append a b peers)
with_notices-append a b (Some x ∷ peers) =
    let rest = with_notices-append a b peers in
    ap (λ y. Some y ∷ with_notices (a ++ b) peers) (noticed_all-append a b x)
    ∙ ap (λ ps. Some (tell_rows b (tell_rows a x)) ∷ ps) rest

pub with_notices-none : (peers : List (Option Session)) → with_notices [] peers ≡ peers
with_notices-none [] = refl
with_notices-none (None ∷ peers) = ap (λ ps. None ∷ ps) (with_notices-none peers)
with_notices-none (Some x ∷ peers) = ap (λ ps. Some x ∷ ps) (with_notices-none peers)

-- ---- a row without a change

-- all that it may do is sign a till off
unnoticed : (r : Row) (x : Session) → change_of r ≡ None → tell_row r x ≡ forget_till (row_off r) x
unnoticed r x none =
    ap (λ c. forget_till (row_off r) (tell_notice (notice_at c (listener x.end x.talk.peer)) x))
    none

pub with_notices-unchanged : (r : Row) (peers : List (Option Session)) → change_of r ≡ None
    → row_off r ≡ None → with_notices (r ∷ []) peers ≡ peers
with_notices-unchanged r [] none off = refl
with_notices-unchanged r (None ∷ peers) none off =
    ap (λ ps. None ∷ ps) (with_notices-unchanged r peers none off)
with_notices-unchanged r (Some x ∷ peers) none off =
    ap (λ y. Some y ∷ with_notices (r ∷ []) peers)
    (unnoticed r x none ∙ ap (λ o. forget_till o x) off)
    ∙ ap (λ ps. Some x ∷ ps) (with_notices-unchanged r peers none off)

-- a row that signs this till off
pub all_forgotten : (r : Row) (t : ℕ) (peers : List (Option Session)) → change_of r ≡ None
    → row_off r ≡ Some t → map (slot_forgotten t) peers ≡ with_notices (r ∷ []) peers
all_forgotten r t [] none off = refl
all_forgotten r t (None ∷ peers) none off =
    ap (λ ps. None ∷ ps) (all_forgotten r t peers none off)
all_forgotten r t (Some x ∷ peers) none off =
    ap (λ y. Some y ∷ map (slot_forgotten t) peers)
    (ap (λ o. forget_till o x) (sym off) ∙ sym (unnoticed r x none))
    ∙ ap (λ ps. Some (tell_row r x) ∷ ps) (all_forgotten r t peers none off)

pub no_sign_off_change : (reply : Result Answer Refusal) → change_where SignOff reply ≡ None
no_sign_off_change (Ok answer) = refl
no_sign_off_change (Err refusal) = refl

-- a refused row signs nobody off
pub refused_sign_off : (actor : Actor) (event : Event) (refusal : Refusal)
    → till_off (sign_change actor event (Err refusal)) ≡ None
refused_sign_off (Till t) SignOn refusal = refl
refused_sign_off (Till t) SignOff refusal = refl
refused_sign_off actor event refusal = refl

-- a row with a change signs nobody off
changes_sign_off : (actor : Actor) (event : Event) (reply : Result Answer Refusal) (m : Telegram)
    → change_where event reply ≡ Some m → till_off (sign_change actor event reply) ≡ None
changes_sign_off actor event (Err refusal) m is = absurd cc
changes_sign_off (Till t) SignOn (Ok answer) m is = absurd cc
changes_sign_off (Till t) SignOff (Ok answer) m is = absurd cc
changes_sign_off actor event (Ok answer) m is = refl

-- ---- nobody

pub nobody_noticed : (r : Row) → row_notice None r ≡ None
nobody_noticed r = by_change (change_of r)
  where
    by_change : (change : Option Telegram) → notice_at change None ≡ None
    by_change None = refl
    by_change (Some m) = refl

-- ---- a row with a change

one_noticed : (m : Telegram) (end_peer : Option (List ℕ)) (x : Session)
    → (if is_at end_peer m.to then tell_notice (Some (spelling m)) x else x)
    ≡ tell_notice (notice_at (Some m) end_peer) x
one_noticed m None x = refl
one_noticed m (Some node) x = by_test (is_same_node node m.to)
  where
    by_test : (b : Bool) → (if b then tell_notice (Some (spelling m)) x else x)
        ≡ tell_notice (if b then Some (spelling m) else None) x
    by_test true = refl
    by_test false = refl

pub session_told : (r : Row) (m : Telegram) (x : Session) → change_of r ≡ Some m
    → session_noticed m.to (spelling m) x ≡ tell_row r x
session_told r m x is =
    one_noticed m (listener x.end x.talk.peer) x
    ∙ ap (λ c. tell_notice (notice_at c (listener x.end x.talk.peer)) x) (sym is)
    ∙ ap (λ o. forget_till o (tell_notice (row_notice (listener x.end x.talk.peer) r) x))
    (sym (changes_sign_off r.actor r.event r.reply m is))

pub all_told : (r : Row) (m : Telegram) (peers : List (Option Session)) → change_of r ≡ Some m
    → map (slot_noticed m.to (spelling m)) peers ≡ with_notices (r ∷ []) peers
all_told r m [] is = refl
all_told r m (None ∷ peers) is = ap (λ ps. None ∷ ps) (all_told r m peers is)
all_told r m (Some x ∷ peers) is =
    ap (λ y. Some y ∷ map (slot_noticed m.to (spelling m)) peers) (session_told r m x is)
    ∙ ap (λ ps. Some (tell_row r x) ∷ ps) (all_told r m peers is)
