-- The peers of a station by their keys, and what rows tell them.
use Rattle.std.specs.Prelude.{ℕ, zero, suc, nat_lt, List, [], ◌∷◌, ◌++◌, length, map}
use Rattle.std.specs.Prelude.{Option, Some, None, option_map, is_none, if◌then◌else◌}
use Rattle.site_base.specs.declared.row.Row.{Row}
use Rattle.site_base.specs.declared.signing.SignChange.{SignChange}
use Rattle.site_base.specs.declared.signing.SignChange.TheVariants as changes
use Rattle.site_base.specs.SignChanges.{sign_change}
use Rattle.peer_talk.specs.Talks.{without_on}
use Rattle.station.specs.declared.peer_end.PeerEnd.TheVariants as ends
use Rattle.station.specs.declared.sizes.TheConstants.{NOTICE_LIMIT}
use Rattle.station.specs.Listening.{listener}
use Rattle.station.specs.Notices.{row_notice}
use Rattle.station.specs.Sessions.{Session}

-- the session of a key, if a peer has it
abbrev pub peer_at : List (Option Session) → ℕ → Option Session
peer_at [] k = None
peer_at (p ∷ peers) zero = p
peer_at (p ∷ peers) (suc k) = peer_at peers k

-- the peers with this one at a key
abbrev pub with_peer : ℕ → Option Session → List (Option Session) → List (Option Session)
with_peer zero x [] = x ∷ []
with_peer zero x (p ∷ peers) = x ∷ peers
with_peer (suc k) x [] = None ∷ with_peer k x []
with_peer (suc k) x (p ∷ peers) = p ∷ with_peer k x peers

-- a session is told a notice, if there is one; where it is owed too much, it ends instead
abbrev pub tell_notice : Option (List ℕ) → Session → Session
tell_notice None x = x
tell_notice (Some octets) x =
    if nat_lt NOTICE_LIMIT (length x.owed)
    then record x { end = Some ends.Behind }
    else record x { owed = x.owed ++ octets }

-- the till that a row signs off, if it does
abbrev pub till_off : Option SignChange → Option ℕ
till_off (Some (changes.Off t)) = Some t
till_off (Some (changes.On t)) = None
till_off None = None

abbrev pub row_off : Row → Option ℕ
row_off r = till_off (sign_change r.actor r.event r.reply)

-- a session that lasts forgets that it had signed this till on, if there is one
abbrev pub forget_till : Option ℕ → Session → Session
forget_till None x = x
forget_till (Some t) x =
    if is_none x.end
    then record x { talk = record x.talk { on = without_on t x.talk.on } }
    else x

-- .. of a row: its notice, if there is one; and if it signs off a till that the session had signed
-- on, the session forgets that
abbrev pub tell_row : Row → Session → Session
tell_row r x =
    forget_till (row_off r) (tell_notice (row_notice (listener x.end x.talk.peer) r) x)

-- .. of rows, in order
abbrev pub tell_rows : List Row → Session → Session
tell_rows [] x = x
tell_rows (r ∷ rows) x = tell_rows rows (tell_row r x)

-- all these peers are told of rows
abbrev pub with_notices : List Row → List (Option Session) → List (Option Session)
with_notices rows peers = map (option_map (tell_rows rows)) peers
