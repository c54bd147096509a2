-- What a session has done when it ends.
use Rattle.std.specs.Prelude.{◌≡◌, ℕ, ◌*◌, ◌≤◌, Bool, true, false, List, ◌++◌, length, map, take}
use Rattle.std.specs.Prelude.{min, Option, Some, None, IfSome, is_some}
use Rattle.std.specs.Io.KnownBytes.{Appends, Consumes}
use Rattle.site_base.specs.declared.row.Row.{Row}
use Rattle.devices.specs.Devices.{AppendsFront, greatest_count}
use Rattle.devices.specs.Transfer.{read_fault_number, write_fault_number}
use Rattle.app_message.specs.Stream.{stream_of}
use Rattle.till_session.specs.declared.fault.SessionFault.{SessionFault}
use Rattle.till_session.specs.declared.fault.SessionFault.TheVariants as faults
use Rattle.peer_talk.specs.declared.fault.TalkFault.{TalkFault}
use Rattle.till_session.specs.declared.session.SessionEnd.{SessionEnd}
use Rattle.devices.specs.declared.transfer.TheConstants.{PIECE_OCTETS}
use Rattle.peer_talk.specs.Exchanges.{Asked, outcome_given, request_asked}
use Rattle.till_session.specs.Counters.{IsLeft, is_the_one}
use Rattle.peer_talk.specs.Exchanges.{rows_made, signed_on_after}
use Rattle.peer_talk.specs.Talks.{TalkState}
use Rattle.peer_talk.specs.Text.{session_fault, session_requests, session_text, talk_number}

-- it ended for want of memory, at its turn limit, or because a device failed
abbrev pub is_early : Option SessionFault → Bool
is_early (Some faults.NoMemory) = true
is_early (Some (faults.Read f)) = true
is_early (Some (faults.Write f)) = true
is_early fault = false

abbrev pub as_session_fault : Option TalkFault → Option SessionFault
as_session_fault None = None
as_session_fault (Some f) = Some (faults.Talk f)

-- What a session has done before a till is left: as `Served` says of its end.
pub record Conversed (turns : ℕ) (fault : Option SessionFault) (new : TalkState)
    (left left' holds holds' : Option (List ℕ)) (rows rows' : List Row) (owes owes' : ℕ → Bool) :
    Type 0 where
  pub read : List ℕ
  pub consumed : Consumes left left' read
  pub few : length read ≤ turns * PIECE_OCTETS
  pub asked : List Asked
  pub requests : map request_asked asked ≡ take (length asked) (session_requests (stream_of read))
  pub counted : new.asked ≡ min (length asked) greatest_count
  pub recorded : rows' ≡ rows ++ rows_made asked
  pub on : new.on ≡ signed_on_after None asked
  pub owed : IfSome new.on (λ t. owes' t ≡ true)
  pub alone : ((t : ℕ) → owes t ≡ false) → (t : ℕ) → owes' t ≡ is_the_one new.on t
  pub front : AppendsFront holds holds' (session_text (stream_of read) (map outcome_given asked))
  pub all_asked : is_early fault ≡ false → length asked ≡ length (session_requests (stream_of read))
  pub whole : is_early fault ≡ false
      → Appends holds holds' (session_text (stream_of read) (map outcome_given asked))
  pub exact : is_early fault ≡ false → fault ≡ as_session_fault (session_fault (stream_of read))

-- the record of a counter whose till was left, or wasn't there to be left
abbrev pub IsClosed : Option ℕ → List Row → List Row → Type 0
IsClosed None old new = new ≡ old
IsClosed (Some t) old new = IsLeft t old new

-- Some octets were read, a piece a turn at most, and the first requests among their messages were
-- asked, in order; their rows are in the counter's record, and behind them at most the sign-off of
-- the till that these requests signed on and didn't sign off, which the counter was told to leave.
-- A front of the text of what was read, with the answers that these requests were given, was
-- written. Where the session didn't end early, all requests were asked, the whole text was written,
-- and the fault is the text's.
pub record Served (turns : ℕ) (left left' holds holds' : Option (List ℕ)) (rows rows' : List Row)
    (end : SessionEnd) : Type 0 where
  pub read : List ℕ
  pub consumed : Consumes left left' read
  pub few : length read ≤ turns * PIECE_OCTETS
  pub asked : List Asked
  pub requests : map request_asked asked ≡ take (length asked) (session_requests (stream_of read))
  pub counted : end.asked ≡ min (length asked) greatest_count
  pub recorded : IsClosed (signed_on_after None asked) (rows ++ rows_made asked) rows'
  pub signed_off : end.signed_off ≡ is_some (signed_on_after None asked)
  pub front : AppendsFront holds holds' (session_text (stream_of read) (map outcome_given asked))
  pub all_asked : is_early end.fault ≡ false
      → length asked ≡ length (session_requests (stream_of read))
  pub whole : is_early end.fault ≡ false
      → Appends holds holds' (session_text (stream_of read) (map outcome_given asked))
  pub exact : is_early end.fault ≡ false
      → end.fault ≡ as_session_fault (session_fault (stream_of read))

-- the number by which a fault that ends a session is told
abbrev pub session_number : SessionFault → ℕ
session_number faults.NoMemory = 31
session_number (faults.Read f) = read_fault_number f
session_number (faults.Write f) = write_fault_number f
session_number faults.Accept = 63
session_number (faults.Talk f) = talk_number f
