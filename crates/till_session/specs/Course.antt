-- A session in its course: what some messages lead to.
use Rattle.std.specs.Prelude.{◌≡◌, ℕ, true, false, List, [], ◌∷◌, ◌++◌, Bool}
use Rattle.std.specs.Prelude.{Option, Some, None, IfSome}
use Rattle.std.specs.Io.KnownBytes.{Appends}
use Rattle.site_base.specs.declared.row.Row.{Row}
use Rattle.devices.specs.Devices.{one_more}
use Rattle.app_message.specs.declared.fault.StreamFault.{StreamFault}
use Rattle.app_message.specs.Spelling.{spelling}
use Rattle.app_message.specs.Telegram.{Telegram}
use Rattle.device_map.specs.Replies.{fault_message}
use Rattle.peer_talk.specs.declared.fault.TalkFault.TheVariants as talk
use Rattle.peer_talk.specs.declared.fault.TalkFault.TheVariants.{OriginatorChanged}
use Rattle.peer_talk.specs.Exchanges.{Asked, rows_made}
use Rattle.peer_talk.specs.Exchanges.{signed_on_after}
use Rattle.peer_talk.specs.Talks.{GoesOn, IsCut, IsOver, TalkState}
use Rattle.conversation.specs.declared.said.Said.{Said}
use Rattle.conversation.specs.declared.said.Said.TheVariants as says
use Rattle.till_session.specs.declared.fault.SessionFault.{SessionFault}
use Rattle.till_session.specs.declared.fault.SessionFault.TheVariants as faults
use Rattle.till_session.specs.Counters.{is_the_one}

-- it ends a session in the middle of a reply: a failed allocation, a writer that takes no more
abbrev pub ends_early : SessionFault → Bool
ends_early faults.NoMemory = true
ends_early (faults.Write f) = true
ends_early fault = false

-- it ends a session while messages are answered: so, or another originator
abbrev pub ends_talk : SessionFault → Bool
ends_talk (faults.Talk OriginatorChanged) = true
ends_talk fault = ends_early fault

-- a session ends at a fault of its octets: its refusal was written, unless the session ended early
abbrev pub EndsStream : StreamFault → SessionFault → Option (List ℕ) → Option (List ℕ) → Type 0
EndsStream f (faults.Talk fault) holds holds' =
    (fault ≡ talk.Stream f.fault) × Appends holds holds' (spelling (fault_message f))
EndsStream f fault holds holds' = ends_early fault ≡ true

-- how messages were answered: all of them; up to another originator; or up to a fault of the
-- session's own
abbrev pub AreHeard : Option SessionFault → Option (List ℕ) → Option (List ℕ) → List Telegram
    → List Asked → List ℕ → Type 0
AreHeard None peer peer' ms asked said = GoesOn peer peer' ms asked said
AreHeard (Some (faults.Talk OriginatorChanged)) peer peer' ms asked said = IsOver peer ms asked said
AreHeard (Some fault) peer peer' ms asked said = IsCut peer ms asked said

-- a count of requests asked, after these
abbrev pub asked_more : ℕ → List Asked → ℕ
asked_more n [] = n
asked_more n (a ∷ asked) = asked_more (one_more n) asked

-- how a session goes on after what was said to a message, which was written
abbrev pub end_with : Said → Option SessionFault
end_with says.Another = Some (faults.Talk OriginatorChanged)
end_with said = None

-- Some messages were heard, some requests were asked, and this was said, which was written. The
-- counter has the rows of these requests. Where it owed just the till that the session signed on,
-- it does again.
pub record Talked (fault : Option SessionFault) (old new : TalkState) (ms : List Telegram)
    (holds holds' : Option (List ℕ)) (rows rows' : List Row) (owes owes' : ℕ → Bool) : Type 0 where
  pub asked : List Asked
  pub said : List ℕ
  pub heard : AreHeard fault old.peer new.peer ms asked said
  pub written : Appends holds holds' said
  pub recorded : rows' ≡ rows ++ rows_made asked
  pub counted : new.asked ≡ asked_more old.asked asked
  pub on : new.on ≡ signed_on_after old.on asked
  pub owed : IfSome old.on (λ t. owes t ≡ true) → IfSome new.on (λ t. owes' t ≡ true)
  pub alone : ((t : ℕ) → owes t ≡ is_the_one old.on t) → (t : ℕ) → owes' t ≡ is_the_one new.on t
