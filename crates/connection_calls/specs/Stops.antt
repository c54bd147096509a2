-- Calls of connections that passed nothing.
use Rattle.std.specs.declared.io.ErrorKind.{ErrorKind}
use Rattle.std.specs.declared.io.ErrorKind.TheVariants as kinds
use Rattle.connection_calls.specs.declared.call.Call.{Call}
use Rattle.connection_calls.specs.declared.call.Call.TheVariants as calls

-- What became of a call that passed nothing, and answered an error of this kind: it may be made
-- again, nothing can pass for now, or the connection failed.
abbrev pub call_of : ErrorKind → Call
call_of kinds.Interrupted = calls.Interrupted
call_of kinds.WouldBlock = calls.Waits
call_of kind = calls.Failed

-- it passed no octet, and doesn't say that no more come
abbrev pub IsStop : Call → Type 0
IsStop (calls.Passed n) = ⊥
IsStop calls.Ended = ⊥
IsStop call = Unit {0}
