use Rattle.std.proofs.Common.{◌∙◌, ℕ, Some, ap, arith, refl, rules, sym, take}
use Rattle.std.proofs.lemmas.Result.{err_from_is_err_and}
use Rattle.till_session.specs.declared.fault.SessionFault.{SessionFault}
use Rattle.devices.specs.declared.transfer.TheConstants.{PIECE_OCTETS}
use Rattle.till_session.specs.Ends.{is_early}
use Rattle.till_session.proofs.Conversing.{ends_faulty, ends_heard, ends_read, ends_unfed}
use Rattle.till_session.proofs.Conversing.{ends_unread, goes_on, is_small, starts}
use Rattle.till_session.proofs.session.converse.Goals as goal

pub loop-messages-init : goal.loop-messages-init
loop-messages-init g c = record {
  so_far = rw (c.requires, c.new-decoder.ensures) (starts _ _ _ _ _);
  reads = refl;
  writes = refl;
  unturned = omega arith;
}

-- nothing more could be read
pub returns-in_err-n-clause-conversed : goal.returns-in_err-n-clause-conversed
returns-in_err-n-clause-conversed g c =
    let p = err_from_is_err_and c.from_residual.result c.from_residual.ensures.1 in
    rw p.1
    (ends_unread _ _ p.0 _ _ _ _ _ _ _ _ _ _ _ (ap (λ (f : SessionFault). is_early (Some f)) p.2)
    c.loop-messages.invariant.so_far c.in_err-n.ensures.err)

-- there is no more to read
pub returns-then-n-eq0-clause-conversed : goal.returns-then-n-eq0-clause-conversed
returns-then-n-eq0-clause-conversed g c =
    let none = ap (λ (k : ℕ). take k c.read_piece.new.buf) c.if-n-eq0.true in
    ends_read _ _ _ _ _ _ _ _ _ _ _ _ _ _ _ c.loop-messages.invariant.so_far none
    c.in_ok-n.ensures.bytes c.end_of.ensures

-- there was no memory for the messages of a piece
pub returns-in_err-fault-clause-conversed : goal.returns-in_err-fault-clause-conversed
returns-in_err-fault-clause-conversed g c =
    let p = err_from_is_err_and c.from_residual-in_err-fault.result
    c.from_residual-in_err-fault.ensures.1 in
    rw p.1
    (ends_unfed _ _ c.read_piece.new.turns p.0 _ _ _ _ _ _ _ _ _ _ _ _
    (ap (λ (f : SessionFault). is_early (Some f)) p.2) c.loop-messages.invariant.so_far
    c.in_ok-n.ensures.bytes
    (is_small c.in_ok-n.n c.read_piece.new.buf PIECE_OCTETS c.in_ok-n.ensures.bound (search rules))
    c.in_ok-n.ensures.spent)

-- the talk of its messages ended
pub returns-in_err-hear-clause-conversed : goal.returns-in_err-hear-clause-conversed
returns-in_err-hear-clause-conversed g c =
    let messages = c.as_slice.ensures ∙ c.in_ok-fault.ensures.messages in
    let talked = rw messages at c.in_err-hear.ensures.talked in
    let p = err_from_is_err_and c.from_residual-in_err-hear.result
    c.from_residual-in_err-hear.ensures.1 in
    let ends =
    ends_heard _ _ c.read_piece.new.turns c.in_err-hear.field-0.0 _ _ _ _ _ _ _ _ _ _ _ _ _ _ _ _
    c.in_err-hear.ensures.ends c.loop-messages.invariant.so_far c.in_ok-n.ensures.bytes
    (is_small c.in_ok-n.n c.read_piece.new.buf PIECE_OCTETS c.in_ok-n.ensures.bound (search rules))
    c.in_ok-n.ensures.spent talked in
    rw (p.1, p.2) ends

-- the octets have a fault
pub returns-in-Some-clause-conversed : goal.returns-in-Some-clause-conversed
returns-in-Some-clause-conversed g c =
    let messages = c.as_slice.ensures ∙ c.in_ok-fault.ensures.messages in
    let talked = rw messages at c.in_ok-hear.ensures.talked in
    let fault = sym c.in_ok-fault.ensures.fault ∙ c.in-Some.is in
    rw c.refuse_stream.ensures.same
    (ends_faulty c.refuse_stream.result _ _ c.read_piece.new.turns c.in-Some.fault _ _ _ _ _ _ _ _ _
    _ _ _ _ _ _ _ _ c.loop-messages.invariant.so_far c.in_ok-n.ensures.bytes
    (is_small c.in_ok-n.n c.read_piece.new.buf PIECE_OCTETS c.in_ok-n.ensures.bound (search rules))
    c.in_ok-n.ensures.spent fault talked c.refuse_stream.ensures.front
    c.refuse_stream.ensures.never_well c.refuse_stream.ensures.ends)

pub loop-messages-preserved : goal.loop-messages-preserved
loop-messages-preserved g c =
    let messages = c.as_slice.ensures ∙ c.in_ok-fault.ensures.messages in
    let talked = rw messages at c.in_ok-hear.ensures.talked in
    record {
      so_far =
          goes_on _ _ c.hear.new.turns _ _ _ _ _ _ _ _ _ _ _ _ _ _ _ _ _
          c.loop-messages.invariant.so_far c.in_ok-n.ensures.bytes
          (is_small c.in_ok-n.n c.read_piece.new.buf PIECE_OCTETS c.in_ok-n.ensures.bound
          (search rules))
          (omega (arith, c.in_ok-n.ensures.spent, c.in_ok-hear.ensures.turns))
          c.in_ok-fault.ensures.held (sym c.in_ok-fault.ensures.fault ∙ c.in_default.is) talked;
      reads = c.in_ok-n.ensures.counted ∙ c.loop-messages.invariant.reads;
      writes = c.in_ok-hear.ensures.counted ∙ c.loop-messages.invariant.writes;
      unturned = omega (
        arith,
        c.loop-messages.invariant.unturned,
        c.in_ok-n.ensures.spent,
        c.in_ok-hear.ensures.turns,
      );
    }
