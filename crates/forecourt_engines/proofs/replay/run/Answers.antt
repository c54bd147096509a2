use Rattle.std.proofs.Common.{◌≡◌, ◌++◌, ℕ, List, take, Some, ap, sym, ◌∙◌, arith, rules}
use Rattle.forecourt_engines.specs.declared.fault.ReplayFault.{ReplayFault}
use Rattle.forecourt_engines.specs.Replay.{is_early}
use Rattle.std.proofs.lemmas.Result.{err_from_is_err_and}
use Rattle.forecourt_engines.specs.Text.{last_text, text_from}
use Rattle.forecourt_engines.proofs.Running.{is_small, goes_on, ends_early, ends_unsaid, ends_late}
use Rattle.forecourt_engines.proofs.Running.{ends_whole, ends_stopped}
use Rattle.forecourt_engines.proofs.replay.run.Goals as goal

-- the last text was written in part
pub returns-in_err-put-clause-told : goal.returns-in_err-put-clause-told
returns-in_err-put-clause-told g c =
    let told : c.deref.result.now ≡ last_text c.loop-text.engine = c.deref.ensures.value
    ∙ c.in_ok-fault.ensures.text ∙ ap (λ (t : List ℕ). t ++ last_text c.loop-text.engine)
    c.clear.ensures.items in
    let front = rw told at c.in_err-put.ensures.front in
    let none = ap (λ (k : ℕ). take k c.read_piece.new.buf) c.if-n-eq0.true in
    let p = err_from_is_err_and c.from_residual-in_err-put.result
    c.from_residual-in_err-put.ensures.1 in
    rw p.1 (ends_late _ _ _ _ _ _ _ _ _ _ _ _ _ (ap (λ (f : ReplayFault). is_early (Some f)) p.2)
    c.loop-text.invariant.running none c.in_ok-n.ensures.bytes front)

-- the last text was written
pub returns-then-n-eq0-clause-told : goal.returns-then-n-eq0-clause-told
returns-then-n-eq0-clause-told g c =
    let told : c.deref.result.now ≡ last_text c.loop-text.engine = c.deref.ensures.value
    ∙ c.in_ok-fault.ensures.text ∙ ap (λ (t : List ℕ). t ++ last_text c.loop-text.engine)
    c.clear.ensures.items in
    let none = ap (λ (k : ℕ). take k c.read_piece.new.buf) c.if-n-eq0.true in
    ends_whole _ _ _ _ _ _ _ _ _ _ _ _ _ _ c.loop-text.invariant.running none
    c.in_ok-n.ensures.bytes told c.in_ok-put.ensures.ok c.in_ok-fault.ensures.fault
    c.in_ok-fault.ensures.state (c.in_ok-n.ensures.end c.if-n-eq0.true)

-- there was no memory for the text of a piece
pub returns-in_err-feed-clause-told : goal.returns-in_err-feed-clause-told
returns-in_err-feed-clause-told g c =
    let p = err_from_is_err_and c.from_residual-in_err-feed.result
    c.from_residual-in_err-feed.ensures.1 in
    rw p.1 (ends_unsaid _ _ c.read_piece.new.turns _ _ _ _ _ _ _ _ _ _
    (ap (λ (f : ReplayFault). is_early (Some f)) p.2) c.loop-text.invariant.running
    c.in_ok-n.ensures.bytes (is_small _ _ _ c.in_ok-n.ensures.bound (search rules))
    c.in_ok-n.ensures.spent)

-- the text of a piece was written in part
pub returns-in_err-put-2-clause-told : goal.returns-in_err-put-2-clause-told
returns-in_err-put-2-clause-told g c =
    let told = c.deref-in-loop-text.ensures.value ∙ c.in_ok-feed.ensures.text
    ∙ ap (λ (t : List ℕ). t ++ text_from c.loop-text.engine
    (take c.in_ok-n.n c.read_piece.new.buf)) c.clear.ensures.items in
    let front = rw told at c.in_err-put-2.ensures.front in
    let p = err_from_is_err_and c.from_residual-in_err-put-2.result
    c.from_residual-in_err-put-2.ensures.1 in
    rw p.1 (ends_early _ _ c.read_piece.new.turns _ _ _ _ _ _ _ _ _ _ _
    (ap (λ (f : ReplayFault). is_early (Some f)) p.2) c.loop-text.invariant.running
    c.in_ok-n.ensures.bytes (is_small _ _ _ c.in_ok-n.ensures.bound (search rules))
    c.in_ok-n.ensures.spent front)

-- the text has ended
pub returns-in-Some-clause-told : goal.returns-in-Some-clause-told
returns-in-Some-clause-told g c =
    let told = c.deref-in-loop-text.ensures.value ∙ c.in_ok-feed.ensures.text
    ∙ ap (λ (t : List ℕ). t ++ text_from c.loop-text.engine
    (take c.in_ok-n.n c.read_piece.new.buf)) c.clear.ensures.items in
    let on = goes_on _ _ c.put-in-loop-text.new.turns _ _ _ _ _ _ _ _ _ _ _
    c.loop-text.invariant.running c.in_ok-n.ensures.bytes
    (is_small _ _ _ c.in_ok-n.ensures.bound (search rules))
    (omega (arith, c.in_ok-n.ensures.spent, c.in_ok-put-2.ensures.turns))
    c.in_ok-feed.ensures.state told c.in_ok-put-2.ensures.ok in
    ends_stopped _ _ _ _ _ _ _ _ _ on (sym c.in-Some.ensures)

pub loop-text-preserved : goal.loop-text-preserved
loop-text-preserved g c =
    let told = c.deref-in-loop-text.ensures.value ∙ c.in_ok-feed.ensures.text
    ∙ ap (λ (t : List ℕ). t ++ text_from c.loop-text.engine
    (take c.in_ok-n.n c.read_piece.new.buf)) c.clear.ensures.items in
    record {
      running = goes_on _ _ c.put-in-loop-text.new.turns _ _ _ _ _ _ _ _ _ _ _
          c.loop-text.invariant.running c.in_ok-n.ensures.bytes
          (is_small _ _ _ c.in_ok-n.ensures.bound (search rules))
          (omega (arith, c.in_ok-n.ensures.spent, c.in_ok-put-2.ensures.turns))
          c.in_ok-feed.ensures.state told c.in_ok-put-2.ensures.ok;
      reads = c.in_ok-n.ensures.counted ∙ c.loop-text.invariant.reads;
      writes = c.in_ok-put-2.ensures.counted ∙ c.loop-text.invariant.writes;
      unturned = omega (
        arith,
        c.loop-text.invariant.unturned,
        c.in_ok-n.ensures.spent,
        c.in_ok-put-2.ensures.turns,
      );
    }
