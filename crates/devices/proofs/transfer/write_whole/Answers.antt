-- A call that took octets, or none: what is written is the text up to where that call ended.
use Rattle.std.proofs.Common.{ℕ, ◌+◌, ◌∙◌, arith, length-drop, length-take}
use Rattle.devices.proofs.KnownBytes.{Appends-taken, AppendsFront-taken}
use Rattle.devices.proofs.transfer.write_whole.Goals as goal

pub returns-in-Ok-eq0-clause-front : goal.returns-in-Ok-eq0-clause-front
returns-in-Ok-eq0-clause-front g c =
    let end : ℕ = c.loop-done.done + c.in-Ok-eq0.field-0 in
    AppendsFront-taken _ _ end _ (Appends-taken _ _ _ c.loop-done.done _ _
    c.loop-done.invariant.written c.in-Ok-eq0.ensures.bytes)

pub loop-done-preserved-in-Ok : goal.loop-done-preserved-in-Ok
loop-done-preserved-in-Ok g c = record {
  written = Appends-taken _ _ _ c.loop-done.done _ _ c.loop-done.invariant.written
      c.in-Ok.ensures.bytes;
  within = omega (arith, simp (length-take, length-drop) at c.in-Ok.ensures.bound);
  counted = c.in-Ok.ensures.took (omega arith) ∙ c.loop-done.invariant.counted;
  turns = omega arith;
}
