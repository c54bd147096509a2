use Rattle.std.proofs.Common.{inl, inr}
use Rattle.demo.proofs.Messages.{if_none, other_none, skipped_none, unspelled}
use Rattle.demo.proofs.message.message_of.Goals as goal

pub returns-in-Octets-clause-other : goal.returns-in-Octets-clause-other
returns-in-Octets-clause-other c =
    if_none _ _ c.whole_message.result
    (unspelled c.args.text.now c.read_octets.new.octets.items _
    (rw c.in-Octets.is at c.in_ok-read_octets.ensures) c.deref.ensures.value)
    c.whole_message.ensures.other

pub returns : goal.returns
returns c = record {
  found = tt;
  other = elim c.in-Skipped.is [
    | inl is ↦ skipped_none c.args.text.now c.read_octets.new.octets.items
        (rw is at c.in_ok-read_octets.ensures)
    | inr is ↦ other_none c.args.text.now c.read_octets.new.octets.items
        (rw is at c.in_ok-read_octets.ensures)
  ];
}
