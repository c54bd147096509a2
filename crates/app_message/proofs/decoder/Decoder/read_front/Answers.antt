use Rattle.std.proofs.Common.{arith, ap, ◌∙◌, Some, []}
use Rattle.app_message.specs.declared.fault.StreamFault.{StreamFault}
use Rattle.app_message.proofs.Cutting.{fault_long, few_left, front_message, front_short}
use Rattle.app_message.proofs.Cutting.{front_fault}
use Rattle.app_message.proofs.decoder.Decoder.read_front.Goals as goal

pub returns-in-Ok-clause-front : goal.returns-in-Ok-clause-front
returns-in-Ok-clause-front c =
    front_message c.args.octets.now c.args.self.now c.in-Ok.front c.in-Ok.ensures.exact

pub hold-requires : goal.hold-requires
hold-requires c =
    let few = few_left c.args.octets.now (λ i. omega (arith, c.type_inv.octets i))
    (rw c.in-Err-Short.field-0-is at c.in-Err-Short.ensures.exact) in
    omega (arith, few)

pub fault_in-requires : goal.fault_in-requires
fault_in-requires c = fault_long c.args.octets.now c.in-Err-Fault.fault
    (rw c.in-Err-Fault.field-0-is at c.in-Err-Fault.ensures.exact)

pub returns-in_ok-hold-in-Err-Short-clause-front :
    goal.returns-in_ok-hold-in-Err-Short-clause-front
returns-in_ok-hold-in-Err-Short-clause-front c =
    front_short c.args.octets.now c.args.self.now c.hold.new.self
    (rw c.in-Err-Short.field-0-is at c.in-Err-Short.ensures.exact)
    c.in_ok-hold-in-Err-Short.ensures.held

pub returns-in-Err-Fault-clause-front : goal.returns-in-Err-Fault-clause-front
returns-in-Err-Fault-clause-front c =
    front_fault c.args.octets.now c.args.self.now c.end.new.self c.in-Err-Fault.fault
    (rw c.in-Err-Fault.field-0-is at c.in-Err-Fault.ensures.exact)
    (c.end.ensures
    ∙ ap (λ (f : StreamFault). record { rest = []; fault = Some f }) c.fault_in.ensures)
