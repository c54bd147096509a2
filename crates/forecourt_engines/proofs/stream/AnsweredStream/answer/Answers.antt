use Rattle.forecourt_engines.proofs.AnsweredStreams.{with_fault}
use Rattle.forecourt_engines.proofs.stream.AnsweredStream.answer.Goals as goal

-- the answers, and then the refusal of the fault
pub returns-clause-text : goal.returns-clause-text
returns-clause-text c =
    with_fault c.args.self.now c.answer_messages.new.self c.args.octets.now c.args.out.now.items
    c.answer_messages.new.out.items c.tell_fault.new.out.items c.in_ok-answer_messages.ensures.text
    c.in_ok-answer_messages.ensures.state c.in_ok-end.ensures.text
