use Rattle.std.proofs.Common.{◌≡◌, ◌++◌, drop}
use Rattle.forecourt_engines.specs.Answers.{answers_to, after_messages}
use Rattle.forecourt_engines.proofs.answers.Answerer.answer_all.Given as goal

abbrev pub invariant-loop-message : goal.invariant-loop-message
invariant-loop-message l = record {
  text : l.out.items ++ answers_to l.self (drop l.message-index l.messages) ≡ l.fn.out.items
      ++ answers_to l.fn.self l.messages;
  state : after_messages l.self (drop l.message-index l.messages)
      ≡ after_messages l.fn.self l.messages;
}
