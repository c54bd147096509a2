-- The numbers of the faults, and which fault of a message a fault of the grammar is.
use Rattle.std.specs.Prelude.{ℕ}
use Rattle.app_message.specs.declared.fault.GrammarFault.{GrammarFault}
use Rattle.app_message.specs.declared.fault.GrammarFault.TheVariants as grammar
use Rattle.app_message.specs.declared.fault.MessageFault.{MessageFault}
use Rattle.app_message.specs.declared.fault.MessageFault.TheVariants as message

abbrev pub grammar_number : GrammarFault → ℕ
grammar_number grammar.BadCode = 40
grammar_number grammar.BadKind = 41
grammar_number grammar.BadLength = 42
grammar_number grammar.BadItem = 43

abbrev pub message_number : MessageFault → ℕ
message_number message.BadCode = 40
message_number message.BadKind = 41
message_number message.BadLength = 42
message_number message.BadItem = 43
message_number message.Truncated = 44
message_number message.NoMemory = 31

-- the same fault, where others can come too
abbrev pub as_message_fault : GrammarFault → MessageFault
as_message_fault grammar.BadCode = message.BadCode
as_message_fault grammar.BadKind = message.BadKind
as_message_fault grammar.BadLength = message.BadLength
as_message_fault grammar.BadItem = message.BadItem
