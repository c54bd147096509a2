use Rattle.std.proofs.Common.{◌≡◌, take}
use Rattle.desk_days.specs.Sections.{octets_of}
use Rattle.desk_days.proofs.section.spell_all.Given as goal

abbrev pub invariant-loop-message : goal.invariant-loop-message
invariant-loop-message l = l.octets.items ≡ octets_of (take l.message-index l.messages)
