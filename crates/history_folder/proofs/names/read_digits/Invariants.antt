use Rattle.std.proofs.Common.{◌≡◌, ◌<◌, ◌^◌, take}
use Rattle.history_folder.specs.Names.{digits_of}
use Rattle.history_folder.proofs.names.read_digits.Given as goal

-- the number is that of the digits so far
abbrev pub invariant-loop-digit : goal.invariant-loop-digit
invariant-loop-digit l =
    (take l.digit-index l.digits ≡ digits_of l.digit-index l.number)
    × (l.number < 10 ^ l.digit-index)
