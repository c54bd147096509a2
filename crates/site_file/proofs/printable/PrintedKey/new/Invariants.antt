use Rattle.std.proofs.Common.{◌≡◌, string_bytes, take, map}
use Rattle.site_file.specs.Keys.{printed_octet}
use Rattle.site_file.proofs.printable.PrintedKey.new.Given as goal

abbrev pub invariant-loop-octet : goal.invariant-loop-octet
invariant-loop-octet l = string_bytes l.text ≡ map printed_octet (take l.octet-index l.shown)
