-- The seals that words say.
use Rattle.std.specs.Prelude.{ℕ, List, Option, Some, None, Result, Ok, Err}
use Rattle.hex.specs.Hex.{decode_sized, encode_lower}
use Rattle.hex.specs.declared.error.FromHexError.{FromHexError}
use Rattle.row_commands.specs.declared.seal_word.TheConstants.{SEAL_OCTETS}

-- octets in lower case, where there are any
abbrev pub in_digits : Result (List ℕ) FromHexError → Option (List ℕ)
in_digits (Ok octets) = Some (encode_lower octets)
in_digits (Err e) = None

-- the seal that a word says, in lower case: 64 hexadecimal digits
abbrev pub seal_said : List ℕ → Option (List ℕ)
seal_said word = in_digits (decode_sized word SEAL_OCTETS)
