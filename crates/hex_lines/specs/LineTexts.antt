-- What the text of a line says.
use Rattle.std.specs.Prelude.{◌≡◌, true, false, is_err, List, ℕ, Ok}
use Rattle.hex.specs.Hex.{decode_of}
use Rattle.hex_lines.specs.declared.line_reading.LineText.{LineText}
use Rattle.hex_lines.specs.declared.line_reading.LineText.TheVariants as texts
use Rattle.hex_lines.specs.Lines.{is_skipped, without_spaces}

-- without its spaces it is skipped, or spells these octets, or is neither
abbrev pub Says : LineText → List ℕ → List ℕ → Type 0
Says texts.Skipped text octets = is_skipped (without_spaces text) ≡ true
Says texts.Octets text octets =
    (is_skipped (without_spaces text) ≡ false) × (decode_of (without_spaces text) ≡ Ok octets)
Says texts.NotHexadecimal text octets =
    (is_skipped (without_spaces text) ≡ false) × (is_err (decode_of (without_spaces text)) ≡ true)
