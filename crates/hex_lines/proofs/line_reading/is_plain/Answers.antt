use Rattle.std.proofs.Common.{◌≡◌, ◌∙◌, ◌++◌, List, ℕ, Ok, ap, arith, drop, length, sym, take}
use Rattle.std.proofs.Math.Seq.{take-append_seam}
use Rattle.hex_lines.proofs.Hexadecimal.{as_it_stands}
use Rattle.hex_lines.proofs.line_reading.is_plain.Goals as goal

-- the text is digits alone, and the place is the whole buffer
pub returns : goal.returns
returns c = λ all.
    let place : List ℕ = c.read_digits.new.place in
    let size : c.resize.new.self.len ≡ length place = omega arith in
    as_it_stands c.args.text.now _ (omega arith)
    (c.read_digits.ensures all ∙ ap Ok (sym (ap (λ (n : ℕ). take n
    (place ++ drop (length place) c.resize.new.self.items)) size
    ∙ take-append_seam place (drop (length place) c.resize.new.self.items))))
