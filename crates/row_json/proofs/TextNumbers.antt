-- Numbers in a text, and what stands behind them.
use Rattle.std.proofs.Common.{◌≡◌, ℕ, ◌<◌, List, ◌∷◌, ◌++◌, decimal}
use Rattle.std.proofs.lemmas.Fmt.{decimal_injective}
use Rattle.forecourt_engines.proofs.TextParts.{digits_above, digits_below, parts_are}
use Rattle.row_json.specs.RowLaws.{IsInBits}

-- a number, and an octet below the digits behind it
pub cut : (o n m : ℕ) (b d : List ℕ) → o < 48 → IsInBits n → IsInBits m
    → decimal n ++ (o ∷ b) ≡ decimal m ++ (o ∷ d) → (n ≡ m) × (b ≡ d)
cut o n m b d low r s e =
    let parts = parts_are o (decimal n) b (decimal m) d (digits_above o n low r)
    (digits_above o m low s) e in
    (decimal_injective n m r s parts.0, parts.1)

-- .. or one above them
pub cut_above : (o n m : ℕ) (b d : List ℕ) → 57 < o → IsInBits n → IsInBits m
    → decimal n ++ (o ∷ b) ≡ decimal m ++ (o ∷ d) → (n ≡ m) × (b ≡ d)
cut_above o n m b d high r s e =
    let parts = parts_are o (decimal n) b (decimal m) d (digits_below o n high r)
    (digits_below o m high s) e in
    (decimal_injective n m r s parts.0, parts.1)
