-- A text that is hexadecimal as it stands has no spaces, and isn't a comment; octets in two parts.
use Rattle.std.proofs.Common.{◌≡◌, ◌<◌, ℕ, List, [], ◌∷◌, ◌++◌, length, true, false, not, eqb}
use Rattle.std.proofs.Common.{filter, refl}
use Rattle.std.proofs.Common.{subst, sym, ap, ◌∙◌, Bool, Result, Ok, Err, inl, inr, arith}
use Rattle.std.specs.Prelude.{◌/◌, ◌%◌, MatchResult, slice_index}
use Rattle.std.specs.List.{AllByRecursion}
use Rattle.std.proofs.lemmas.Bool.{cases_eq, ne_eqb}
use Rattle.std.proofs.lemmas.List.{nil_from_length}
use Rattle.std.proofs.lemmas.List.Elements.{recursion_from_All}
use Rattle.hex.specs.declared.error.FromHexError.{FromHexError}
use Rattle.hex.specs.Hex.{is_hex_digit, decode_of, encode_with}
use Rattle.hex.proofs.HexLemmas.{decode_of-ok}
use Rattle.hex_lines.specs.declared.line_reading.LineText.TheVariants as texts
use Rattle.hex_lines.specs.LineTexts.{Says}
use Rattle.hex_lines.specs.Lines.{is_skipped}

not_space : (x : ℕ) → is_hex_digit x ≡ true → eqb x 32 ≡ false
not_space x digit = elim (cases_eq x 32) [
  | inl is ↦ absurd (cc (subst (λ (y : ℕ). is_hex_digit y ≡ true) is digit))
  | inr other ↦ ne_eqb x 32 other
]

not_hash : (x : ℕ) → is_hex_digit x ≡ true → eqb x 35 ≡ false
not_hash x digit = elim (cases_eq x 35) [
  | inl is ↦ absurd (cc (subst (λ (y : ℕ). is_hex_digit y ≡ true) is digit))
  | inr other ↦ ne_eqb x 35 other
]

digits_kept : (xs : List ℕ) → AllByRecursion (λ x. is_hex_digit x ≡ true) xs
    → filter (λ b. not (eqb b 32)) xs ≡ xs
digits_kept [] all = refl
digits_kept (x ∷ xs) all =
    rw (not_space x all.0) (ap (λ (l : List ℕ). x ∷ l) (digits_kept xs all.1))

digits_told : (xs : List ℕ) → AllByRecursion (λ x. is_hex_digit x ≡ true) xs → 0 < length xs
    → is_skipped xs ≡ false
digits_told [] all some = absurd (omega arith)
digits_told (x ∷ xs) all some = not_hash x all.0

-- what is skipped is hexadecimal only where it is empty
pub skipped_is_empty : (kept octets : List ℕ) → is_skipped kept ≡ true → decode_of kept ≡ Ok octets
    → octets ≡ []
skipped_is_empty [] octets skips is =
    nil_from_length octets (omega (arith, (decode_of-ok [] octets is).2))
skipped_is_empty (x ∷ xs) octets skips is =
    let digits = recursion_from_All (λ d. is_hex_digit d ≡ true) (x ∷ xs)
    (decode_of-ok (x ∷ xs) octets is).1 in
    absurd (cc (digits_told (x ∷ xs) digits (omega arith), skips))

-- so it says its octets
pub as_it_stands : (text octets : List ℕ) → 0 < length text → decode_of text ≡ Ok octets
    → Says texts.Octets text octets
as_it_stands text octets some is =
    let digits = recursion_from_All (λ x. is_hex_digit x ≡ true) text
    (decode_of-ok text octets is).1 in
    rw (digits_kept text digits, is) (digits_told text digits some, refl)

read_so : (text octets : List ℕ) (is : Bool) (r : Result (List ℕ) FromHexError) → 0 < length text
    → decode_of text ≡ r
    → MatchResult r (λ bytes. (is ≡ true) × (octets ≡ bytes)) (λ _. is ≡ false) → is ≡ true
    → Says texts.Octets text octets
read_so text octets is (Ok bytes) some e m true_is =
    as_it_stands text octets some (e ∙ ap (λ (l : List ℕ). Ok l) (sym m.1))
read_so text octets is (Err f) some e m true_is = absurd (cc (m, true_is))

-- the same of what a reader of hexadecimal answers
pub reads_as_it_stands : (text octets : List ℕ) (is : Bool) → 0 < length text
    → MatchResult (decode_of text) (λ bytes. (is ≡ true) × (octets ≡ bytes)) (λ _. is ≡ false)
    → is ≡ true → Says texts.Octets text octets
reads_as_it_stands text octets is some m true_is =
    read_so text octets is (decode_of text) some refl m true_is

-- what is spelled in two parts is spelled whole
pub spelled_in_parts : (digits xs ys : List ℕ)
    → encode_with digits (xs ++ ys) ≡ encode_with digits xs ++ encode_with digits ys
unfolding encode_with
spelled_in_parts digits [] ys = refl
spelled_in_parts digits (x ∷ xs) ys =
    ap (λ (l : List ℕ). slice_index digits (x / 16) ∷ slice_index digits (x % 16) ∷ l)
    (spelled_in_parts digits xs ys)
