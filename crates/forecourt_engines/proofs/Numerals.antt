-- How numbers are written: what `parse` reads of a text that is neither signed nor padded.
use Rattle.std.proofs.Common.{◌≡◌, ◌≢◌, ℕ, zero, suc, ◌<◌, ◌≤◌, ◌^◌, ◌==◌, ◌||◌, true, false, List}
use Rattle.std.proofs.Common.{[], ◌∷◌, ◌++◌, length, take, get_or, Ok, Err, decimal, refl, sym, ap}
use Rattle.std.proofs.Common.{subst, ◌∙◌, arith, lit<}
use Rattle.std.proofs.Math.Seq.{take-append_seam}
use Rattle.std.proofs.lemmas.List.{append_cancel_left}
use Rattle.std.proofs.lemmas.Bool.{eqb-false, eq-eqb, ne_eqb}
use Rattle.std.proofs.lemmas.Fmt.{decimal-digits_value, decimal_digit, digits_value-decimal}
use Rattle.std.proofs.lemmas.Fmt.{first_decimal, parse-decimal}
use Rattle.std.proofs.lemmas.Str.Parse.{IsNumeralModel, numerals_by_value, tells_digits}
use Rattle.std.proofs.lemmas.Str.Parse.{without_leading_plus_none}
use Rattle.std.specs.Str.Parse.{AllDigits, IsNumeral, ParsesUnsigned, digits_value}
use Rattle.std.specs.Str.Parse.{without_leading_plus}
use Rattle.forecourt_engines.specs.Numbers.{is_signed_or_padded}

own : IsNumeralModel (AllDigits 10) (digits_value 10)
own = numerals_by_value (AllDigits 10) tells_digits

no_plus : (bs : List ℕ) → is_signed_or_padded bs ≡ false → get_or bs 0 0 ≢ 43
no_plus [] is h = cc
no_plus (b ∷ []) is h = eqb-false b 43 is h
no_plus (b ∷ c ∷ bs) is h =
    let e : (b == 43) ≡ true = eq-eqb b 43 h in
    let f : ((b == 43) || (b == 48)) ≡ true = rw e refl in
    cc

one_zero : (bs : List ℕ) → is_signed_or_padded bs ≡ false → get_or bs 0 0 ≡ 48 → length bs ≡ 1
one_zero [] is h = cc
one_zero (b ∷ []) is h = refl
one_zero (b ∷ c ∷ bs) is h =
    let e : (b == 43) ≡ false = ne_eqb b 43 (λ x. let y : 43 ≡ 48 = sym x ∙ h in cc) in
    let f : (b == 48) ≡ true = eq-eqb b 48 h in
    let g : ((b == 43) || (b == 48)) ≡ true = rw (e, f) refl in
    cc

large_first : (bs : List ℕ) → 48 < get_or bs 0 0 → is_signed_or_padded bs ≡ false
large_first [] h = refl
large_first (b ∷ []) h = ne_eqb b 43 (λ e. omega arith)
large_first (b ∷ c ∷ bs) h =
    let e : (b == 43) ≡ false = ne_eqb b 43 (λ x. omega arith) in
    let f : (b == 48) ≡ false = ne_eqb b 48 (λ x. omega arith) in
    rw (e, f) refl

decimal_plain : (n : ℕ) → n < 2 ^ 64 → is_signed_or_padded (decimal n) ≡ false
decimal_plain zero h = rw (decimal_digit 0 (lit< tt)) refl
decimal_plain (suc n) h = large_first (decimal (suc n)) (first_decimal (suc n) (omega arith) h)

-- a text that is signed or padded is no number's
pub signed_is_none : (bs : List ℕ) (most : ℕ) → most < 2 ^ 64 → is_signed_or_padded bs ≡ true
    → (n : ℕ) → n ≤ most → bs ≢ decimal n
signed_is_none bs most few is n low e =
    let plain : is_signed_or_padded (decimal n) ≡ false = decimal_plain n (omega arith) in
    let same : is_signed_or_padded bs ≡ is_signed_or_padded (decimal n) =
    ap is_signed_or_padded e in
    cc

-- what `parse` says of the number that it read of a text
abbrev pub IsParsed : List ℕ → ℕ → Type 0
IsParsed text n =
    (IsNumeral 10 (without_leading_plus text)
    × (digits_value 10 (without_leading_plus text) < 2 ^ 64))
    × (n ≡ digits_value 10 (without_leading_plus text))

-- another text is the number's that is read of it
pub parsed_is_written : (bs text : List ℕ) (n : ℕ) → text ≡ bs → is_signed_or_padded bs ≡ false
    → IsParsed text n → bs ≡ decimal n
parsed_is_written bs text n same is parsed =
    let plain : without_leading_plus bs ≡ bs = without_leading_plus_none bs (no_plus bs is) in
    let at : IsParsed bs n = subst (λ t. IsParsed t n) same parsed in
    let numeral : IsNumeral 10 bs = subst (λ t. IsNumeral 10 t) plain at.0.0 in
    let value : n ≡ digits_value 10 bs = at.1 ∙ ap (digits_value 10) plain in
    let few : digits_value 10 (without_leading_plus bs) < 2 ^ 64 = at.0.1 in
    let less : digits_value 10 bs < 2 ^ 64 = omega (arith, few, ap (digits_value 10) plain) in
    sym (ap decimal value ∙ decimal-digits_value own bs numeral.1 numeral.0 (one_zero bs is) less)

-- no number's text is refused
pub refused_is_none : {E : Type 0} (bs text : List ℕ) (e : E) (most : ℕ) → most < 2 ^ 64 → text ≡ bs
    → ParsesUnsigned 64 10 text (Err e) → (n : ℕ) → n ≤ most → bs ≢ decimal n
refused_is_none bs text e most few same parsed n low is =
    let r : Err e ≡ Ok n = parse-decimal 64 n text (Err e) (omega arith) (omega arith) (same ∙ is)
    parsed in
    cc

-- and each is read as its number
pub parsed_is_same : (bs text : List ℕ) (m most : ℕ) → most < 2 ^ 64 → text ≡ bs → IsParsed text m
    → (n : ℕ) → n ≤ most → bs ≡ decimal n → m ≡ n
parsed_is_same bs text m most few same parsed n low is =
    let small : n < 2 ^ 64 = omega arith in
    let plain : without_leading_plus (decimal n) ≡ decimal n =
    without_leading_plus_none (decimal n) (no_plus (decimal n) (decimal_plain n small)) in
    let at : IsParsed (decimal n) m = subst (λ t. IsParsed t m) (same ∙ is) parsed in
    at.1 ∙ ap (digits_value 10) plain ∙ digits_value-decimal own n small

-- a text that begins with a word has the word in front
pub front_is : (word text front rest : List ℕ) → front ≡ take (length word) text
    → text ≡ word ++ rest → front ≡ word
front_is word text front rest at is = at ∙ ap (take (length word)) is ∙ take-append_seam word rest

-- behind a word stands one text
pub behind_is : (word text a b : List ℕ) → text ≡ word ++ a → text ≡ word ++ b → a ≡ b
behind_is word text a b one two = append_cancel_left word a b (sym one ∙ two)
