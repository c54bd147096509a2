-- A text that parts at an octet, in one way.
use Rattle.std.proofs.Common.{◌≡◌, ℕ, suc, ◌<◌, ◌≤◌, ◌^◌, List, [], ◌∷◌, ◌++◌, get_or, refl, sym}
use Rattle.std.proofs.Common.{◌∙◌, ap, arith, decimal, Option, Some, None, true, nat_le}
use Rattle.std.proofs.lemmas.Fmt.{decimal_is_IsNumeral}
use Rattle.std.proofs.lemmas.Str.Parse.{digit_at}
use Rattle.std.proofs.lemmas.Bool.{and_parts}
use Rattle.std.proofs.lemmas.Bool.Decides.{nat_tests}
use Rattle.std.specs.Int.{IsInRange}
use Rattle.site_base.specs.declared.numbers.TheConstants.{GREATEST_SEQ}
use Rattle.site_base.specs.declared.amounts.TheConstants.{GREATEST_READING}
use Rattle.site_base.specs.declared.limits.TheConstants.{NOZZLES, POINTS}
use Rattle.site_base.specs.declared.numbers.TheConstants.{GREATEST_SHIFT}
use Rattle.site_base.specs.declared.sale.SaleId.{SaleId}
use Rattle.site_base.specs.Ranges.{is_between}
use Rattle.site_base.specs.Words.{id_word}
use Rattle.forecourt_engines.specs.Numbers.{IsWithout}
use Rattle.forecourt_engines.specs.Said.{IsIdWord, IsMeterWord, IsNumberWord}
use Rattle.forecourt_engines.specs.Said.{IsSaleWord}

-- no digit is below 48
pub digits_above : (octet n : ℕ) → octet < 48 → n < 2 ^ 64 → IsWithout octet (decimal n)
digits_above octet n low small = λ k within is.
    let digit : IsInRange 48 57 (get_or (decimal n) k 0) =
    digit_at (decimal n) k (decimal_is_IsNumeral n small).0.1 within in
    let least : 48 ≤ get_or (decimal n) k 0 = digit.0 in
    omega arith

-- and none above 57
pub digits_below : (octet n : ℕ) → 57 < octet → n < 2 ^ 64 → IsWithout octet (decimal n)
digits_below octet n high small = λ k within is.
    let digit : IsInRange 48 57 (get_or (decimal n) k 0) =
    digit_at (decimal n) k (decimal_is_IsNumeral n small).0.1 within in
    let most : get_or (decimal n) k 0 ≤ 57 = digit.1 in
    omega arith

-- what stands before the first such octet, and what stands behind it, are one each
pub parts_are : (o : ℕ) (a b c d : List ℕ) → IsWithout o a → IsWithout o c
    → a ++ (o ∷ b) ≡ c ++ (o ∷ d) → (a ≡ c) × (b ≡ d)
parts_are o [] b [] d one two is = (refl, cc)
parts_are o [] b (y ∷ c) d one two is =
    let e : y ≡ o = cc in absurd (two 0 (omega arith) e)
parts_are o (x ∷ a) b [] d one two is =
    let e : x ≡ o = cc in absurd (one 0 (omega arith) e)
parts_are o (x ∷ a) b (y ∷ c) d one two is =
    let head : x ≡ y = cc in
    let tail : a ++ (o ∷ b) ≡ c ++ (o ∷ d) = cc in
    let rest = parts_are o a b c d (λ k low. one (suc k) (omega arith))
    (λ k low. two (suc k) (omega arith)) tail in
    let front : a ≡ c = rest.0 in
    (cc, rest.1)

-- a text that parts has the octet
pub unparted : (o : ℕ) (a b c : List ℕ) → c ≡ a ++ (o ∷ b) → ¬ IsWithout o c
unparted o [] b [] e none = cc
unparted o [] b (x ∷ c) e none = let h : x ≡ o = cc in none 0 (omega arith) h
unparted o (y ∷ a) b [] e none = cc
unparted o (y ∷ a) b (x ∷ c) e none =
    let tail : c ≡ a ++ (o ∷ b) = cc in
    unparted o a b c tail (λ k low. none (suc k) (omega arith))

pub joined : (o : ℕ) (a b : List ℕ) → (a ++ (o ∷ [])) ++ b ≡ a ++ (o ∷ b)
joined o [] b = refl
joined o (x ∷ a) b = ap (λ (t : List ℕ). x ∷ t) (joined o a b)

-- ---- a nozzle's number and its meter's reading

pub meter_parts : (word a b : List ℕ) (n reading : ℕ) → word ≡ a ++ (64 ∷ b) → IsWithout 64 a
    → IsMeterWord word n reading
    → IsNumberWord 1 NOZZLES a n × IsNumberWord 0 GREATEST_READING b reading
meter_parts word a b n reading is apart said =
    let both = and_parts (is_between 1 NOZZLES n) (nat_le reading GREATEST_READING) said.1 in
    let range : is_between 1 NOZZLES n ≡ true = both.0 in
    let within : nat_le reading GREATEST_READING ≡ true = both.1 in
    let least : 1 ≤ n = grind (arith, nat_tests) in
    let most : n ≤ NOZZLES = grind (arith, nat_tests) in
    let far : reading ≤ GREATEST_READING = grind (arith, nat_tests) in
    let parts = parts_are 64 a b (decimal n) (decimal reading) apart
    (digits_below 64 n (omega arith) (omega arith))
    (sym is ∙ said.0 ∙ joined 64 (decimal n) (decimal reading)) in
    ((parts.0, least, most), (parts.1, omega arith, far))

-- ---- a point's number and a transaction's

pub sale_parts : (word a b : List ℕ) (p : ℕ) (sale : SaleId) → word ≡ a ++ (47 ∷ b)
    → IsWithout 47 a → IsSaleWord word p sale → IsNumberWord 1 POINTS a p × IsIdWord b sale
sale_parts word a b p sale is apart said =
    let range : is_between 1 POINTS p ≡ true = said.1.0 in
    let least : 1 ≤ p = grind (arith, nat_tests) in
    let most : p ≤ POINTS = grind (arith, nat_tests) in
    let parts = parts_are 47 a b (decimal p) (id_word sale) apart
    (digits_above 47 p (omega arith) (omega arith))
    (sym is ∙ said.0 ∙ joined 47 (decimal p) (id_word sale)) in
    ((parts.0, least, most), (parts.1, said.1.1))

-- ---- a shift's number and a transaction's

abbrev pub a_sale : Option ℕ → ℕ → SaleId
a_sale shift seq = record { shift = shift; seq = seq }

-- where a transaction's word parts, its shift is named
abbrev pub AreIdParts : List ℕ → List ℕ → Option ℕ → ℕ → Type 0
AreIdParts a b None seq = ⊥
AreIdParts a b (Some h) seq =
    IsNumberWord 1 GREATEST_SHIFT a h × IsNumberWord 1 GREATEST_SEQ b seq

pub id_parts : (word a b : List ℕ) (shift : Option ℕ) (seq : ℕ) → word ≡ a ++ (47 ∷ b)
    → IsWithout 47 a → IsIdWord word (a_sale shift seq) → AreIdParts a b shift seq
id_parts word a b None seq is apart said =
    let range : is_between 1 GREATEST_SEQ seq ≡ true =
    (and_parts true (is_between 1 GREATEST_SEQ seq) said.1).1 in
    let small : seq < 65536 = grind (arith, nat_tests) in
    unparted 47 a b word is (rw said.0 (digits_above 47 seq (omega arith) (omega arith)))
id_parts word a b (Some h) seq is apart said =
    let both = and_parts (is_between 1 GREATEST_SHIFT h) (is_between 1 GREATEST_SEQ seq) said.1 in
    let first : is_between 1 GREATEST_SHIFT h ≡ true = both.0 in
    let last : is_between 1 GREATEST_SEQ seq ≡ true = both.1 in
    let least : 1 ≤ h = grind (arith, nat_tests) in
    let most : h ≤ GREATEST_SHIFT = grind (arith, nat_tests) in
    let low : 1 ≤ seq = grind (arith, nat_tests) in
    let high : seq ≤ GREATEST_SEQ = grind (arith, nat_tests) in
    let parts = parts_are 47 a b (decimal h) (decimal seq) apart
    (digits_above 47 h (omega arith) (omega arith))
    (sym is ∙ said.0 ∙ joined 47 (decimal h) (decimal seq)) in
    ((parts.0, least, most), (parts.1, low, high))

-- so where the front is no shift's, or the rest no transaction's number, it is no transaction's
pub no_shift : (word a b : List ℕ) (sale : SaleId) → word ≡ a ++ (47 ∷ b) → IsWithout 47 a
    → ((h : ℕ) → ¬ IsNumberWord 1 GREATEST_SHIFT a h) → ¬ IsIdWord word sale
no_shift word a b sale is apart none said =
    by sale.shift (id_parts word a b sale.shift sale.seq is apart said)
  where
    by : (shift : Option ℕ) → AreIdParts a b shift sale.seq → ⊥
    by None parts = parts
    by (Some h) parts = none h parts.0

pub no_seq : (word a b : List ℕ) (sale : SaleId) → word ≡ a ++ (47 ∷ b) → IsWithout 47 a
    → ((n : ℕ) → ¬ IsNumberWord 1 GREATEST_SEQ b n) → ¬ IsIdWord word sale
no_seq word a b sale is apart none said =
    by sale.shift (id_parts word a b sale.shift sale.seq is apart said)
  where
    by : (shift : Option ℕ) → AreIdParts a b shift sale.seq → ⊥
    by None parts = parts
    by (Some h) parts = none sale.seq parts.1
