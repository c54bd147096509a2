-- Sixteen digits that are read as eight octets side by side.
use Rattle.std.proofs.Common.{◌≡◌, ℕ, zero, suc, ◌+◌, ◌-◌, ◌*◌, ◌%◌, ◌<◌, ◌≤◌, ◌==◌, ◌&&◌}
use Rattle.std.proofs.Common.{◌||◌, nat_lt, Bool}
use Rattle.std.proofs.Common.{true, false, List, [], ◌∷◌, ◌++◌, length, map, drop, get_or, Ok, Err}
use Rattle.std.proofs.Common.{Option, Some, None, unwrap_or, refl, sym, ap, ◌∙◌, arith, inl, inr}
use Rattle.std.proofs.Common.{Fits, w8, Result}
use Rattle.std.proofs.Math.Nat.{mod-eq_of_lt}
use Rattle.std.proofs.lemmas.Bool.{and_parts, cases_lt, eqb-true, ltb-true}
use Rattle.std.proofs.lemmas.List.{append-nil, drop_all, get_or_append_left, get_or-map, length-map}
use Rattle.std.proofs.lemmas.Simd.{get_or-chunk, length-chunk, map-map, none_from_empty_mask}
use Rattle.std.proofs.lemmas.Simd.{get_or-put_chunk_at, get_or-put_chunk_below}
use lib.Lanes.{chunk}
use Rattle.std.specs.Simd.Lanes.{mask_l, put_chunk}
use Rattle.hex.specs.Hex.{decode_of, decode_pairs, hex_digit_value, pair_value}
use Rattle.hex.specs.declared.error.FromHexError.{FromHexError}
use Rattle.hex.proofs.Pairs.{cons_byte, decode_pairs-ok_pair, drop-pair, prepend}
use Rattle.hex_lines.specs.SideBySide.{IsRead, digit_value, is_other}
use Rattle.hex_lines.proofs.LaneLemmas.{at_below}

-- ---- one digit

-- what isn't another octet is a digit of this value
abbrev reads : ℕ → Bool
reads c = is_other (digit_value c)
    || ((unwrap_or (hex_digit_value c) 99 == digit_value c) && nat_lt (digit_value c) 16)

from_value : (o : Option ℕ) (d : ℕ) → d < 16 → unwrap_or o 99 ≡ d → o ≡ Some d
from_value (Some v) d lt e = ap Some e
from_value None d lt e = absurd (omega arith)

is_digit : (c : ℕ) → c < 256 → is_other (digit_value c) ≡ false
    → (hex_digit_value c ≡ Some (digit_value c)) × (digit_value c < 16)
is_digit c lt none =
    let test : reads c ≡ true = at_below reads 256 c refl lt in
    let both = and_parts (unwrap_or (hex_digit_value c) 99 == digit_value c)
    (nat_lt (digit_value c) 16)
    (rw none at test) in
    let below = ltb-true (digit_value c) 16 both.1 in
    (from_value (hex_digit_value c) (digit_value c) below (eqb-true _ _ both.0), below)

-- two digits are read as an octet
pair_is : (a b i x y : ℕ) → hex_digit_value a ≡ Some x → x < 16
    → hex_digit_value b ≡ Some y → y < 16
    → pair_value a b i ≡ Ok ((x * 16 % 256 + y) % 256)
pair_is a b i x y ha lx hb ly =
    let shift : x * 16 % 256 ≡ x * 16 = mod-eq_of_lt (omega arith) in
    let whole : (x * 16 + y) % 256 ≡ x * 16 + y = mod-eq_of_lt (omega arith) in
    rw (ha, hb, shift, whole) refl

-- ---- eight octets

-- the digit at a place of those that were loaded
lane : (text : List ℕ) (at k : ℕ) → at + 16 ≤ length text → k < 16
    → get_or (map digit_value (chunk at 16 text) ++ map digit_value (chunk at 16 text)) k 0
    ≡ digit_value (get_or text (at + k) 0)
lane text at k fits lt =
    let v : List ℕ = chunk at 16 text in
    let long = length-chunk at 16 text fits in
    get_or_append_left (map digit_value v) (map digit_value v) 0 k
    (omega (arith, length-map v digit_value, long))
    ∙ get_or-map digit_value v k 0 0 (omega (arith, long))
    ∙ ap digit_value (get_or-chunk at 16 text k 0 lt)

pub lanes_read : (text values : List ℕ) (at m : ℕ) → at + 16 ≤ length text
    → ((k : ℕ) → Fits w8 (get_or text k 0)) → values ≡ map digit_value (chunk at 16 text)
    → m ≡ mask_l (map is_other values) → m ≡ 0 → (k : ℕ) → k < 8
    → pair_value (get_or text (at + 2 * k) 0) (get_or text (at + 2 * k + 1) 0) (at + 2 * k)
    ≡ Ok ((get_or (values ++ values) (2 * k) 0 * 16 % 256
    + get_or (values ++ values) (2 * k + 1) 0) % 256)
lanes_read text values at m fits octets is mask none k lt =
    let empty : mask_l (map (λ c. is_other (digit_value c)) (chunk at 16 text)) ≡ 0 =
    ap mask_l (sym (map-map is_other digit_value (chunk at 16 text)))
    ∙ ap (λ (xs : List ℕ). mask_l (map is_other xs)) (sym is) ∙ sym mask ∙ none in
    let other : (j : ℕ) → at ≤ j → j < at + 16 → is_other (digit_value (get_or text j 0)) ≡ false =
    none_from_empty_mask (λ c. is_other (digit_value c)) text at 16 0 fits empty in
    let high = is_digit (get_or text (at + 2 * k) 0) (octets (at + 2 * k)).fits
    (other (at + 2 * k) (omega arith) (omega arith)) in
    let low = is_digit (get_or text (at + 2 * k + 1) 0) (octets (at + 2 * k + 1)).fits
    (other (at + 2 * k + 1) (omega arith) (omega arith)) in
    let h = lane text at (2 * k) fits (omega arith) in
    let l = lane text at (2 * k + 1) fits (omega arith) in
    let same : at + (2 * k + 1) ≡ at + 2 * k + 1 = omega arith in
    rw (is, h, l, same) (pair_is (get_or text (at + 2 * k) 0) (get_or text (at + 2 * k + 1) 0)
    (at + 2 * k) (digit_value (get_or text (at + 2 * k) 0))
    (digit_value (get_or text (at + 2 * k + 1) 0)) high.0 high.1 low.0 low.1)

-- what holds of each of eight places
pub each_of_eight : (P : ℕ → Type 0) → P 0 → P 1 → P 2 → P 3 → P 4 → P 5 → P 6 → P 7 → (k : ℕ)
    → k < 8 → P k
each_of_eight P a b c d e f g h zero lt = a
each_of_eight P a b c d e f g h (suc zero) lt = b
each_of_eight P a b c d e f g h (suc (suc zero)) lt = c
each_of_eight P a b c d e f g h (suc (suc (suc zero))) lt = d
each_of_eight P a b c d e f g h (suc (suc (suc (suc zero)))) lt = e
each_of_eight P a b c d e f g h (suc (suc (suc (suc (suc zero))))) lt = f
each_of_eight P a b c d e f g h (suc (suc (suc (suc (suc (suc zero)))))) lt = g
each_of_eight P a b c d e f g h (suc (suc (suc (suc (suc (suc (suc zero))))))) lt = h
each_of_eight P a b c d e f g h (suc (suc (suc (suc (suc (suc (suc (suc k)))))))) lt =
    absurd (omega arith)

-- eight octets that are read take their place, and those before them stay
pub eight_more : (text old os : List ℕ) (at : ℕ) → at + 8 ≤ length old → length os ≡ 8
    → ((j : ℕ) → j < 8 → pair_value (get_or text (2 * at + 2 * j) 0)
    (get_or text (2 * at + 2 * j + 1) 0) (2 * at + 2 * j) ≡ Ok (get_or os j 0))
    → (n : ℕ) → at ≤ n → IsRead text old n → IsRead text (put_chunk at old os) (at + 8)
eight_more text old os at room eight here n from so_far k lt =
    elim (cases_lt k at) [
      | inl below ↦
          rw (get_or-put_chunk_below at old os k 0 below) (so_far k (omega arith))
      | inr beyond ↦
          let back : at + (k - at) ≡ k = omega arith in
          let twice : 2 * at + 2 * (k - at) ≡ 2 * k = omega arith in
          let there = get_or-put_chunk_at at old os (k - at) 0 (omega (arith, eight))
          (omega (arith, eight)) in
          let value = rw twice at (here (k - at) (omega arith)) in
          rw (rw back at there) value
    ]

-- ---- the whole text

nothing_before : (r : Result (List ℕ) FromHexError) → r ≡ prepend [] r
nothing_before (Ok rest) = refl
nothing_before (Err e) = refl

cons_before : (o : ℕ) (os : List ℕ) (r : Result (List ℕ) FromHexError)
    → cons_byte o (prepend os r) ≡ prepend (o ∷ os) r
cons_before o os (Ok rest) = refl
cons_before o os (Err e) = refl

-- octets whose digits are read stand before what is decoded behind them
octets_read : (s os : List ℕ) (i : ℕ) → 2 * i + 2 * length os ≤ length s
    → ((k : ℕ) → k < length os → pair_value (get_or s (2 * (i + k)) 0)
    (get_or s (2 * (i + k) + 1) 0) (2 * (i + k)) ≡ Ok (get_or os k 0))
    → decode_pairs (2 * i) (drop (2 * i) s)
    ≡ prepend os (decode_pairs (2 * (i + length os)) (drop (2 * (i + length os)) s))
octets_read s [] i fits each =
    ap (λ (n : ℕ). decode_pairs (2 * n) (drop (2 * n) s)) (let e : i ≡ i + 0 = omega arith in e)
    ∙ nothing_before _
octets_read s (o ∷ os) i fits each =
    let here : pair_value (get_or s (2 * i) 0) (get_or s (2 * i + 1) 0) (2 * i) ≡ Ok o =
    let z : i + 0 ≡ i = omega arith in rw z at (each 0 (omega arith)) in
    let later = octets_read s os (i + 1) (omega arith) (λ k lt.
    let e : i + 1 + k ≡ i + suc k = omega arith in
    rw e (each (suc k) (omega arith))) in
    let next : 2 * i + 2 ≡ 2 * (i + 1) = omega arith in
    let end : i + 1 + length os ≡ i + length (o ∷ os) = omega arith in
    ap (decode_pairs (2 * i)) (drop-pair s i (omega arith))
    ∙ decode_pairs-ok_pair (2 * i) (get_or s (2 * i) 0) (get_or s (2 * i + 1) 0) o
    (drop (2 * (i + 1)) s) here
    ∙ ap (λ (n : ℕ). cons_byte o (decode_pairs n (drop (2 * (i + 1)) s))) next
    ∙ ap (cons_byte o) later ∙ cons_before o os _
    ∙ ap (λ (n : ℕ). prepend (o ∷ os) (decode_pairs (2 * n) (drop (2 * n) s))) end

even : (s : List ℕ) (n : ℕ) → length s ≡ 2 * n → decode_of s ≡ decode_pairs 0 s
even s n twice = grind (arith)

-- all octets are read
pub all_read : (s os : List ℕ) → length s ≡ 2 * length os → IsRead s os (length os)
    → decode_of s ≡ Ok os
unfolding decode_pairs
all_read s os twice read =
    let whole = octets_read s os 0 (omega (arith, twice)) (λ k lt.
    let none : 0 + k ≡ k = omega arith in rw none (read k lt)) in
    let none : drop (2 * (0 + length os)) s ≡ [] =
    drop_all (2 * (0 + length os)) s (omega (arith, twice)) in
    even s (length os) twice ∙ whole
    ∙ ap (λ (xs : List ℕ). prepend os (decode_pairs (2 * (0 + length os)) xs)) none
    ∙ ap Ok (append-nil os)
