-- The octets of a message's spelling.
use Rattle.std.proofs.Common.{◌≡◌, ℕ, zero, suc, ◌+◌, ◌*◌, ◌<◌, List, [], ◌∷◌, ◌++◌, length, arith}
use Rattle.std.proofs.Common.{Bool, true, false, not, eqb, refl}
use Rattle.std.specs.Prelude.{◌/◌, ◌%◌, ◌&&◌, slice_index}
use Rattle.std.specs.List.{flat_map, list_all}
use Rattle.hex.specs.Hex.{encode_lower, encode_with, lower_digits}
use Rattle.hex_lines.specs.Lines.{IsLine}
use Rattle.std.specs.Int.{w16, to_be_bytes}
use Rattle.app_message.specs.declared.kind.Kind.{Kind}
use Rattle.app_message.specs.declared.kind.Kind.TheVariants as kinds
use Rattle.app_message.specs.Telegram.{AreOctets, Entry, Rises, Telegram}
use Rattle.app_message.specs.Spelling.{IsMessage, body, head_text, item_text, kind_code, spelling}

pub no_octets : AreOctets []
no_octets i = omega arith

pub one_more_octet : (b : ℕ) (xs : List ℕ) → b < 256 → AreOctets xs → AreOctets (b ∷ xs)
one_more_octet b xs one others zero = one
one_more_octet b xs one others (suc i) = others i

pub both_octets : (a b : List ℕ) → AreOctets a → AreOctets b → AreOctets (a ++ b)
both_octets [] b first second = second
both_octets (x ∷ a) b first second =
    one_more_octet x (a ++ b) (first zero) (both_octets a b (λ i. first (suc i)) second)

items_octets : (low : ℕ) (items : List Entry) → Rises low items
    → AreOctets (flat_map item_text items)
items_octets low [] rise = no_octets
items_octets low (e ∷ es) rise =
    let entry = rise.1 in
    both_octets (item_text e) (flat_map item_text es)
    (one_more_octet e.id (length e.content ∷ e.content) entry.id
    (one_more_octet (length e.content) e.content (omega (arith, entry.size)) entry.octets))
    (items_octets (e.id + 1) es rise.2)

few_kinds : (k : Kind) → kind_code k < 8
few_kinds kinds.Read = omega arith
few_kinds kinds.Answer = omega arith
few_kinds kinds.Write = omega arith
few_kinds kinds.Report = omega arith
few_kinds kinds.Notice = omega arith
few_kinds kinds.Ack = omega arith

two_bytes : (n : ℕ) → AreOctets (to_be_bytes w16 n)
two_bytes n =
    one_more_octet (n / 256 % 256) (n % 256 ∷ []) (omega arith)
    (one_more_octet (n % 256) [] (omega arith) no_octets)

pub spelled_octets : (m : Telegram) → IsMessage m → AreOctets (spelling m)
spelled_octets m valid =
    let head = valid.head in
    let kind = few_kinds m.kind in
    both_octets (head_text m (length (body m))) (body m)
    (both_octets (m.to ++ m.from) _
    (both_octets m.to m.from head.to_octets head.from_octets)
    (one_more_octet 0 ((kind_code m.kind * 32 + m.token) ∷ to_be_bytes w16 (length (body m)))
    (omega arith)
    (one_more_octet (kind_code m.kind * 32 + m.token) (to_be_bytes w16 (length (body m)))
    (omega (arith, kind, head.in_range)) (two_bytes (length (body m))))))
    (one_more_octet (length m.address) _ (omega (arith, valid.address_most))
    (both_octets m.address (flat_map item_text m.items) valid.address_octets
    (items_octets 0 m.items valid.items)))

-- ---- without a line feed

pub plain_both : (a b : List ℕ) → IsLine a → IsLine b → IsLine (a ++ b)
plain_both [] b first second = second
plain_both (x ∷ a) b first second = by_first (not (eqb x 10)) first (plain_both a b)
  where
    by_first : (t : Bool) → (t && list_all (λ c. not (eqb c 10)) a) ≡ true
        → (IsLine a → IsLine b → IsLine (a ++ b))
        → (t && list_all (λ c. not (eqb c 10)) (a ++ b)) ≡ true
    by_first true all others = others all second
    by_first false all others = absurd cc

index_plain : (xs : List ℕ) (i : ℕ) → IsLine xs → not (eqb (slice_index xs i) 10) ≡ true
index_plain [] i plain = refl
index_plain (x ∷ xs) zero plain = by_first (not (eqb x 10)) plain
  where
    by_first : (t : Bool) → (t && list_all (λ c. not (eqb c 10)) xs) ≡ true → t ≡ true
    by_first true all = refl
    by_first false all = absurd cc
index_plain (x ∷ xs) (suc i) plain = by_first (not (eqb x 10)) plain (index_plain xs i)
  where
    by_first : (t : Bool) → (t && list_all (λ c. not (eqb c 10)) xs) ≡ true
        → (IsLine xs → not (eqb (slice_index xs i) 10) ≡ true)
        → not (eqb (slice_index xs i) 10) ≡ true
    by_first true all others = others all
    by_first false all others = absurd cc

pub digits_plain : (xs : List ℕ) → IsLine (encode_lower xs)
unfolding encode_with
digits_plain [] = refl
digits_plain (b ∷ rest) =
    rw (index_plain lower_digits (b / 16) refl, index_plain lower_digits (b % 16) refl)
    (digits_plain rest)
