-- What was spelled is read again.
use Rattle.std.proofs.Common.{◌≡◌, ◌≢◌, ℕ, zero, suc, ◌+◌, ◌*◌, ◌/◌, ◌%◌, ◌≤◌, refl, sym, ap}
use Rattle.std.proofs.Common.{subst, ◌∙◌, List, [], ◌∷◌, ◌++◌, length, get_or, drop, Result, Ok}
use Rattle.std.proofs.Common.{append_assoc, arith}
use Rattle.std.specs.Int.{w16, to_be_bytes}
use Rattle.std.specs.List.{flat_map}
use Rattle.std.proofs.lemmas.Bool.{le-ltb, ne_eqb}
use Rattle.std.proofs.lemmas.List.{length-append, take_at, drop_at}
use Rattle.std.proofs.lemmas.Nat.{div-mul-add, mod-mul-add}
use Rattle.app_message.specs.declared.kind.Kind.{Kind}
use Rattle.app_message.specs.declared.kind.Kind.TheVariants.{Read, Answer, Write, Report, Notice}
use Rattle.app_message.specs.declared.kind.Kind.TheVariants.{Ack}
use Rattle.app_message.specs.Telegram.{Entry, Telegram, telegram, IsEntry, Rises}
use Rattle.app_message.specs.Spelling.{kind_code, item_text, body, spelling, IsHead, IsMessage}
use Rattle.app_message.specs.Stream.{with_messages, stream_on, stream_of}
use Rattle.app_message.proofs.Stages.{ok_is}
use Rattle.app_message.proofs.Cutting.{stream_step}
use Rattle.app_message.specs.Grammar.{Halt, Header, kind_at, header_at, item_at, items_at}
use Rattle.app_message.specs.Grammar.{address_at, body_at, front_at}

-- ---- items

pub item_again : (low : ℕ) (e : Entry) (s : List ℕ) → low ≤ e.id → IsEntry e
    → item_at low (item_text e ++ s) ≡ Ok (e, s)
unfolding item_at
item_again low e s order valid =
    let n = length e.content in
    let size = valid.size in
    let long : 2 ≤ length (item_text e ++ s) = omega (arith, length-append e.content s) in
    let enough : n ≤ length (e.content ++ s) = omega (arith, length-append e.content s) in
    let even : n ≢ 255 = λ h. omega arith in
    rw (
      le-ltb (length (item_text e ++ s)) 2 long,
      le-ltb e.id low order,
      ne_eqb n 255 even,
      le-ltb (length (e.content ++ s)) n enough,
      take_at e.content s n refl,
      drop_at e.content s n
          refl,
    ) refl

items_again : (n low : ℕ) (es : List Entry) → Rises low es → length (flat_map item_text es) ≤ n
    → items_at n low (flat_map item_text es) ≡ Ok es
unfolding items_at
items_again zero low [] rises p = refl
items_again zero low (e ∷ es) rises p = absurd (omega arith)
items_again (suc n) low [] rises p = refl
items_again (suc n) low (e ∷ es) rises p =
    let more : List ℕ = flat_map item_text es in
    let some : length (item_text e ++ more) ≢ 0 = λ h. omega arith in
    let fewer : length more ≤ n = omega (arith, length-append e.content more) in
    rw (
      ne_eqb (length (item_text e ++ more)) 0 some,
      item_again low e more rises.0 rises.1,
      items_again n (e.id + 1) es rises.2 fewer,
    ) refl

-- ---- the body

address_again : (address t : List ℕ) → 1 ≤ length address → length address ≤ 8
    → address_at (length address ∷ address ++ t) ≡ Ok (length address)
unfolding address_at
address_again address t least most =
    let n = length address in
    let some : n ≢ 0 = λ h. omega arith in
    let within : n + 1 ≤ length (n ∷ address ++ t) = omega (arith, length-append address t) in
    rw (ne_eqb n 0 some, le-ltb 8 n most, le-ltb (length (n ∷ address ++ t)) (n + 1) within) refl

body_again : (h : Header) (m : Telegram) → IsMessage m
    → body_at h (body m) ≡ Ok (telegram h.to h.from h.kind h.token m.address m.items)
unfolding body_at
body_again h m valid =
    let items : List ℕ = flat_map item_text m.items in
    rw (
      address_again m.address items valid.address_least valid.address_most,
      take_at m.address items (length m.address) refl,
      drop_at m.address items (length m.address) refl,
      items_again (length items) 0 m.items valid.items (omega arith),
    ) refl

-- ---- the header

kind_again : (k : Kind) → kind_at (kind_code k) ≡ Ok k
kind_again Read = refl
kind_again Answer = refl
kind_again Write = refl
kind_again Report = refl
kind_again Notice = refl
kind_again Ack = refl

two : (s : List ℕ) → length s ≡ 2 → s ≡ get_or s 0 0 ∷ get_or s 1 0 ∷ []
two [] h = absurd (omega arith)
two (a ∷ []) h = absurd (omega arith)
two (a ∷ b ∷ []) h = refl
two (a ∷ b ∷ c ∷ s) h = absurd (omega arith)

header_at_octets : (a b c d st hi lo : ℕ) (s : List ℕ) (k : Kind) (token n : ℕ)
    → st / 32 ≡ kind_code k → st % 32 ≡ token → hi * 256 + lo ≡ n → 2 ≤ n → n ≤ 1024
    → header_at (a ∷ b ∷ c ∷ d ∷ 0 ∷ st ∷ hi ∷ lo ∷ s) ≡ Ok
    (record { to = a ∷ b ∷ []; from = c ∷ d ∷ []; kind = k; token = token; len = n })
unfolding header_at
header_at_octets a b c d st hi lo s k token n bits low size least most =
    let long : 8 ≤ length (a ∷ b ∷ c ∷ d ∷ 0 ∷ st ∷ hi ∷ lo ∷ s) = omega arith in
    rw (
      le-ltb (length (a ∷ b ∷ c ∷ d ∷ 0 ∷ st ∷ hi ∷ lo ∷ s)) 8 long,
      bits,
      kind_again k,
      low,
      size,
      le-ltb n 2 least,
      le-ltb 1024 n most,
    ) refl

header_again : (to from : List ℕ) (k : Kind) (token n : ℕ) (s : List ℕ) → IsHead to from token
    → 2 ≤ n → n ≤ 1024
    → header_at (to ++ from ++ (0 ∷ (kind_code k * 32 + token) ∷ to_be_bytes w16 n) ++ s) ≡ Ok
    (record { to = to; from = from; kind = k; token = token; len = n })
header_again to from k token n s head least most =
    let P : List ℕ → List ℕ → Type 0 =
    λ x y. header_at (x ++ y ++ (0 ∷ (kind_code k * 32 + token) ∷ to_be_bytes w16 n) ++ s) ≡ Ok
    (record { to = x; from = y; kind = k; token = token; len = n }) in
    let size : n / 256 % 256 * 256 + n % 256 ≡ n = omega arith in
    let octets =
    header_at_octets (get_or to 0 0) (get_or to 1 0) (get_or from 0 0) (get_or from 1 0)
    (kind_code k * 32 + token) (n / 256 % 256) (n % 256) s k token n
    (div-mul-add (kind_code k) 32 token head.in_range)
    (mod-mul-add (kind_code k) 32 token head.in_range) size least most in
    subst (λ (x : List ℕ). P x from) (sym (two to head.to_size))
    (subst (λ (y : List ℕ). P (get_or to 0 0 ∷ get_or to 1 0 ∷ []) y)
    (sym (two from head.from_size)) octets)

-- the octets of a header
abbrev head_text : Telegram → List ℕ
head_text m = m.to ++ m.from
    ++ (0 ∷ (kind_code m.kind * 32 + m.token) ∷ to_be_bytes w16 (length (body m)))

head_size : (m : Telegram) → IsMessage m → length (head_text m) ≡ 8
head_size m valid =
    let to = valid.head.to_size in
    let from = valid.head.from_size in
    simp (length-append) (omega arith)

-- ---- a message

pub front_again : (m : Telegram) (s : List ℕ) → IsMessage m → front_at (spelling m ++ s) ≡ Ok (m, s)
unfolding front_at
front_again m s valid =
    let text : spelling m ++ s ≡ head_text m ++ (body m ++ s) =
    append_assoc (head_text m) (body m) s in
    let h : Header =
    record { to = m.to; from = m.from; kind = m.kind; token = m.token; len = length (body m) } in
    let header : header_at (head_text m ++ (body m ++ s)) ≡ Ok h =
    header_again m.to m.from m.kind m.token (length (body m)) (body m ++ s) valid.head valid.least
    valid.most in
    let behind : drop 8 (head_text m ++ (body m ++ s)) ≡ body m ++ s =
    drop_at (head_text m) (body m ++ s) 8 (head_size m valid) in
    let enough : length (body m) ≤ length (body m ++ s) = omega (arith, length-append (body m) s) in
    ap front_at text ∙ rw (
      header,
      behind,
      le-ltb (length (body m ++ s)) (length (body m)) enough,
      take_at (body m) s (length (body m)) refl,
      drop_at (body m) s (length (body m)) refl,
      body_again h m valid,
    ) refl

abbrev front_is : Telegram × List ℕ → Result (Telegram × List ℕ) Halt
front_is x = Ok x

-- no spelling begins another
pub no_prefix : (m n : Telegram) (a b : List ℕ) → IsMessage m → IsMessage n
    → spelling m ++ a ≡ spelling n ++ b → (m ≡ n) × (a ≡ b)
no_prefix m n a b vm vn same =
    let both : front_is (m, a) ≡ front_is (n, b) =
    sym (front_again m a vm) ∙ ap front_at same ∙ front_again n b vn in
    let pair : (m, a) ≡ (n, b) = ok_is (m, a) (n, b) both in
    (ap (λ (x : Telegram × List ℕ). x.0) pair, ap (λ (x : Telegram × List ℕ). x.1) pair)

pub read_again : (m : Telegram) (s : List ℕ) → IsMessage m
    → stream_of (spelling m ++ s) ≡ with_messages (m ∷ []) (stream_of s)
read_again m s valid = stream_step (spelling m ++ s) ∙ ap (stream_on (spelling m ++ s) stream_of)
    (front_again m s valid)
