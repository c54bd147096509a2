-- The octets fix the stream: what the relation says of a stream is said of one stream alone.
use Rattle.std.proofs.Common.{◌≡◌, ◌≢◌, ℕ, zero, suc, ◌+◌, ◌%◌, ◌<◌, ◌≤◌, Bool, true, false, cond}
use Rattle.std.proofs.Common.{eqb, ltb, refl, sym, ap, subst, ◌∙◌, List, [], ◌∷◌, ◌++◌, length}
use Rattle.std.proofs.Common.{get_or, take, drop, Option, Some, None, Result, Ok, Err}
use Rattle.std.proofs.Common.{append_assoc, arith, inl, inr}
use Rattle.std.specs.List.{flat_map, AllByRecursion}
use Rattle.std.proofs.lemmas.Bool.{lt-ltb, le-ltb, eq-eqb, ne_eqb, cases_lt}
use Rattle.std.proofs.lemmas.List.{length-append, length-drop, length-take, get_or-drop}
use Rattle.std.proofs.lemmas.List.{get_or-take, get_or-append-add}
use Rattle.app_message.specs.declared.fault.GrammarFault.{GrammarFault}
use Rattle.app_message.specs.declared.fault.GrammarFault.TheVariants.{BadCode, BadKind, BadLength}
use Rattle.app_message.specs.declared.fault.GrammarFault.TheVariants.{BadItem}
use Rattle.app_message.specs.declared.fault.StreamFault.{StreamFault}
use Rattle.app_message.specs.declared.kind.Kind.{Kind}
use Rattle.app_message.specs.declared.kind.Kind.TheVariants.{Read, Answer, Write, Report, Notice}
use Rattle.app_message.specs.declared.kind.Kind.TheVariants.{Ack}
use Rattle.app_message.specs.Telegram.{Entry, Telegram, AreOctets, Rises}
use Rattle.app_message.specs.Spelling.{item_text, spelling, IsMessage}
use Rattle.app_message.specs.Grammar.{Halt, short, fault, Header, kind_at, header_at, item_at}
use Rattle.app_message.specs.Grammar.{items_at, address_at, body_at, front_at}
use Rattle.app_message.specs.Faults.{code_in, bits_in, size_in, address_size_in, items_in}
use Rattle.app_message.specs.Faults.{HasHeader, IsWhole, IsShort, IsBadAddress, least_after}
use Rattle.app_message.specs.Faults.{IsBadItem, HasBadItems, BeginsWith}
use Rattle.app_message.specs.Stream.{Stream, stream, fault_of, with_messages, stream_on, stream_of}
use Rattle.app_message.specs.Laws.{Ends, IsStream}
use Rattle.app_message.proofs.Cutting.{stream_step}
use Rattle.app_message.proofs.Again.{item_again, read_again}

-- an earlier test that halts likewise changes nothing
guard_any : {A : Type 0} (b : Bool) (d : Halt) (r : Result A Halt) → r ≡ Err d
    → cond b (Err d) r ≡ Err d
guard_any true d r e = refl
guard_any false d r e = e

-- ---- items

item_bad : (low : ℕ) (t : List ℕ) → IsBadItem low t → item_at low t ≡ Err (fault BadItem)
unfolding item_at
item_bad low t (inl few) = rw (lt-ltb (length t) 2 few) refl
item_bad low t (inr (inl below)) =
    guard_any (ltb (length t) 2) (fault BadItem) _ (rw (lt-ltb (get_or t 0 0) low below) refl)
item_bad low t (inr (inr (inl odd))) = guard_any (ltb (length t) 2) (fault BadItem) _
    (guard_any (ltb (get_or t 0 0) low) (fault BadItem) _ (rw (eq-eqb (get_or t 1 0) 255 odd) refl))
item_bad low t (inr (inr (inr over))) =
    elim (cases_lt (length t) 2) [
      | inl few ↦ rw (lt-ltb (length t) 2 few) refl
      | inr two ↦
          let past : length (drop 2 t) < get_or t 1 0 = omega (arith, two, over, length-drop 2 t) in
          guard_any (ltb (length t) 2) (fault BadItem) _
          (guard_any (ltb (get_or t 0 0) low) (fault BadItem) _
          (guard_any (eqb (get_or t 1 0) 255) (fault BadItem) _
          (rw (lt-ltb (length (drop 2 t)) (get_or t 1 0) past) refl)))
    ]

items_bad : (sound : List Entry) (n low : ℕ) (left : List ℕ) → Rises low sound → 0 < length left
    → IsBadItem (least_after low sound) left → length (flat_map item_text sound ++ left) ≤ n
    → items_at n low (flat_map item_text sound ++ left) ≡ Err (fault BadItem)
unfolding items_at
items_bad [] zero low left rises some bad p = absurd (omega arith)
items_bad [] (suc n) low left rises some bad p =
    rw (ne_eqb (length left) 0 (λ (h : length left ≡ 0). omega arith), item_bad low left bad) refl
items_bad (e ∷ es) zero low left rises some bad p = absurd (omega arith)
items_bad (e ∷ es) (suc n) low left rises some bad p =
    let more : List ℕ = flat_map item_text es ++ left in
    let text : flat_map item_text (e ∷ es) ++ left ≡ item_text e ++ more =
    append_assoc (item_text e) (flat_map item_text es) left in
    let long : length (flat_map item_text (e ∷ es) ++ left) ≡ length (item_text e ++ more) =
    ap (λ (x : List ℕ). length x) text in
    let fewer : length more ≤ n = omega (arith, long, length-append (item_text e) more) in
    let some_more : length (item_text e ++ more) ≢ 0 = λ h. omega arith in
    ap (items_at (suc n) low) text ∙ rw (
      ne_eqb (length (item_text e ++ more)) 0 some_more,
      item_again low e more rises.0 rises.1,
      items_bad es n (e.id + 1) left rises.2 some bad fewer,
    )
    refl

-- ---- the address

address_bad : (s : List ℕ) → IsBadAddress (get_or s 0 0) (length s)
    → address_at s ≡ Err (fault BadLength)
unfolding address_at
address_bad s (inl none) = rw (eq-eqb (get_or s 0 0) 0 none) refl
address_bad s (inr (inl many)) =
    guard_any (eqb (get_or s 0 0) 0) (fault BadLength) _ (rw (lt-ltb 8 (get_or s 0 0) many) refl)
address_bad s (inr (inr over)) = guard_any (eqb (get_or s 0 0) 0) (fault BadLength) _
    (guard_any (ltb 8 (get_or s 0 0)) (fault BadLength) _
    (rw (lt-ltb (length s) (get_or s 0 0 + 1) over) refl))

address_sound : (s : List ℕ) → 1 ≤ get_or s 0 0 → get_or s 0 0 ≤ 8 → get_or s 0 0 < length s
    → address_at s ≡ Ok (get_or s 0 0)
unfolding address_at
address_sound s least most within =
    let some : get_or s 0 0 ≢ 0 = λ h. omega arith in
    rw (
      ne_eqb (get_or s 0 0) 0 some,
      le-ltb 8 (get_or s 0 0) most,
      le-ltb (length s) (get_or s 0 0 + 1) (omega arith),
    ) refl

-- ---- the header

kind_sound : (b : ℕ) → b < 8 → b ≢ 5 → b ≢ 6 → (k : Kind) × (kind_at b ≡ Ok k)
kind_sound zero lt five six = (Read, refl)
kind_sound (suc zero) lt five six = (Answer, refl)
kind_sound (suc (suc zero)) lt five six = (Write, refl)
kind_sound (suc (suc (suc zero))) lt five six = (Report, refl)
kind_sound (suc (suc (suc (suc zero)))) lt five six = (Notice, refl)
kind_sound (suc (suc (suc (suc (suc zero))))) lt five six = absurd (five refl)
kind_sound (suc (suc (suc (suc (suc (suc zero)))))) lt five six = absurd (six refl)
kind_sound (suc (suc (suc (suc (suc (suc (suc zero))))))) lt five six = (Ack, refl)
kind_sound (suc (suc (suc (suc (suc (suc (suc (suc b)))))))) lt five six = absurd (omega arith)

below_eight : (s : List ℕ) → AreOctets s → bits_in s < 8
below_eight s fits = let octet : get_or s 5 0 < 256 = fits 5 in omega arith

header_of : List ℕ → Kind → Header
header_of s k = record {
  to = get_or s 0 0 ∷ get_or s 1 0 ∷ [];
  from = get_or s 2 0 ∷ get_or s 3 0 ∷ [];
  kind = k;
  token = get_or s 5 0 % 32;
  len = size_in s;
}

header_sound : (s : List ℕ) → AreOctets s → HasHeader s
    → (h : Header) × (h.len ≡ size_in s) × (header_at s ≡ Ok h)
unfolding header_at header_of
header_sound s fits h =
    let k = kind_sound (bits_in s) (below_eight s fits) h.not_five h.not_six in (
      header_of s k.0,
      refl,
      rw (
        le-ltb (length s) 8 h.long,
        eq-eqb (code_in s) 0 h.code,
        k.1,
        le-ltb (size_in s) 2 h.least,
        le-ltb 1024 (size_in s) h.most,
      ) refl,
    )

-- ---- the front

short_sound : (s : List ℕ) → AreOctets s → IsShort s → front_at s ≡ Err short
unfolding front_at header_at
short_sound s fits (inl few) = rw (lt-ltb (length s) 8 few) refl
short_sound s fits (inr t) =
    let h = header_sound s fits t.0 in
    let few = t.1 in
    let long = t.0.long in
    let is = h.1 in
    let less : length (drop 8 s) < h.0.len = omega (arith, few, is, long, length-drop 8 s) in
    rw (h.2, lt-ltb (length (drop 8 s)) h.0.len less) refl

-- a header, all octets, and a body that halts
body_halts : (s : List ℕ) (f : GrammarFault) → AreOctets s → IsWhole s
    → ((h : Header) → body_at h (take (size_in s) (drop 8 s)) ≡ Err (fault f))
    → front_at s ≡ Err (fault f)
unfolding front_at
body_halts s f fits whole bad =
    let h = header_sound s fits whole.header in
    let all = whole.all in
    let is = h.1 in
    let enough : h.0.len ≤ length (drop 8 s) = omega (arith, all, is, length-drop 8 s) in
    let body : body_at h.0 (take h.0.len (drop 8 s)) ≡ Err (fault f) =
    ap (λ (n : ℕ). body_at h.0 (take n (drop 8 s))) is ∙ bad h.0 in
    rw (h.2, le-ltb (length (drop 8 s)) h.0.len enough, body) refl

body_size : (s : List ℕ) → IsWhole s → length (take (size_in s) (drop 8 s)) ≡ size_in s
body_size s whole =
    let all = whole.all in omega (arith, all, length-drop 8 s, length-take (size_in s) (drop 8 s))

body_first : (s : List ℕ) → IsWhole s → get_or (take (size_in s) (drop 8 s)) 0 0 ≡ address_size_in s
body_first s whole = let least = whole.header.least in get_or-take (size_in s) (drop 8 s) 0 0
    (omega arith) ∙ get_or-drop 8 s 0 0

bad_address : (s : List ℕ) (h : Header) → IsWhole s → IsBadAddress (address_size_in s) (size_in s)
    → body_at h (take (size_in s) (drop 8 s)) ≡ Err (fault BadLength)
unfolding body_at
bad_address s h whole bad =
    let body : List ℕ = take (size_in s) (drop 8 s) in
    let here : IsBadAddress (get_or body 0 0) (length body) =
    subst (λ (n : ℕ). IsBadAddress (get_or body 0 0) n) (sym (body_size s whole))
    (subst (λ (n : ℕ). IsBadAddress n (size_in s)) (sym (body_first s whole)) bad) in
    rw (address_bad body here) refl

bad_items : (s : List ℕ) (h : Header) → HasBadItems s
    → body_at h (take (size_in s) (drop 8 s)) ≡ Err (fault BadItem)
unfolding body_at
bad_items s h t =
    let body : List ℕ = take (size_in s) (drop 8 s) in
    let first = body_first s t.whole in
    let size = body_size s t.whole in
    let least = t.least in
    let most = t.most in
    let within = t.within in
    let address : address_at body ≡ Ok (get_or body 0 0) =
    address_sound body (omega (arith, first, least)) (omega (arith, first, most))
    (omega (arith, first, size, within)) in
    let bad = t.items in
    let halts : items_at (length (items_in s)) 0 (items_in s) ≡ Err (fault BadItem) =
    subst (λ (x : List ℕ). items_at (length x) 0 x ≡ Err (fault BadItem)) (sym bad.parts)
    (items_bad bad.sound (length (flat_map item_text bad.sound ++ bad.left)) 0 bad.left bad.rises
    bad.some bad.faulty (omega arith)) in
    rw (address, first, halts) refl

fault_sound : (f : GrammarFault) (s : List ℕ) → AreOctets s → BeginsWith f s
    → front_at s ≡ Err (fault f)
unfolding front_at header_at
fault_sound BadCode s fits t = rw (le-ltb (length s) 8 t.0, ne_eqb (code_in s) 0 t.1) refl
fault_sound BadKind s fits t = elim t.2 [
  | inl five ↦ rw (le-ltb (length s) 8 t.0, eq-eqb (code_in s) 0 t.1, five) refl
  | inr six ↦ rw (le-ltb (length s) 8 t.0, eq-eqb (code_in s) 0 t.1, six) refl
]
fault_sound BadLength s fits (inl t) =
    let k = kind_sound (bits_in s) (below_eight s fits) t.not_five t.not_six in
    elim t.size [
      | inl few ↦ rw (
        le-ltb (length s) 8 t.long,
        eq-eqb (code_in s) 0 t.code,
        k.1,
        lt-ltb (size_in s) 2 few,
      ) refl
      | inr many ↦ rw (
        le-ltb (length s) 8 t.long,
        eq-eqb (code_in s) 0 t.code,
        k.1,
        le-ltb (size_in s) 2 (omega arith),
        lt-ltb 1024 (size_in s) many,
      ) refl
    ]
fault_sound BadLength s fits (inr t) =
    body_halts s BadLength fits t.0 (λ h. bad_address s h t.0 t.1)
fault_sound BadItem s fits t = body_halts s BadItem fits t.whole (λ h. bad_items s h t)

-- ---- the stream

AreOctets-behind : (a b : List ℕ) → AreOctets (a ++ b) → AreOctets b
AreOctets-behind a b fits i = rw (← get_or-append-add a b i 0) (fits (length a + i))

ends_sound : (s rest : List ℕ) (f : Option StreamFault) → AreOctets s → Ends f rest s
    → stream [] rest f ≡ stream_of s
ends_sound s rest None fits end =
    let walk : stream_of s ≡ stream [] s None =
    stream_step s ∙ ap (stream_on s stream_of) (short_sound s fits end.1) in
    ap (λ (r : List ℕ). stream [] r None) end.0 ∙ sym walk
ends_sound s rest (Some f) fits end =
    let walk : stream_of s ≡ stream [] [] (Some (fault_of f.fault s)) =
    stream_step s ∙ ap (stream_on s stream_of) (fault_sound f.fault s fits end.1) in
    let told : StreamFault → Stream = λ g. stream [] [] (Some g) in
    let origin : f ≡ fault_of f.fault s =
    ap (λ (o : List ℕ). record { fault = f.fault; originator = o; token = f.token }) end.2 ∙ ap
    (λ (k : ℕ). record {
      fault = f.fault;
      originator = get_or s 2 0 ∷ get_or s 3 0 ∷ [];
      token = k;
    }) end.3 in
    ap (λ (r : List ℕ). stream [] r (Some f)) end.0 ∙ ap told origin ∙ sym walk

one_in : (ms : List Telegram) (rest left : List ℕ) (f : Option StreamFault)
    → AreOctets (flat_map spelling ms ++ left) → AllByRecursion IsMessage ms → Ends f rest left
    → stream ms rest f ≡ stream_of (flat_map spelling ms ++ left)
one_in [] rest left f fits valid end = ends_sound left rest f fits end
one_in (m ∷ ms) rest left f fits valid end =
    let more : List ℕ = flat_map spelling ms ++ left in
    let text : flat_map spelling (m ∷ ms) ++ left ≡ spelling m ++ more =
    append_assoc (spelling m) (flat_map spelling ms) left in
    let inside : AreOctets more =
    AreOctets-behind (spelling m) more (subst (λ (x : List ℕ). AreOctets x) text fits) in
    ap (with_messages (m ∷ [])) (one_in ms rest left f inside valid.1 end) ∙ sym
    (read_again m more valid.0) ∙ ap stream_of (sym text)

pub one_stream : (s : List ℕ) (t : Stream) → AreOctets s → IsStream s t → t ≡ stream_of s
one_stream s t fits is = one_in t.messages t.rest is.left t.fault
    (subst (λ (x : List ℕ). AreOctets x) is.parts fits) is.valid is.ends ∙ ap stream_of
    (sym is.parts)
