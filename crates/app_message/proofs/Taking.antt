-- What is read is spelled so, and can be spelled.
use Rattle.std.proofs.Common.{◌≡◌, ◌≢◌, ℕ, zero, suc, ◌+◌, ◌*◌, ◌/◌, ◌%◌, ◌<◌, ◌≤◌, cond, eqb, ltb}
use Rattle.std.proofs.Common.{refl, sym, ap, subst, ◌∙◌, List, [], ◌∷◌, ◌++◌, length, get_or, take}
use Rattle.std.proofs.Common.{drop, Result, Ok, arith, inl, inr}
use Rattle.std.specs.List.{flat_map}
use Rattle.std.proofs.lemmas.Bool.{ltb-false, eqb-true, eqb-false, eq-eqb, ne_eqb, cases_eq}
use Rattle.std.proofs.lemmas.List.{length-drop, length-take, take-append-drop, nil_from_length}
use Rattle.app_message.specs.declared.kind.Kind.{Kind}
use Rattle.app_message.specs.declared.kind.Kind.TheVariants.{Read, Answer, Write, Report, Notice}
use Rattle.app_message.specs.declared.kind.Kind.TheVariants.{Ack}
use Rattle.app_message.specs.declared.fault.GrammarFault.TheVariants.{BadCode, BadLength, BadItem}
use Rattle.app_message.specs.Telegram.{Entry, entry, telegram, AreOctets, IsEntry, Rises}
use Rattle.app_message.specs.Spelling.{kind_code, item_text, body_text, IsHead, IsMessage}
use Rattle.app_message.specs.Grammar.{Halt, short, fault, ◌>>=◌, Header, kind_at, length_at}
use Rattle.app_message.specs.Grammar.{header_at, item_at, items_at, address_at}
use Rattle.app_message.proofs.Stages.{AreOctets-drop, AreOctets-take, bind_ok, guard_ok}
use Rattle.app_message.proofs.Stages.{guard_else, ok_is}

-- ---- items

pub record ItemTaken (low : ℕ) (s : List ℕ) (x : Entry × List ℕ) : Type 0 where
  pub order : low ≤ x.0.id
  pub valid : IsEntry x.0
  pub parts : s ≡ item_text x.0 ++ x.1
  pub rest : AreOctets x.1
  pub shorter : length x.1 < length s

pub item_takes : (low : ℕ) (s : List ℕ) (x : Entry × List ℕ) → AreOctets s → item_at low s ≡ Ok x
    → ItemTaken low s x
unfolding item_at
item_takes low [] x fits e = absurd cc
item_takes low (a ∷ []) x fits e = absurd cc
item_takes low (a ∷ b ∷ s) x fits e =
    let g0 = guard_ok (ltb (length (a ∷ b ∷ s)) 2) (fault BadItem) _ x e in
    let g1 = guard_ok (ltb a low) (fault BadItem) _ x g0.1 in
    let g2 = guard_ok (eqb b 255) (fault BadItem) _ x g1.1 in
    let g3 = guard_ok (ltb (length s) b) (fault BadItem) _ x g2.1 in
    let order : low ≤ a = ltb-false _ _ g1.0 in
    let odd : b ≢ 255 = eqb-false _ _ g2.0 in
    let long : b ≤ length s = ltb-false _ _ g3.0 in
    let octet : b < 256 = fits 1 in
    let below : a < 256 = fits 0 in
    let within : AreOctets s = λ i. fits (suc (suc i)) in
    let size : length (take b s) ≡ b = omega (arith, length-take b s) in
    let valid : IsEntry (entry a (take b s)) =
    record { id = below; size = omega (arith, size, odd); octets = AreOctets-take b s within } in
    let text : a ∷ b ∷ s ≡ item_text (entry a (take b s)) ++ drop b s =
    rw (size, take-append-drop b s) refl in
    subst (λ (y : Entry × List ℕ). ItemTaken low (a ∷ b ∷ s) y)
    (ok_is (entry a (take b s), drop b s) x g3.1)
    (record {
      order = order;
      valid = valid;
      parts = text;
      rest = AreOctets-drop b s within;
      shorter = omega (arith, length-drop b s);
    })

pub record ItemsTaken (low : ℕ) (s : List ℕ) (es : List Entry) : Type 0 where
  pub rises : Rises low es
  pub parts : s ≡ flat_map item_text es

items_then : (low : ℕ) (s : List ℕ) (e : Entry) (t : List ℕ) (es : List Entry)
    → ItemTaken low s (e, t) → ItemsTaken (e.id + 1) t es → ItemsTaken low s (e ∷ es)
items_then low s e t es first others = record {
  rises = (first.order, first.valid, others.rises);
  parts = first.parts ∙ ap (λ (x : List ℕ). item_text e ++ x) others.parts;
}

pub items_take : (n low : ℕ) (s : List ℕ) (es : List Entry) → length s ≤ n → AreOctets s
    → items_at n low s ≡ Ok es → ItemsTaken low s es
unfolding items_at
items_take zero low s es all fits e =
    subst (λ (y : List Entry). ItemsTaken low s y) (ok_is [] es e)
    (record { rises = tt; parts = nil_from_length s (omega arith) })
items_take (suc n) low s es all fits e =
    elim (cases_eq (length s) 0) [
      | inl none ↦
          let done = rw (eq-eqb (length s) 0 none) at e in
          subst (λ (y : List Entry). ItemsTaken low s y) (ok_is [] es done)
          (record { rises = tt; parts = nil_from_length s none })
      | inr some ↦
          let more = rw (ne_eqb (length s) 0 some) at e in
          let a =
          bind_ok (item_at low s) (λ x. items_at n (x.0.id + 1) x.1 >>= λ es. Ok (x.0 ∷ es)) es more
          in
          let first = item_takes low s a.0 fits a.1 in
          let b = bind_ok (items_at n (a.0.0.id + 1) a.0.1) (λ es. Ok (a.0.0 ∷ es)) es a.2 in
          let others =
          items_take n (a.0.0.id + 1) a.0.1 b.0 (omega (arith, first.shorter)) first.rest b.1 in
          subst (λ (y : List Entry). ItemsTaken low s y) {x = a.0.0 ∷ b.0}
          (ok_is (a.0.0 ∷ b.0) es b.2) (items_then low s a.0.0 a.0.1 b.0 first others)
    ]

-- ---- the body

pub record AddressTaken (s : List ℕ) (n : ℕ) : Type 0 where
  pub least : 1 ≤ n
  pub most : n ≤ 8
  pub within : n < length s
  pub size : get_or s 0 0 ≡ n

pub address_takes : (s : List ℕ) (n : ℕ) → address_at s ≡ Ok n → AddressTaken s n
unfolding address_at
address_takes s n e =
    let g0 = guard_ok (eqb (get_or s 0 0) 0) (fault BadLength) _ n e in
    let g1 = guard_ok (ltb 8 (get_or s 0 0)) (fault BadLength) _ n g0.1 in
    let g2 = guard_ok (ltb (length s) (get_or s 0 0 + 1)) (fault BadLength) _ n g1.1 in
    let some : get_or s 0 0 ≢ 0 = eqb-false _ _ g0.0 in
    let few : get_or s 0 0 ≤ 8 = ltb-false _ _ g1.0 in
    let long : get_or s 0 0 + 1 ≤ length s = ltb-false _ _ g2.0 in
    let same : get_or s 0 0 ≡ n = ok_is (get_or s 0 0) n g2.1 in
    record {
      least = omega (arith, same, some);
      most = omega (arith, same, few);
      within = omega (arith, same, long);
      size = same;
    }

head_first : (s : List ℕ) → 0 < length s → s ≡ get_or s 0 0 ∷ drop 1 s
head_first [] h = absurd (omega arith)
head_first (a ∷ s) h = refl

pub record BodyTaken (to from : List ℕ) (kind : Kind) (token : ℕ) (s : List ℕ) (n : ℕ)
    (items : List Entry) : Type 0 where
  pub parts : s ≡ body_text (take n (drop 1 s)) items
  pub valid : IsMessage (telegram to from kind token (take n (drop 1 s)) items)

pub body_takes : (to from : List ℕ) (kind : Kind) (token : ℕ) (s : List ℕ) (n : ℕ)
    (items : List Entry)
    → IsHead to from token → AreOctets s → 2 ≤ length s → length s ≤ 1024
    → address_at s ≡ Ok n → items_at (length (drop n (drop 1 s))) 0 (drop n (drop 1 s)) ≡ Ok items
    → BodyTaken to from kind token s n items
body_takes to from kind token s n items head fits least most a i =
    let address = address_takes s n a in
    let after = AreOctets-drop 1 s fits in
    let taken =
    items_take (length (drop n (drop 1 s))) 0 (drop n (drop 1 s)) items (omega arith)
    (AreOctets-drop n (drop 1 s) after) i in
    let size : length (take n (drop 1 s)) ≡ n =
    omega (arith, address.within, length-drop 1 s, length-take n (drop 1 s)) in
    let tail : drop 1 s ≡ take n (drop 1 s) ++ flat_map item_text items =
    sym (take-append-drop n (drop 1 s)) ∙ ap (λ (t : List ℕ). take n (drop 1 s) ++ t) taken.parts in
    let whole : s ≡ n ∷ (take n (drop 1 s) ++ flat_map item_text items) =
    head_first s (omega arith) ∙ ap (λ (b : ℕ). b ∷ drop 1 s) address.size ∙ ap
    (λ (t : List ℕ). n ∷ t) tail in
    let text : s ≡ body_text (take n (drop 1 s)) items =
    whole ∙ ap (λ (k : ℕ). k ∷ (take n (drop 1 s) ++ flat_map item_text items)) (sym size) in
    let long : length (body_text (take n (drop 1 s)) items) ≡ length s =
    ap (λ (t : List ℕ). length t) (sym text) in
    record {
      parts = text;
      valid = record {
        head = head;
        address_least = omega (arith, size, address.least);
        address_most = omega (arith, size, address.most);
        address_octets = AreOctets-take n (drop 1 s) after;
        items = taken.rises;
        least = omega (arith, long);
        most = omega (arith, long);
      };
    }

-- ---- the header

kind_step : (b n : ℕ) (k y : Kind) (r : Result Kind Halt) → kind_code k ≡ n
    → (r ≡ Ok y → kind_code y ≡ b) → cond (eqb b n) (Ok k) r ≡ Ok y → kind_code y ≡ b
kind_step b n k y r code next e =
    elim (cases_eq b n) [
      | inl same ↦
          let here = rw (eq-eqb b n same) at e in
          ap kind_code (sym (ok_is k y here)) ∙ code ∙ sym same
      | inr other ↦ next (rw (ne_eqb b n other) at e)
    ]

pub kind_takes : (b : ℕ) (k : Kind) → kind_at b ≡ Ok k → kind_code k ≡ b
kind_takes b k e = kind_step b 0 Read k _ refl
    (kind_step b 1 Answer k _ refl (kind_step b 2 Write k _ refl
    (kind_step b 3 Report k _ refl (kind_step b 4 Notice k _ refl
    (kind_step b 7 Ack k _ refl (λ h. absurd cc)))))) e

pub record HeaderTaken (s : List ℕ) (h : Header) : Type 0 where
  pub long : 8 ≤ length s
  pub code : get_or s 4 0 ≡ 0
  pub to : h.to ≡ get_or s 0 0 ∷ get_or s 1 0 ∷ []
  pub from : h.from ≡ get_or s 2 0 ∷ get_or s 3 0 ∷ []
  pub kind : kind_code h.kind ≡ get_or s 5 0 / 32
  pub token : h.token ≡ get_or s 5 0 % 32
  pub len : h.len ≡ get_or s 6 0 * 256 + get_or s 7 0
  pub least : 2 ≤ h.len
  pub most : h.len ≤ 1024

pub header_takes : (s : List ℕ) (h : Header) → header_at s ≡ Ok h → HeaderTaken s h
unfolding header_at
header_takes s h e =
    let g0 = guard_ok (ltb (length s) 8) short _ h e in
    let g1 = guard_else (eqb (get_or s 4 0) 0) (fault BadCode) _ h g0.1 in
    let made : Kind → ℕ → Header =
    λ k n. record {
      to = get_or s 0 0 ∷ get_or s 1 0 ∷ [];
      from = get_or s 2 0 ∷ get_or s 3 0 ∷ [];
      kind = k;
      token = get_or s 5 0 % 32;
      len = n;
    } in
    let k =
    bind_ok (kind_at (get_or s 5 0 / 32)) (λ k. length_at (get_or s 6 0 * 256 + get_or s 7 0) >>= λ
    n. Ok (made k n)) h g1.1 in
    let n = bind_ok (length_at (get_or s 6 0 * 256 + get_or s 7 0)) (λ n. Ok (made k.0 n)) h k.2 in
    let wide = get_or s 6 0 * 256 + get_or s 7 0 in
    let l0 = guard_ok (ltb wide 2) (fault BadLength) _ n.0 n.1 in
    let l1 = guard_ok (ltb 1024 wide) (fault BadLength) _ n.0 l0.1 in
    let len : get_or s 6 0 * 256 + get_or s 7 0 ≡ n.0 = ok_is wide n.0 l1.1 in
    let least : 2 ≤ get_or s 6 0 * 256 + get_or s 7 0 = ltb-false _ _ l0.0 in
    let most : get_or s 6 0 * 256 + get_or s 7 0 ≤ 1024 = ltb-false _ _ l1.0 in
    subst (λ (y : Header). HeaderTaken s y) (ok_is (made k.0 n.0) h n.2) (record {
      long = ltb-false _ _ g0.0;
      code = eqb-true _ _ g1.0;
      to = refl;
      from = refl;
      kind = kind_takes _ _ k.1;
      token = refl;
      len = sym len;
      least = omega (arith, len, least);
      most = omega (arith, len, most);
    })
