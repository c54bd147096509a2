-- What octets of a body list, and that bodies list what was written.
use Rattle.std.proofs.Common.{◌≡◌, ℕ, zero, suc, ◌+◌, ◌-◌, ◌<◌, ◌≤◌, true, false, eqb, refl, sym}
use Rattle.std.proofs.Common.{ap}
use Rattle.std.proofs.Common.{subst, ◌∙◌, Some, None, List, [], ◌∷◌, ◌++◌, length, get_or, take}
use Rattle.std.proofs.Common.{drop, Ok}
use Rattle.std.proofs.Common.{append_assoc, arith, inl, inr}
use Rattle.std.specs.List.{flat_map, AllByRecursion}
use Rattle.std.proofs.lemmas.Bool.{ne_eqb, le-ltb, lt-ltb, cases_lt, cases_Bool}
use Rattle.std.proofs.lemmas.List.{length-append, length-take, take_at, drop_at, take_all}
use Rattle.std.proofs.lemmas.List.{append-nil}
use Rattle.std.proofs.lemmas.List.Concat.{flat_map-append}
use Rattle.app_message.specs.declared.fault.MessageFault.TheVariants.{BadLength, BadItem}
use Rattle.app_message.specs.declared.kind.Kind.{Kind}
use Rattle.app_message.specs.Telegram.{Entry, entry, Telegram, telegram, AreOctets, IsEntry, Rises}
use Rattle.app_message.specs.Spelling.{item_text, body_text, body, IsHead}
use Rattle.app_message.specs.Grammar.{Header, items_at, address_at, body_at}
use Rattle.app_message.specs.Bodies.{entries_up_to, entries_in, of_body, AreItems, IsBody, IsDraft}
use Rattle.app_message.specs.Bodies.{with_item}
use Rattle.app_message.specs.Parts.{parts_fault, do_rise}
use Rattle.app_message.proofs.Rising.{rises}
use Rattle.app_message.proofs.Taking.{items_take, body_takes}

-- items that were written are listed again
pub listed_again : (n : ℕ) (es : List Entry) → length (flat_map item_text es) ≤ n
    → entries_up_to n (flat_map item_text es) ≡ es
unfolding entries_up_to
listed_again zero [] p = refl
listed_again zero (e ∷ es) p = absurd (omega arith)
listed_again (suc n) [] p = refl
listed_again (suc n) (e ∷ es) p =
    let more : List ℕ = flat_map item_text es in
    let fewer : length more ≤ n = omega (arith, length-append e.content more) in
    rw (
      take_at e.content more (length e.content) refl,
      drop_at e.content more (length e.content) refl,
      listed_again n es fewer,
    ) refl

pub listed_text : (es : List Entry) → entries_in (flat_map item_text es) ≡ es
listed_text es = listed_again (length (flat_map item_text es)) es (omega arith)

pub are_items : (es : List Entry) → AllByRecursion IsEntry es → AreItems (flat_map item_text es)
are_items es valid = record {
  text = ap (λ (l : List Entry). flat_map item_text l) (sym (listed_text es));
  valid = subst (λ (l : List Entry). AllByRecursion IsEntry l) (sym (listed_text es)) valid;
}

-- what was written is the message of its body
pub of_body_text : (to from : List ℕ) (kind : Kind) (token : ℕ) (address : List ℕ)
    (items : List Entry)
    → of_body to from kind token (body_text address items)
    ≡ telegram to from kind token address items
of_body_text to from kind token address items =
    let more : List ℕ = flat_map item_text items in
    rw (
      take_at address more (length address) refl,
      drop_at address more (length address) refl,
      listed_text items,
    ) refl

-- an address within its body
pub address_within : (s address t : List ℕ) → s ≡ length address ∷ address ++ t
    → get_or s 0 0 < length s
address_within s address t e = rw e (omega (arith, length-append address t))

-- the first item of a list of octets, and the others
pub record First (id size : ℕ) (s : List ℕ) : Type 0 where
  pub within : size ≤ length s
  pub is : entries_in (id ∷ size ∷ s) ≡ entry id (take size s) ∷ entries_in (drop size s)
  pub few : length (take size s) ≤ 254
  pub others : AreItems (drop size s)

pub first_of : (id size : ℕ) (s : List ℕ) → AreItems (id ∷ size ∷ s) → First id size s
unfolding entries_up_to
first_of id size s items =
    let others : List Entry = entries_up_to (suc (length s)) (drop size s) in
    let more : List ℕ = flat_map item_text others in
    let text : id ∷ size ∷ s ≡ id ∷ length (take size s) ∷ (take size s ++ more) = items.text in
    let long : length (take size s) ≡ size = sym (ap (λ (t : List ℕ). get_or t 1 0) text) in
    let parts : s ≡ take size s ++ more = ap (λ (t : List ℕ). drop 2 t) text in
    let rest : drop size s ≡ more =
    ap (λ (t : List ℕ). drop size t) parts ∙ drop_at (take size s) more size long in
    let same : entries_in (drop size s) ≡ others = ap entries_in rest ∙ listed_text others in
    record {
      within = omega (arith, long, length-take size s);
      is = ap (λ (es : List Entry). entry id (take size s) ∷ es) (sym same);
      few = items.valid.0.size;
      others = subst AreItems (sym rest) (are_items others items.valid.1);
    }

-- the same of octets of which two are seen, and what is behind them
abbrev pub behind : List ℕ → List ℕ
behind s = take (length s - 2) (drop 2 s)

pub record Next (s : List ℕ) : Type 0 where
  pub within : get_or s 1 0 ≤ length (behind s)
  pub is : entries_in s ≡ entry (get_or s 0 0) (take (get_or s 1 0) (behind s)) ∷ entries_in
      (drop (get_or s 1 0) (behind s))
  pub few : length (take (get_or s 1 0) (behind s)) ≤ 254
  pub others : AreItems (drop (get_or s 1 0) (behind s))

pub next_of : (s : List ℕ) → 2 ≤ length s → AreItems s → Next s
next_of [] long items = absurd (omega arith)
next_of (id ∷ []) long items = absurd (omega arith)
next_of (id ∷ size ∷ s) long items =
    let first = first_of id size s items in
    let all : take (length (id ∷ size ∷ s) - 2) s ≡ s =
    take_all (length (id ∷ size ∷ s) - 2) s (omega arith) in
    record {
      within = subst (λ (t : List ℕ). size ≤ length t) (sym all) first.within;
      is = subst
          (λ (t : List ℕ). entries_in (id ∷ size ∷ s)
          ≡ entry id (take size t) ∷ entries_in (drop size t))
          (sym all) first.is;
      few = subst (λ (t : List ℕ). length (take size t) ≤ 254) (sym all) first.few;
      others = subst (λ (t : List ℕ). AreItems (drop size t)) (sym all) first.others;
    }

-- fewer than two octets list nothing
pub short_lists_none : (s : List ℕ) → length s < 2 → entries_in s ≡ []
unfolding entries_up_to
short_lists_none [] short = refl
short_lists_none (id ∷ []) short = refl
short_lists_none (id ∷ size ∷ s) short = absurd (omega arith)

listed_some : (b : ℕ) (s : List ℕ) (es : List Entry) → b ∷ s ≡ flat_map item_text es
    → eqb (length es) 0 ≡ false
listed_some b s [] text = absurd cc
listed_some b s (e ∷ es) text = ne_eqb (length (e ∷ es)) 0 (λ h. omega arith)

pub is_none_left : (s : List ℕ) → AreItems s → eqb (length s) 0 ≡ eqb (length (entries_in s)) 0
unfolding entries_up_to
is_none_left [] items = refl
is_none_left (b ∷ s) items =
    let some : eqb (length (b ∷ s)) 0 ≡ false = ne_eqb (length (b ∷ s)) 0 (λ h. omega arith) in
    some ∙ sym (listed_some b s (entries_in (b ∷ s)) items.text)

-- what was read is what is listed
pub read_is_listed : (s : List ℕ) (es : List Entry) → AreOctets s
    → items_at (length s) 0 s ≡ Ok es → items_at (length s) 0 s ≡ Ok (entries_in s)
read_is_listed s es octets e =
    let taken = items_take (length s) 0 s es (omega arith) octets e in
    let same : entries_in s ≡ es = ap entries_in taken.parts ∙ listed_text es in
    e ∙ ap (λ (l : List Entry). Ok l) (sym same)

-- ---- bodies and drafts

pub of_body_is : (m : Telegram) (s : List ℕ) → s ≡ body m
    → of_body m.to m.from m.kind m.token s ≡ m
of_body_is m s e = ap (λ (t : List ℕ). of_body m.to m.from m.kind m.token t) e ∙ of_body_text m.to
    m.from m.kind m.token m.address m.items

pub body_within : (m : Telegram) (s : List ℕ) → IsBody m s → get_or s 0 0 < length s
body_within m s b = address_within s m.address (flat_map item_text m.items) b.text

pub draft_within : (m : Telegram) (s : List ℕ) → IsDraft m s → get_or s 0 0 < length s
draft_within m s d = address_within s m.address (flat_map item_text m.items) d.text

entries_of : (low : ℕ) (es : List Entry) → Rises low es → AllByRecursion IsEntry es
entries_of low [] rises = tt
entries_of low (e ∷ es) rises = (rises.1, entries_of (e.id + 1) es rises.2)

pub body_lists : (m : Telegram) (s : List ℕ) → IsBody m s
    → AreItems (drop (get_or s 0 0) (drop 1 s))
body_lists m s b =
    let more : List ℕ = flat_map item_text m.items in
    subst (λ (t : List ℕ). AreItems (drop (get_or t 0 0) (drop 1 t))) (sym b.text)
    (subst AreItems (sym (drop_at m.address more (length m.address) refl))
    (are_items m.items (entries_of 0 m.items b.valid.items)))

-- the body of a message that was read
abbrev pub rest_of : List ℕ → List ℕ
rest_of s = drop (get_or s 0 0) (drop 1 s)

pub body_from : (h : Header) (s : List ℕ) → address_at s ≡ Ok (get_or s 0 0)
    → items_at (length (rest_of s)) 0 (rest_of s) ≡ Ok (entries_in (rest_of s))
    → body_at h s ≡ Ok (of_body h.to h.from h.kind h.token s)
unfolding body_at
body_from h s address items = rw (address, items) refl

pub is_body : (to from : List ℕ) (kind : Kind) (token : ℕ) (s : List ℕ) → IsHead to from token
    → AreOctets s → 2 ≤ length s → length s ≤ 1024
    → address_at s ≡ Ok (get_or s 0 0)
    → items_at (length (rest_of s)) 0 (rest_of s) ≡ Ok (entries_in (rest_of s))
    → IsBody (of_body to from kind token s) s
is_body to from kind token s head octets least most address items =
    let taken =
    body_takes to from kind token s (get_or s 0 0) (entries_in (rest_of s)) head octets least most
    address items in
    record { text = taken.parts; valid = taken.valid }

-- an address is written behind its length, where nothing stood
pub address_written : (address made pushed items : List ℕ) → made ≡ []
    → pushed ≡ made ++ length address ∷ [] → items ≡ pushed ++ address
    → items ≡ length address ∷ address
address_written address made pushed items none size all = rw (all, size, none) refl

-- a message in the making, without items
pub begun : (to from : List ℕ) (kind : Kind) (token : ℕ) (address s : List ℕ)
    → IsHead to from token → AreOctets address → 1 ≤ length address → length address ≤ 8
    → s ≡ length address ∷ address
    → (of_body to from kind token s ≡ telegram to from kind token address [])
    × IsDraft (of_body to from kind token s) s
begun to from kind token address s head octets least most e =
    let m : Telegram = telegram to from kind token address [] in
    let text : s ≡ body m = e ∙ ap (λ (t : List ℕ). length address ∷ t)
    (sym (append-nil address)) in
    let is : of_body to from kind token s ≡ m = of_body_is m s text in
    let draft : IsDraft m s =
    record {
      text = text;
      head = head;
      octets = octets;
      least = least;
      most = most;
      items = tt;
    } in
    (is, subst (λ (t : Telegram). IsDraft t s) (sym is) draft)

entries_more : (es : List Entry) (e : Entry) → AllByRecursion IsEntry es → IsEntry e
    → AllByRecursion IsEntry (es ++ e ∷ [])
entries_more [] e all one = (one, tt)
entries_more (d ∷ es) e all one = (all.0, entries_more es e all.1 one)

-- .. with one item more
pub item_put : (m : Telegram) (s : List ℕ) (e : Entry) (t : List ℕ) → IsDraft m s → IsEntry e
    → t ≡ s ++ item_text e
    → (of_body m.to m.from m.kind m.token t ≡ with_item m e)
    × IsDraft (of_body m.to m.from m.kind m.token t) t
item_put m s e t draft valid put =
    let more : List ℕ = flat_map item_text m.items in
    let items : flat_map item_text (m.items ++ e ∷ []) ≡ more ++ item_text e =
    flat_map-append item_text m.items (e ∷ []) ∙ ap (λ (l : List ℕ). more ++ l)
    (append-nil (item_text e)) in
    let text : t ≡ body (with_item m e) =
    put ∙ ap (λ (l : List ℕ). l ++ item_text e) draft.text ∙ ap
    (λ (l : List ℕ). length m.address ∷ l) (append_assoc m.address more (item_text e) ∙ ap
    (λ (l : List ℕ). m.address ++ l) (sym items)) in
    let is : of_body m.to m.from m.kind m.token t ≡ with_item m e =
    of_body_is (with_item m e) t text in
    let made : IsDraft (with_item m e) t =
    record {
      text = text;
      head = draft.head;
      octets = draft.octets;
      least = draft.least;
      most = draft.most;
      items = entries_more m.items e draft.items valid;
    } in
    (is, subst (λ (x : Telegram). IsDraft x t) (sym is) made)

-- ---- a draft that is finished

abbrev size_of : Telegram → ℕ
size_of m = length (body_text m.address m.items)

size_is : (m : Telegram) (s : List ℕ) → IsDraft m s → size_of m ≡ length s
size_is m s d = ap (λ (t : List ℕ). length t) (sym d.text)

pub draft_long : (m : Telegram) (s : List ℕ) → IsDraft m s → 1024 < length s
    → parts_fault m.address m.items ≡ Some BadLength
unfolding parts_fault
draft_long m s d long = rw (
  le-ltb (length m.address) 1 d.least,
  le-ltb 8 (length m.address) d.most,
  lt-ltb 1024 (size_of m) (omega (arith, size_is m s d, long)),
) refl

pub draft_falls : (m : Telegram) (s : List ℕ) → IsDraft m s → length s ≤ 1024
    → do_rise 0 m.items ≡ false → parts_fault m.address m.items ≡ Some BadItem
unfolding parts_fault
draft_falls m s d short falls = rw (
  le-ltb (length m.address) 1 d.least,
  le-ltb 8 (length m.address) d.most,
  le-ltb 1024 (size_of m) (omega (arith, size_is m s d, short)),
  falls,
) refl

pub draft_fits : (m : Telegram) (s : List ℕ) → IsDraft m s → length s ≤ 1024
    → do_rise 0 m.items ≡ true → IsBody m s
draft_fits m s d short rise =
    let size = size_is m s d in
    record {
      text = d.text;
      valid = record {
        head = d.head;
        address_least = d.least;
        address_most = d.most;
        address_octets = d.octets;
        items = rises 0 m.items d.items rise;
        least = omega (
          arith,
          d.least,
          length-append m.address (flat_map item_text m.items),
        );
        most = omega (arith, size, short);
      };
    }

pub draft_faultless : (m : Telegram) (s : List ℕ) → IsDraft m s
    → parts_fault m.address m.items ≡ None → IsBody m s
draft_faultless m s d none =
    elim (cases_lt 1024 (length s)) [
      | inl long ↦ let fault = draft_long m s d long in absurd (cc (none, fault))
      | inr short ↦ elim (cases_Bool (do_rise 0 m.items)) [
        | inl rise ↦ draft_fits m s d short rise
        | inr falls ↦ let fault = draft_falls m s d short falls in absurd (cc (none, fault))
      ]
    ]
