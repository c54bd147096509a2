-- What the tests of a message's parts tell.
use Rattle.std.proofs.Common.{◌≡◌, ℕ, zero, suc, ◌+◌, ◌<◌, ◌≤◌, Bool, true, false, cond, refl}
use Rattle.std.proofs.Common.{List, [], ◌∷◌, length, get_or, take, Option, Some, None, arith}
use Rattle.std.proofs.Common.{◌⊎◌, inl, inr}
use Rattle.std.specs.Borrow.{Bor}
use Rattle.std.specs.List.{All, AllByRecursion, flat_map}
use Rattle.std.proofs.lemmas.Bool.{ltb-false, le-ltb}
use Rattle.std.proofs.lemmas.List.{length-map, get_or-map, take-map, length-append}
use Rattle.std.proofs.lemmas.List.Elements.{recursion_from_All}
use Rattle.std.proofs.lemmas.List.Folds.{length-flat_map-take}
use Rattle.app_message.specs.declared.fault.MessageFault.{MessageFault}
use Rattle.app_message.specs.declared.kind.Kind.{Kind}
use Rattle.app_message.specs.Telegram.{Entry, entry, entries, telegram, AreOctets, IsEntry, Rises}
use Rattle.app_message.specs.Spelling.{item_text, body_text, IsHead, IsMessage}
use Rattle.app_message.specs.Parts.{do_rise, parts_fault}

-- a test that didn't refuse
if_true : (b c : Bool) → cond b false c ≡ true → (b ≡ false) × (c ≡ true)
if_true true c e = absurd cc
if_true false c e = (refl, e)

if_none : (b : Bool) (f : MessageFault) (o : Option MessageFault) → cond b (Some f) o ≡ None
    → (b ≡ false) × (o ≡ None)
if_none true f o e = absurd cc
if_none false f o e = (refl, e)

else_none : (b : Bool) (f : MessageFault) → cond b None (Some f) ≡ None → b ≡ true
else_none true f e = refl
else_none false f e = absurd cc

-- each content of items that rise fits
pub rise_fits : (low : ℕ) (es : List Entry) (i : ℕ) (d : Entry) → do_rise low es ≡ true
    → i < length es → length (get_or es i d).content ≤ 254
rise_fits low [] i d h lt = absurd (omega arith)
rise_fits low (e ∷ es) zero d h lt =
    let order : _ × _ = if_true _ _ h in
    ltb-false _ _ (if_true _ _ order.1).0
rise_fits low (e ∷ es) (suc i) d h lt =
    let within : i < length es = omega arith in
    rise_fits (e.id + 1) es i d (if_true _ _ (if_true _ _ h).1).1 within

pub rises : (low : ℕ) (es : List Entry) → AllByRecursion IsEntry es → do_rise low es ≡ true
    → Rises low es
rises low [] fit h = tt
rises low (e ∷ es) fit h = (
  ltb-false _ _ (if_true _ _ h).0,
  fit.0,
  rises (e.id + 1) es fit.1 (if_true _ _ (if_true _ _ h).1).1,
)

pub do_rise-from : (low : ℕ) (es : List Entry) → Rises low es → do_rise low es ≡ true
do_rise-from low [] h = refl
do_rise-from low (e ∷ es) h = rw (
  le-ltb e.id low h.0,
  le-ltb 254 (length e.content) h.1.size,
) (do_rise-from (e.id + 1) es h.2)

-- the parts without a fault
pub record Fit (address : List ℕ) (items : List Entry) : Type 0 where
  pub least : 1 ≤ length address
  pub most : length address ≤ 8
  pub size : length (body_text address items) ≤ 1024
  pub rise : do_rise 0 items ≡ true

pub parts_fit : (address : List ℕ) (items : List Entry) → parts_fault address items ≡ None
    → Fit address items
unfolding parts_fault
parts_fit address items e =
    let a = if_none _ _ _ e in
    let b = if_none _ _ _ a.1 in
    let c = if_none _ _ _ b.1 in
    record {
      least = ltb-false _ _ a.0;
      most = ltb-false _ _ b.0;
      size = ltb-false _ _ c.0;
      rise = else_none _ _ c.1;
    }

-- what can be spelled has no fault
pub no_fault : (to from : List ℕ) (kind : Kind) (token : ℕ) (address : List ℕ) (items : List Entry)
    → IsMessage (telegram to from kind token address items) → parts_fault address items ≡ None
unfolding parts_fault
no_fault to from kind token address items m = rw (
  le-ltb (length address) 1 m.address_least,
  le-ltb 8 (length address) m.address_most,
  le-ltb 1024 (length (body_text address items)) m.most,
  do_rise-from 0 items m.items,
) refl

pub refused : (to from : List ℕ) (kind : Kind) (token : ℕ) (address : List ℕ) (items : List Entry)
    (f : MessageFault)
    → parts_fault address items ≡ Some f → IsMessage (telegram to from kind token address items) → ⊥
refused to from kind token address items f e m = cc (no_fault to from kind token address items m)

-- ---- items as they are handed in

pub content_fits : (items : List (ℕ × Bor (List ℕ))) (i : ℕ) (d : ℕ × Bor (List ℕ))
    → do_rise 0 (entries items) ≡ true → i < length items → length (get_or items i d).1.now ≤ 254
content_fits items i d h within =
    let among : i < length (entries items) =
    omega (arith, length-map items (λ x. entry x.0 x.1.now)) in
    let fits = rise_fits 0 (entries items) i (entry 0 []) h among in
    rw (get_or-map (λ x. entry x.0 x.1.now) items i d (entry 0 []) within) at fits

-- the items before i and the item there take no more than all
pub too_long : (items : List (ℕ × Bor (List ℕ))) (i : ℕ) (d : ℕ × Bor (List ℕ)) → i < length items
    → length (flat_map item_text (entries (take i items))) + length (get_or items i d).1.now + 2 ≤
    length (flat_map item_text (entries items))
too_long items i d within =
    let f : ℕ × Bor (List ℕ) → Entry = λ x. entry x.0 x.1.now in
    let among : i < length (entries items) = omega (arith, length-map items f) in
    let all = length-flat_map-take item_text (entries items) i (entry 0 []) among in
    let front = rw (take-map f i items) at all in
    let more = rw (get_or-map f items i d (entry 0 []) within) at front in
    omega (arith, more)

pub made : (to from : List ℕ) (kind : Kind) (token : ℕ) (address : List ℕ) (items : List Entry)
    → IsHead to from token → AreOctets address → All IsEntry items
    → parts_fault address items ≡ None → IsMessage (telegram to from kind token address items)
made to from kind token address items head octets fit none =
    let parts = parts_fit address items none in
    record {
      head = head;
      address_least = parts.least;
      address_most = parts.most;
      address_octets = octets;
      items = rises 0 items (recursion_from_All IsEntry items fit) parts.rise;
      least = omega (arith, parts.least, length-append address (flat_map item_text items));
      most = parts.size;
    }

-- an address that fits isn't empty, and not above 8 octets
pub no_bad_address : (address : List ℕ) → 1 ≤ length address → length address ≤ 8
    → (length address ≡ 0) ⊎ (8 < length address) → ⊥
no_bad_address address least most (inl none) = omega arith
no_bad_address address least most (inr more) = omega arith
