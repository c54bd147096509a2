-- Items one after the other, as the loop reads them.
use Rattle.std.proofs.Common.{◌≡◌, ℕ, zero, suc, ◌+◌, ◌<◌, ◌≤◌, cond, eqb, ltb, refl, sym, ap, ◌∙◌}
use Rattle.std.proofs.Common.{List, [], ◌∷◌, ◌++◌, length, get_or, take, drop, Result, Ok, Err}
use Rattle.std.proofs.Common.{append_assoc, arith}
use Rattle.std.proofs.lemmas.Bool.{ltb-false, eq-eqb, ne_eqb}
use Rattle.std.proofs.lemmas.List.{append-nil, length-drop}
use Rattle.app_message.specs.declared.reading.Stop.{Stop}
use Rattle.app_message.specs.declared.reading.Stop.TheVariants as stops
use Rattle.app_message.specs.declared.fault.GrammarFault.TheVariants.{BadItem}
use Rattle.app_message.specs.Telegram.{Entry, entry}
use Rattle.app_message.specs.Grammar.{Halt, short, fault, ◌>>=◌, item_at, items_at}
use Rattle.app_message.specs.Reading.{Fails}
use Rattle.app_message.proofs.Stages.{bind_same, guard_ok, ok_is}

-- an item is read from more octets than it leaves
pub item_shorter : (low : ℕ) (s : List ℕ) (x : Entry × List ℕ) → item_at low s ≡ Ok x
    → length x.1 < length s
unfolding item_at
item_shorter low s x e =
    let a = guard_ok (ltb (length s) 2) (fault BadItem) _ x e in
    let b = guard_ok (ltb (get_or s 0 0) low) (fault BadItem) _ x a.1 in
    let c = guard_ok (eqb (get_or s 1 0) 255) (fault BadItem) _ x b.1 in
    let d = guard_ok (ltb (length (drop 2 s)) (get_or s 1 0)) (fault BadItem) _ x c.1 in
    let long : 2 ≤ length s = ltb-false _ _ a.0 in
    let left : length (drop (get_or s 1 0) (drop 2 s)) ≡ length x.1 =
    ap (λ (y : Entry × List ℕ). length y.1) (ok_is
    (entry (get_or s 0 0) (take (get_or s 1 0) (drop 2 s)), drop (get_or s 1 0) (drop 2 s)) x d.1)
    in
    omega (arith, left, length-drop 2 s, length-drop (get_or s 1 0) (drop 2 s))

-- more steps than octets change nothing
pub items_same : (n m low : ℕ) (s : List ℕ) → length s ≤ n → length s ≤ m
    → items_at n low s ≡ items_at m low s
unfolding items_at
items_same zero zero low s p q = refl
items_same zero (suc m) low s p q = rw (eq-eqb (length s) 0 (omega arith)) refl
items_same (suc n) zero low s p q = rw (eq-eqb (length s) 0 (omega arith)) refl
items_same (suc n) (suc m) low s p q =
    ap (λ (r : Result (List Entry) Halt). cond (eqb (length s) 0) (Ok []) r)
    (bind_same (item_at low s) (λ x. items_at n (x.0.id + 1) x.1 >>= λ es. Ok (x.0 ∷ es))
    (λ x. items_at m (x.0.id + 1) x.1 >>= λ es. Ok (x.0 ∷ es))
    (λ x e. let less = item_shorter low s x e in ap
    (λ (r : Result (List Entry) Halt). r >>= λ es. Ok (x.0 ∷ es))
    (items_same n m (x.0.id + 1) x.1 (omega arith) (omega arith))))

-- one item, and then the items after it
pub items_step : (low : ℕ) (s : List ℕ) → 0 < length s
    → items_at (length s) low s ≡ (item_at low s >>= λ x. items_at (length x.1) (x.0.id + 1) x.1 >>=
    λ es. Ok (x.0 ∷ es))
unfolding items_at
items_step low s some =
    let more : items_at (length s) low s ≡ items_at (suc (length s)) low s =
    items_same (length s) (suc (length s)) low s (omega arith) (omega arith) in
    more ∙ rw (ne_eqb (length s) 0 (λ (e : length s ≡ 0). omega arith))
    (bind_same (item_at low s) (λ x. items_at (length s) (x.0.id + 1) x.1 >>= λ es. Ok (x.0 ∷ es))
    (λ x. items_at (length x.1) (x.0.id + 1) x.1 >>= λ es. Ok (x.0 ∷ es))
    (λ x e. let less = item_shorter low s x e in ap
    (λ (r : Result (List Entry) Halt). r >>= λ es. Ok (x.0 ∷ es))
    (items_same (length s) (length x.1) (x.0.id + 1) x.1 (omega arith) (omega arith))))

-- what was read before, and what is still read
abbrev pub with_front : List Entry → Result (List Entry) Halt → Result (List Entry) Halt
with_front front read = read >>= λ es. Ok (front ++ es)

regroup : (front : List Entry) (e : Entry) (read : Result (List Entry) Halt)
    → with_front front (read >>= λ es. Ok (e ∷ es)) ≡ with_front (front ++ e ∷ []) read
regroup front e (Ok es) = ap (λ (all : List Entry). Ok all) (simp append_assoc)
regroup front e (Err f) = refl

pub goes_on : (front : List Entry) (low : ℕ) (s : List ℕ) (e : Entry) (t : List ℕ)
    (total : Result (List Entry) Halt)
    → 0 < length s → item_at low s ≡ Ok (e, t)
    → with_front front (items_at (length s) low s) ≡ total
    → with_front (front ++ e ∷ []) (items_at (length t) (e.id + 1) t) ≡ total
goes_on front low s e t total some h so_far =
    let one : with_front front (items_at (length s) low s) ≡ with_front (front ++ e ∷ [])
    (items_at (length t) (e.id + 1) t) =
    rw (items_step low s some, h) (regroup front e (items_at (length t) (e.id + 1) t)) in
    sym one ∙ so_far

pub ends : (e : Stop) (front : List Entry) (low : ℕ) (s : List ℕ) (total : Result (List Entry) Halt)
    → 0 < length s → Fails e (item_at low s)
    → with_front front (items_at (length s) low s) ≡ total → Fails e total
ends stops.Short front low s total some h so_far =
    let one : with_front front (items_at (length s) low s) ≡ Err short =
    rw (items_step low s some, h) refl in
    sym so_far ∙ one
ends (stops.Fault f) front low s total some h so_far =
    let one : with_front front (items_at (length s) low s) ≡ Err (fault f) =
    rw (items_step low s some, h) refl in
    sym so_far ∙ one

pub is_done : (front : List Entry) (low : ℕ) (s : List ℕ) (total : Result (List Entry) Halt)
    → length s ≡ 0 → with_front front (items_at (length s) low s) ≡ total → total ≡ Ok front
unfolding items_at
is_done front low s total none so_far =
    let one : with_front front (items_at (length s) low s) ≡ Ok front =
    rw none (ap (λ (es : List Entry). Ok es) (append-nil front)) in
    sym so_far ∙ one
