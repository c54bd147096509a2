-- Calls that were made, one after another, and tills that were signed off.
use Rattle.std.proofs.Common.{◌≡◌, ℕ, zero, suc, ◌+◌, ◌<◌, Bool, false, List, [], ◌∷◌, ◌++◌, length}
use Rattle.std.proofs.Common.{map, take, get_or, set, refl, sym, ap, subst, ◌∙◌, arith}
use Rattle.std.proofs.lemmas.List.{append-nil, append_assoc, map-append, take_more}
use Rattle.std.specs.List.{AllByRecursion}
use Rattle.site_base.specs.declared.actor.Actor.{Actor}
use Rattle.site_base.specs.declared.event.Event.{Event}
use Rattle.counter_desk.specs.declared.receipt.Receipt.{Receipt}
use Rattle.counter_desk.specs.Work.{AreSignOffs, AreSubmitted, IsSignedOff, accepted_in, call_of}

pub submitted_none : (old : List Receipt) → AreSubmitted [] old old 0
submitted_none old = record { made = []; added = sym (append-nil old); told = refl; counted = refl }

accepted_append : (xs ys : List Receipt) → accepted_in (xs ++ ys) ≡ accepted_in xs + accepted_in ys
accepted_append [] ys = omega arith
accepted_append (x ∷ xs) ys = let rest = accepted_append xs ys in omega (arith, rest)

pub submitted_join : (first second : List (Actor × Event)) (old between new : List Receipt)
    (a b : ℕ)
    → AreSubmitted first old between a → AreSubmitted second between new b
    → AreSubmitted (first ++ second) old new (a + b)
submitted_join first second old between new a b one two = record {
  made = one.made ++ two.made;
  added = two.added ∙ ap (λ xs. xs ++ two.made) one.added ∙ append_assoc old one.made two.made;
  told =
      map-append call_of one.made two.made
      ∙ ap (λ xs. xs ++ map call_of two.made) one.told ∙ ap (λ xs. first ++ xs) two.told;
  counted = omega (arith, one.counted, two.counted, accepted_append one.made two.made);
}

pub submitted_more : (calls : List (Actor × Event)) (i : ℕ) (call : Actor × Event)
    (old between new : List Receipt) (a b : ℕ)
    → i < length calls → call ≡ get_or calls i call
    → AreSubmitted (take i calls) old between a → AreSubmitted (call ∷ []) between new b
    → AreSubmitted (take (i + 1) calls) old new (a + b)
submitted_more calls i call old between new a b within is one two =
    subst (λ first. AreSubmitted first old new (a + b))
    (
    ap (λ x. take i calls ++ x ∷ []) is
    ∙ sym (take_more calls i call within)
    )
    (submitted_join (take i calls) (call ∷ []) old between new a b one two)

-- ---- sign-offs

pub left_none : (old : List Receipt) → AreSignOffs old old
left_none old = record { made = []; added = sym (append-nil old); each = tt }

all_append : {A : Type 0} (P : A → Type 0) (xs ys : List A)
    → AllByRecursion P xs → AllByRecursion P ys → AllByRecursion P (xs ++ ys)
all_append P [] ys one two = two
all_append P (x ∷ xs) ys one two = (one.0, all_append P xs ys one.1 two)

pub left_join : (old between new : List Receipt) → AreSignOffs old between → AreSignOffs between new
    → AreSignOffs old new
left_join old between new one two = record {
  made = one.made ++ two.made;
  added = two.added ∙ ap (λ xs. xs ++ two.made) one.added ∙ append_assoc old one.made two.made;
  each = all_append IsSignedOff one.made two.made one.each two.each;
}

-- ---- owed no more

pub unset_there : (owed : List Bool) (i : ℕ) → get_or (set owed i false) i false ≡ false
unset_there [] i = refl
unset_there (o ∷ owed) zero = refl
unset_there (o ∷ owed) (suc i) = unset_there owed i

pub unset_stays : (owed : List Bool) (i k : ℕ) → get_or owed k false ≡ false
    → get_or (set owed i false) k false ≡ false
unset_stays [] i k is = refl
unset_stays (o ∷ owed) zero zero is = refl
unset_stays (o ∷ owed) zero (suc k) is = is
unset_stays (o ∷ owed) (suc i) zero is = is
unset_stays (o ∷ owed) (suc i) (suc k) is = unset_stays owed i k is
