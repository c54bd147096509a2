-- Products that are found by their numbers.
use Rattle.std.proofs.Common.{◌≡◌, ℕ, true, false, List, [], ◌∷◌, ◌++◌, Option, Some, None, is_some}
use Rattle.std.proofs.Common.{◌==◌, nat_eq, refl, sym, ap, ◌∙◌, inl, inr, arith}
use Rattle.std.proofs.lemmas.Bool.{cases_Bool, and_parts}
use Rattle.std.proofs.lemmas.Bool.Decides.{nat_tests}
use Rattle.std.specs.Map.{lookup, values_of}
use Rattle.site_base.specs.declared.config.ProductEntry.{ProductEntry}
use Rattle.site_base.specs.Configured.{has_product}
use Rattle.site_file.specs.ByNumber.{are_by_number}
use Rattle.indexmap.specs.IndexMap.{IndexMap, insert_entry, values}
use Rattle.indexmap.proofs.CallerLemmas.{insert_entry-new}
use borrow.Author.Tests.{eqb-true}

abbrev Entry : Type 0
Entry = ℕ × ProductEntry

-- a product is found where one has the number
pub found_there : (k : ℕ) (es : List Entry) → are_by_number es ≡ true
    → is_some (lookup (nat_eq k) es) ≡ has_product (values_of es) k
found_there k [] by = refl
found_there k (e ∷ es) by =
    let (here, rest) = and_parts (e.0 == e.1.number) (are_by_number es) by in
    let key : e.0 ≡ e.1.number = eqb-true _ _ here in
    elim (cases_Bool (nat_eq k e.0)) [
      | inl is ↦
          let same : (e.1.number == k) ≡ true = grind (arith, nat_tests) in
          rw (is, same) refl
      | inr is ↦
          let other : (e.1.number == k) ≡ false = grind (arith, nat_tests) in
          rw (is, other) (found_there k es rest)
    ]

-- what is found has the number
pub found_number : (k : ℕ) (es : List Entry) (p : ProductEntry) → are_by_number es ≡ true
    → lookup (nat_eq k) es ≡ Some p → p.number ≡ k
found_number k [] p by found = cc
found_number k (e ∷ es) p by found =
    let (here, rest) = and_parts (e.0 == e.1.number) (are_by_number es) by in
    let key : e.0 ≡ e.1.number = eqb-true _ _ here in
    elim (cases_Bool (nat_eq k e.0)) [
      | inl is ↦
          let at : Some e.1 ≡ Some p = rw is at found in
          let seen : e.1 ≡ p = cc in
          ap (λ (q : ProductEntry). q.number) (sym seen) ∙ sym key ∙ sym (eqb-true _ _ is)
      | inr is ↦ found_number k es p rest (rw is at found)
    ]

-- one more product at its number
pub are_by_number-push : (es : List Entry) (p : ProductEntry) → are_by_number es ≡ true
    → are_by_number (es ++ (p.number, p) ∷ []) ≡ true
are_by_number-push [] p by = grind (arith, nat_tests)
are_by_number-push (e ∷ es) p by =
    let (here, rest) = and_parts (e.0 == e.1.number) (are_by_number es) by in
    rw (here, are_by_number-push es p rest)

pub values_of-push : (es : List Entry) (k : ℕ) (p : ProductEntry)
    → values_of (es ++ (k, p) ∷ []) ≡ values_of es ++ p ∷ []
values_of-push [] k p = refl
values_of-push (e ∷ es) k p = ap (λ (t : List ProductEntry). e.1 ∷ t) (values_of-push es k p)

none_from_is_some : {A : Type 0} (o : Option A) → is_some o ≡ false → o ≡ None
none_from_is_some None is = refl
none_from_is_some (Some x) is = cc

-- a new product goes last
pub inserted : {S : Type 0} (m : IndexMap ℕ ProductEntry S) (k : ℕ) (p : ProductEntry)
    → k ≡ p.number → are_by_number m.entries ≡ true
    → has_product (values m) p.number ≡ false
    → insert_entry nat_eq m.entries k p ≡ m.entries ++ (p.number, p) ∷ []
inserted m k p key by new =
    let absent : is_some (lookup (nat_eq k) m.entries) ≡ false = found_there k m.entries by
    ∙ ap (has_product (values m)) key ∙ new in
    let none : lookup (nat_eq k) m.entries ≡ None = none_from_is_some _ absent in
    insert_entry-new nat_eq m k p none ∙ ap (λ (n : ℕ). m.entries ++ (n, p) ∷ []) key
