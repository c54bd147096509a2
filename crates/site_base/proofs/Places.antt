-- A place that a search over a table has come to.
use Rattle.std.proofs.Common.{◌≡◌, ℕ, suc, ◌<◌, Bool, true, false, cond, ◌==◌, List, [], ◌∷◌, ◌++◌}
use Rattle.std.proofs.Common.{length, get_or, take, drop, Some, is_some, refl, sym, ap, ◌∙◌}
use Rattle.std.proofs.lemmas.Bool.{eq-eqb}
use Rattle.std.proofs.lemmas.List.{get_or_default, set_split}
use Rattle.std.proofs.Math.Seq.{drop-cons}
use Rattle.site_base.specs.Table.{row_by, with_row_by, IsPlace}

module _ {K V : Type 0} (number : K → ℕ) (key : K) where
  row_by-here : (e : K × V) (es : List (K × V)) → number e.0 ≡ number key
      → row_by number key (e ∷ es) ≡ Some e.1
  row_by-here e es is = rw (eq-eqb (number e.0) (number key) is) refl

  with_row_by-here : (v : V) (e : K × V) (es : List (K × V)) → number e.0 ≡ number key
      → with_row_by number key v (e ∷ es) ≡ (e.0, v) ∷ es
  with_row_by-here v e es is = rw (eq-eqb (number e.0) (number key) is) refl

  -- the first row with the number, where no row before it has it
  pub place_found : (es : List (K × V)) (i : ℕ) (d : K × V) → i < length es
      → number (get_or es i d).0 ≡ number key
      → row_by number key (drop i es) ≡ row_by number key es
      → ((v : V) → take i es ++ with_row_by number key v (drop i es) ≡ with_row_by number key v es)
      → IsPlace number key es i
  place_found es i d lt is row write =
      let left : drop i es ≡ get_or es i d ∷ drop (suc i) es = drop-cons es i d lt in
      record {
        within = lt;
        same = λ e. ap (λ (x : K × V). number x.0) (get_or_default es i e d lt) ∙ is;
        row = λ e. sym row ∙ ap (row_by number key) left
            ∙ row_by-here (get_or es i d) (drop (suc i) es) is
            ∙ ap (λ (x : K × V). Some x.1) (get_or_default es i d e lt);
        write = λ v e. sym (write v) ∙ ap
            (λ (x : List (K × V)). take i es ++ with_row_by number key v x) left
            ∙ ap (λ (x : List (K × V)). take i es ++ x)
            (with_row_by-here v (get_or es i d) (drop (suc i) es) is)
            ∙ ap (λ (x : K × V). take i es ++ (x.0, v) ∷ drop (suc i) es)
            (get_or_default es i d e lt)
            ∙ sym (set_split es i ((get_or es i e).0, v) lt);
      }

  -- where the key has no row, no row is replaced
  pub with_row_by-absent : (v : V) (es : List (K × V)) → is_some (row_by number key es) ≡ false
      → with_row_by number key v es ≡ es
  with_row_by-absent v [] none = refl
  with_row_by-absent v (e ∷ es) none =
      by_test (number e.0 == number key) (with_row_by-absent v es) none
    where
      by_test : (b : Bool) → (is_some (row_by number key es) ≡ false
          → with_row_by number key v es ≡ es)
          → is_some (cond b (Some e.1) (row_by number key es)) ≡ false
          → cond b ((e.0, v) ∷ es) (e ∷ with_row_by number key v es) ≡ e ∷ es
      by_test true behind stands = cc
      by_test false behind past = ap (λ (x : List (K × V)). e ∷ x) (behind past)
