-- Steps that were taken, one after another.
use Rattle.std.proofs.Common.{◌≡◌, ℕ, ◌+◌, ◌<◌, true, false, List, [], ◌∷◌, ◌++◌, length, take}
use Rattle.std.proofs.Common.{get_or, if◌then◌else◌, refl, sym, ap, subst, ◌∙◌, arith}
use Rattle.std.proofs.lemmas.List.{append-nil, append_assoc, take_more}
use Rattle.site_base.specs.Configured.{Configured}
use Rattle.counter_desk.specs.declared.receipt.Receipt.{Receipt}
use Rattle.demo.specs.declared.steps.Step.{Step}
use Rattle.demo.specs.Reports.{AreReports, AreTaken, DispenserFacts, is_reported}
use Rattle.demo.specs.Reports.{kept_after, kept_after_all, refused_in, reported_steps}
use Rattle.demo.specs.Reports.{sold_in}

pub taken_none : (config : Configured) (d : DispenserFacts) (old : List Receipt)
    → AreTaken config [] d d old old 0 0
taken_none config d old = record {
  made = [];
  added = sym (append-nil old);
  told = tt;
  kept = refl;
  sales = refl;
  refusals = refl;
}

sold_append : (xs ys : List Receipt) → sold_in (xs ++ ys) ≡ sold_in xs + sold_in ys
sold_append [] ys = omega arith
sold_append (x ∷ xs) ys = let rest = sold_append xs ys in omega (arith, rest)

refused_append : (xs ys : List Receipt) → refused_in (xs ++ ys) ≡ refused_in xs + refused_in ys
refused_append [] ys = omega arith
refused_append (x ∷ xs) ys = let rest = refused_append xs ys in omega (arith, rest)

kept_append : (xs ys : List Receipt) (d : DispenserFacts)
    → kept_after_all (xs ++ ys) d ≡ kept_after_all ys (kept_after_all xs d)
kept_append [] ys d = refl
kept_append (x ∷ xs) ys d = kept_append xs ys (kept_after x.event x.reply d)

reported_append : (xs ys : List Step) → reported_steps (xs ++ ys)
    ≡ reported_steps xs ++ reported_steps ys
reported_append [] ys = refl
reported_append (x ∷ xs) ys =
    let rest = reported_append xs ys in
    elim (is_reported x) as
    (λ b. (if b then x ∷ reported_steps (xs ++ ys) else reported_steps (xs ++ ys))
    ≡ (if b then x ∷ reported_steps xs else reported_steps xs) ++ reported_steps ys)
    [ true ↦ ap (λ zs. x ∷ zs) rest | false ↦ rest ]

reports_append : (config : Configured) (d : DispenserFacts) (xs ys : List Step)
    (rs qs : List Receipt)
    → AreReports config d xs rs → AreReports config (kept_after_all rs d) ys qs
    → AreReports config d (xs ++ ys) (rs ++ qs)
reports_append config d [] ys [] qs one two = two
reports_append config d [] ys (r ∷ rs) qs one two = elim one [ ]
reports_append config d (x ∷ xs) ys [] qs one two = elim one [ ]
reports_append config d (x ∷ xs) ys (r ∷ rs) qs one two =
    (one.0, one.1, reports_append config (kept_after r.event r.reply d) xs ys rs qs one.2 two)

taken_join : (config : Configured) (first second : List Step) (d e f : DispenserFacts)
    (old between new : List Receipt) (a b m n : ℕ)
    → AreTaken config first d e old between a m → AreTaken config second e f between new b n
    → AreTaken config (first ++ second) d f old new (a + b) (m + n)
taken_join config first second d e f old between new a b m n one two = record {
  made = one.made ++ two.made;
  added = two.added ∙ ap (λ xs. xs ++ two.made) one.added ∙ append_assoc old one.made two.made;
  told =
      subst (λ steps. AreReports config d steps (one.made ++ two.made))
      (sym (reported_append first second))
      (reports_append config d (reported_steps first) (reported_steps second) one.made two.made
      one.told
      (subst (λ x. AreReports config x (reported_steps second) two.made) one.kept two.told));
  kept =
      two.kept ∙ ap (λ x. kept_after_all two.made x) one.kept
      ∙ sym (kept_append one.made two.made d);
  sales = omega (arith, one.sales, two.sales, sold_append one.made two.made);
  refusals = omega (arith, one.refusals, two.refusals, refused_append one.made two.made);
}

-- one step more
pub taken_more : (config : Configured) (steps : List Step) (i : ℕ) (step : Step)
    (d e f : DispenserFacts)
    (old between new : List Receipt) (a b m n : ℕ) → i < length steps → step ≡ get_or steps i step
    → AreTaken config (take i steps) d e old between a m
    → AreTaken config (step ∷ []) e f between new b n
    → AreTaken config (take (i + 1) steps) d f old new (a + b) (m + n)
taken_more config steps i step d e f old between new a b m n within is one two =
    subst (λ first. AreTaken config first d f old new (a + b) (m + n))
    (ap (λ x. take i steps ++ x ∷ []) is ∙ sym (take_more steps i step within))
    (taken_join config (take i steps) (step ∷ []) d e f old between new a b m n one two)
