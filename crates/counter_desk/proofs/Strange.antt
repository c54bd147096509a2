-- Where a history is dealt among lists of receipts, none of these is strange.
use Rattle.std.proofs.Common.{◌≡◌, ℕ, ◌+◌, ◌<◌, ◌≤◌, List, [], ◌∷◌, ◌++◌, inl, inr, ◌⊎◌, ap, subst}
use Rattle.std.proofs.Common.{arith}
use Rattle.std.proofs.lemmas.Bool.Decides.{nat_tests}
use Rattle.std.proofs.lemmas.Option.{slice_get_within}
use Rattle.std.specs.List.{AllByRecursion}
use Rattle.site_base.specs.declared.row.Row.{Row}
use Rattle.written_site.specs.RowWords.{total}
use Rattle.counter_desk.specs.declared.receipt.Receipt.{Receipt}
use Rattle.counter_desk.specs.Receipts.{StandsAt, receipted_row}
use Rattle.counter_desk.specs.Settlement.{IsDealt, IsInOrder, IsNoneStrange, IsStrangeAmong, Rises}
use Rattle.counter_desk.specs.Settlement.{next_from, one_at, times, weigh}

-- what is so of all, of one in the middle
of_middle : {A : Type 0} (P : A → Type 0) (xs : List A) (x : A) (ys : List A)
    → AllByRecursion P (xs ++ x ∷ ys) → P x
of_middle P [] x ys all = all.0
of_middle P (y ∷ xs) x ys all = of_middle P xs x ys all.1

total_split : {A : Type 0} (figure : A → ℕ) (xs : List A) (x : A) (ys : List A)
    → total figure (xs ++ x ∷ ys) ≡ total figure xs + figure x + total figure ys
total_split figure [] x ys = omega arith
total_split figure (y ∷ xs) x ys = let rest = total_split figure xs x ys in omega (arith, rest)

risen : (low : ℕ) (done : List Receipt) (r : Receipt) (rest : List Receipt)
    → Rises low (done ++ r ∷ rest) → next_from low done ≤ r.place
risen low [] r rest rises = rises.0
risen low (x ∷ done) r rest rises = risen (x.place + 1) done r rest rises.1

here_once : (k place : ℕ) → place ≡ k → one_at k place ≡ 1
here_once k place is = grind (arith, nat_tests)

pub nothing_strange : (history : List Row) (lists : List (List Receipt)) → IsDealt history lists
    → IsNoneStrange history lists
nothing_strange history lists dealt place strange = by_cause there.why
  where
    there : IsStrangeAmong history (times place strange.before) strange.receipts place
    there = strange.there

    all : AllByRecursion (IsInOrder history) (strange.before ++ strange.receipts ∷ strange.after)
    all = subst (AllByRecursion (IsInOrder history)) strange.parts dealt.in_order

    order : IsInOrder history (there.done ++ there.strange ∷ there.rest)
    order =
        subst (IsInOrder history) there.parts
        (of_middle (IsInOrder history) strange.before strange.receipts strange.after all)

    stands : StandsAt history there.strange
    stands = of_middle (StandsAt history) there.done there.strange there.rest order.stand

    by_cause : (StandsAt history there.strange → ⊥)
        ⊎ ((place < next_from 0 there.done)
        ⊎ (1 ≤ times place strange.before + weigh (one_at place) there.done)) → ⊥
    by_cause (inl other) = other stands
    by_cause (inr (inl below)) =
        let above = risen 0 there.done there.strange there.rest order.rise in
        omega (arith, above, below, there.at)
    by_cause (inr (inr twice)) =
        let within = slice_get_within history there.strange.place (receipted_row there.strange)
        stands in
        let one = dealt.once place (omega (arith, within, there.at)) in
        let lists_are : times place lists
        ≡ times place (strange.before ++ strange.receipts ∷ strange.after) =
        ap (times place) strange.parts in
        let split = total_split (weigh (one_at place)) strange.before strange.receipts
        strange.after in
        let own_are : weigh (one_at place) strange.receipts
        ≡ weigh (one_at place) (there.done ++ there.strange ∷ there.rest) =
        ap (weigh (one_at place)) there.parts in
        let own = total_split (λ (r : Receipt). one_at place r.place) there.done there.strange
        there.rest in
        let here = here_once place there.strange.place there.at in
        omega (arith, one, lists_are, split, own_are, own, here, twice)
