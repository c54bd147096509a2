-- How changes move the sum of a figure over the sales.
use Rattle.std.proofs.Common.{◌≡◌, ℕ, ◌+◌, T, cond, List, [], ◌∷◌, ◌++◌, map, Option, Some, None}
use Rattle.std.proofs.Common.{unwrap_or, Less, refl, ap, ◌∙◌, arith}
use Rattle.std.specs.declared.cmp.Ordering.{Ordering}
use Rattle.std.specs.declared.cmp.Ordering.TheVariants.{Equal, Greater}
use Rattle.std.specs.Ordering.{nat_cmp, is_eq}
use Rattle.std.proofs.lemmas.Cmp.{ranked, nat_cmp_total}
use Rattle.std.specs.FinMap as finite
use Rattle.std.specs.FinMap.{find, entries, entries_sorted, entries-insert, get-entries, is_sorted}
use Rattle.std.specs.FinMap.{put}
use Rattle.std.specs.FinMap.Entries.{by_order, below_all}
use Rattle.transaction_buffer.specs.Sales.{Key, Sale, Sales, with_in, sales_at, sale_of, with_sale}
use Rattle.transaction_buffer.specs.Sales.{with_new, each_changed}
use Rattle.transaction_buffer.specs.Sums.{sum_among, sum_over, sum_of}
use Rattle.transaction_buffer.specs.Laws.{IsSummedAfter}
use Rattle.transaction_buffer.proofs.InShift.{with_sum}
use Rattle.transaction_buffer.proofs.Maps.{each, entries_each, find_before, first_half, second_half}

-- one more sale of the same point
push_sum : (figure : Sale → ℕ) (xs : List Sale) (x : Sale)
    → sum_among figure (xs ++ x ∷ []) ≡ sum_among figure xs + figure x
push_sum figure [] x = omega arith
push_sum figure (y ∷ ys) x = omega (arith, push_sum figure ys x)

-- the sales of a point, each changed
map_sum : (figure : Sale → ℕ) (change : Sale → Sale) (xs : List Sale)
    → sum_among figure (map change xs) ≡ sum_among (λ x. figure (change x)) xs
map_sum figure change [] = refl
map_sum figure change (x ∷ xs) = ap (λ (n : ℕ). figure (change x) + n) (map_sum figure change xs)

-- the sales of a point in the place of those that stand there
put_sum : (figure : Sale → ℕ) (p : ℕ) (xs : List Sale) (es : List (ℕ × List Sale))
    → T (is_sorted nat_cmp es)
    → sum_over figure (put nat_cmp p xs es) + sum_among figure (unwrap_or (find nat_cmp p es) [])
    ≡ sum_over figure es + sum_among figure xs
put_sum figure p xs [] rises = omega arith
put_sum figure p xs (e ∷ es) rises =
    by_place (nat_cmp p e.0) refl (put_sum figure p xs es
    (second_half (below_all nat_cmp e.0 es) (is_sorted nat_cmp es) rises))
  where
    by_place : (o : Ordering) → o ≡ nat_cmp p e.0
        → sum_over figure (put nat_cmp p xs es)
        + sum_among figure (unwrap_or (find nat_cmp p es) [])
        ≡ sum_over figure es + sum_among figure xs
        → sum_over figure (by_order o ((p, xs) ∷ e ∷ es) ((e.0, xs) ∷ es) (e ∷ put nat_cmp p xs es))
        + sum_among figure (unwrap_or (cond (is_eq o) (Some e.1) (find nat_cmp p es)) [])
        ≡ sum_over figure (e ∷ es) + sum_among figure xs
    by_place Less is rest =
        let none : find nat_cmp p es ≡ None =
        find_before p e.0 es (ranked p e.0 Less is)
        (first_half (below_all nat_cmp e.0 es) (is_sorted nat_cmp es) rises) in
        let nothing : sum_among figure (unwrap_or (find nat_cmp p es) []) ≡ 0 =
        ap (λ (o : Option (List Sale)). sum_among figure (unwrap_or o [])) none in
        omega (arith, nothing)
    by_place Equal is rest = omega arith
    by_place Greater is rest = omega (arith, rest)

insert_sum : (figure : Sale → ℕ) (s : Sales) (p : ℕ) (xs : List Sale)
    → sum_of figure (finite.insert s p xs) + sum_among figure (sales_at p s)
    ≡ sum_of figure s + sum_among figure xs
insert_sum figure s p xs =
    ap (λ (es : List (ℕ × List Sale)). sum_over figure es + sum_among figure (sales_at p s))
    (entries-insert nat_cmp_total s p xs)
    ∙ ap (λ (o : Option (List Sale)). sum_over figure (put nat_cmp p xs (entries s))
    + sum_among figure (unwrap_or o [])) (get-entries s p)
    ∙ put_sum figure p xs (entries s) (entries_sorted s)

pub replaced_sum : (figure : Sale → ℕ) (k : Key) (old new : Sale) (s : Sales)
    → sale_of k s ≡ Some old
    → sum_of figure (with_sale k new s) + figure old ≡ sum_of figure s + figure new
replaced_sum figure k old new s is =
    let xs : List Sale = sales_at k.point s in
    let all : sum_of figure (with_sale k new s) + sum_among figure xs ≡ sum_of figure s
    + sum_among figure (with_in k.shift k.number new xs) =
    insert_sum figure s k.point (with_in k.shift k.number new xs) in
    let here : sum_among figure (with_in k.shift k.number new xs) + figure old ≡ sum_among figure xs
    + figure new = with_sum figure k.shift k.number xs old new is in
    omega (arith, all, here)

pub sold_sum : (figure : Sale → ℕ) (p : ℕ) (x : Sale) (s : Sales)
    → sum_of figure (with_new p x s) ≡ sum_of figure s + figure x
sold_sum figure p x s =
    let xs : List Sale = sales_at p s in
    let all : sum_of figure (with_new p x s) + sum_among figure xs ≡ sum_of figure s
    + sum_among figure (xs ++ x ∷ []) = insert_sum figure s p (xs ++ x ∷ []) in
    let here : sum_among figure (xs ++ x ∷ []) ≡ sum_among figure xs + figure x =
    push_sum figure xs x in
    omega (arith, all, here)

each_sum : (figure : Sale → ℕ) (change : Sale → Sale) (es : List (ℕ × List Sale))
    → sum_over figure (each (map change) es) ≡ sum_over (λ x. figure (change x)) es
each_sum figure change [] = refl
each_sum figure change (e ∷ es) =
    ap (λ (n : ℕ). n + sum_over figure (each (map change) es)) (map_sum figure change e.1)
    ∙ ap (λ (n : ℕ). sum_among (λ x. figure (change x)) e.1 + n) (each_sum figure change es)

pub changed_sum : (figure : Sale → ℕ) (change : Sale → Sale) (s : Sales)
    → sum_of figure (each_changed change s) ≡ sum_of (λ x. figure (change x)) s
changed_sum figure change s = ap (sum_over figure) (entries_each (map change) s)
    ∙ each_sum figure change (entries s)

pub summed_after : IsSummedAfter
summed_after = record { replaced = replaced_sum; sold = sold_sum; changed = changed_sum }

-- figures that are alike at each sale have one sum
alike_among : (f g : Sale → ℕ) → ((x : Sale) → f x ≡ g x) → (xs : List Sale)
    → sum_among f xs ≡ sum_among g xs
alike_among f g alike [] = refl
alike_among f g alike (x ∷ xs) = omega (arith, alike x, alike_among f g alike xs)

alike_over : (f g : Sale → ℕ) → ((x : Sale) → f x ≡ g x) → (es : List (ℕ × List Sale))
    → sum_over f es ≡ sum_over g es
alike_over f g alike [] = refl
alike_over f g alike (e ∷ es) = omega (arith, alike_among f g alike e.1, alike_over f g alike es)

pub alike_sum : (f g : Sale → ℕ) → ((x : Sale) → f x ≡ g x) → (s : Sales) → sum_of f s ≡ sum_of g s
alike_sum f g alike s = alike_over f g alike (entries s)

-- figures that add up at each sale have sums that add up
added_among : (f g : Sale → ℕ) (xs : List Sale)
    → sum_among (λ x. f x + g x) xs ≡ sum_among f xs + sum_among g xs
added_among f g [] = refl
added_among f g (x ∷ xs) = omega (arith, added_among f g xs)

added_over : (f g : Sale → ℕ) (es : List (ℕ × List Sale))
    → sum_over (λ x. f x + g x) es ≡ sum_over f es + sum_over g es
added_over f g [] = refl
added_over f g (e ∷ es) = omega (arith, added_among f g e.1, added_over f g es)

pub added_sum : (f g : Sale → ℕ) (s : Sales) → sum_of (λ x. f x + g x) s ≡ sum_of f s + sum_of g s
added_sum f g s = added_over f g (entries s)
