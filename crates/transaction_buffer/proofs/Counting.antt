-- How many sales a point has made, and how many of them are unpaid, after each change.
use Rattle.std.proofs.Common.{◌≡◌, ℕ, ◌+◌, ◌≤◌, ◌==◌, ◌&&◌, Bool, true, false, cond, List, [], ◌∷◌}
use Rattle.std.proofs.Common.{◌++◌, Option, Some, None, Result, Ok, Err, refl, sym, ap, subst, ◌∙◌}
use Rattle.std.proofs.Common.{arith}
use Rattle.std.proofs.lemmas.Bool.Decides.{nat_tests}
use Rattle.site_base.specs.declared.refusal.Refusal.{Refusal}
use Rattle.transaction_buffer.proofs.InShift.{of_shift, made_with as counted_with, made_pushed}
use Rattle.transaction_buffer.proofs.InShift.{made_mapped}
use Rattle.transaction_buffer.specs.declared.request.Request.{Request}
use Rattle.transaction_buffer.specs.Sales.{Key, Sale, Sales, sales_at, sale_of, made_in, with_in}
use Rattle.transaction_buffer.specs.Sales.{made_at, is_unpaid, unpaid_among, unpaid_at, with_sale}
use Rattle.transaction_buffer.specs.Sales.{with_new}
use Rattle.transaction_buffer.specs.TransactionTable.{Line, line_for, after_line, after_at}
use Rattle.transaction_buffer.specs.TransactionTable.{after_request, unlock_all_of, after_sign_off}
use Rattle.transaction_buffer.specs.Laws.{IsCountedAfter}
use Rattle.transaction_buffer.proofs.Reading.{sales_at_insert, sales_at_each, let_go_shift}
use Rattle.transaction_buffer.proofs.Rules.{accepted_unpaid}
use Rattle.transaction_buffer.proofs.Unpaid.{unpaid_pushed, unpaid_with, unpaid_let_go}

same : (n m : ℕ) → (n == m) ≡ true → n ≡ m
same n m is = grind (arith, nat_tests)

made_with : (k : Key) (x y : Sale) (q h : ℕ) (s : Sales) → sale_of k s ≡ Some x
    → y.shift ≡ x.shift → made_at q h (with_sale k y s) ≡ made_at q h s
made_with k x y q h s is alike = ap (made_in h) (sales_at_insert s k.point
    (with_in k.shift k.number y (sales_at k.point s)) q) ∙ by_test (q == k.point) refl
  where
    by_test : (b : Bool) → (q == k.point) ≡ b
        → made_in h (cond b (with_in k.shift k.number y (sales_at k.point s)) (sales_at q s))
        ≡ made_at q h s
    by_test true at = counted_with k.shift k.number h (sales_at k.point s) y
        (alike ∙ of_shift k.shift k.number (sales_at k.point s) x is)
        ∙ ap (λ (p : ℕ). made_at p h s) (sym (same q k.point at))
    by_test false at = refl

made_asked : (t : ℕ) (request : Request) (k : Key) (q h : ℕ) (s : Sales)
    → made_at q h (after_request request t k s) ≡ made_at q h s
made_asked t request k q h s = by_sale (sale_of k s) refl
  where
    by_line : (x : Sale) (line : Result Line Refusal) → sale_of k s ≡ Some x
        → made_at q h (after_line k x line s) ≡ made_at q h s
    by_line x (Ok l) is = made_with k x (record x { standing = l.leaves }) q h s is refl
    by_line x (Err refusal) is = refl

    by_sale : (o : Option Sale) → sale_of k s ≡ o
        → made_at q h (after_at request t k o s) ≡ made_at q h s
    by_sale None is = refl
    by_sale (Some x) is = by_line x (line_for request t x) is

made_signed_off : (t q h : ℕ) (s : Sales) → made_at q h (after_sign_off t s) ≡ made_at q h s
made_signed_off t q h s = ap (made_in h) (sales_at_each (unlock_all_of t) s q)
    ∙ made_mapped (unlock_all_of t) h (sales_at q s) (let_go_shift t)

made_sold : (p : ℕ) (x : Sale) (q h : ℕ) (s : Sales)
    → made_at q h (with_new p x s)
    ≡ cond (q == p && x.shift == h) (made_at q h s + 1) (made_at q h s)
made_sold p x q h s = ap (made_in h) (sales_at_insert s p (sales_at p s ++ x ∷ []) q)
    ∙ by_test (q == p) refl
  where
    one_more : (b : Bool) (n : ℕ) → n + cond b 1 0 ≡ cond b (n + 1) n
    one_more true n = refl
    one_more false n = omega arith

    by_test : (b : Bool) → (q == p) ≡ b
        → made_in h (cond b (sales_at p s ++ x ∷ []) (sales_at q s))
        ≡ cond (b && x.shift == h) (made_at q h s + 1) (made_at q h s)
    by_test true is = made_pushed h (sales_at p s) x
        ∙ one_more (x.shift == h) (made_at p h s)
        ∙ ap (λ (r : ℕ). cond (x.shift == h) (made_at r h s + 1) (made_at r h s))
        (sym (same q p is))
    by_test false is = refl

unpaid_asked : (t : ℕ) (request : Request) (k : Key) (q : ℕ) (s : Sales)
    → unpaid_at q (after_request request t k s) ≤ unpaid_at q s
unpaid_asked t request k q s = by_sale (sale_of k s) refl
  where
    by_test : (x y : Sale) (b : Bool) → (q == k.point) ≡ b → sale_of k s ≡ Some x
        → is_unpaid x.standing ≡ true
        → unpaid_among (cond b (with_in k.shift k.number y (sales_at k.point s)) (sales_at q s))
        ≤ unpaid_at q s
    by_test x y true at is unpaid =
        let point : k.point ≡ q = sym (same q k.point at) in
        subst (λ (p : ℕ). unpaid_among (with_in k.shift k.number y (sales_at k.point s))
        ≤ unpaid_at p s) point (unpaid_with k.shift k.number (sales_at k.point s) x y is unpaid)
    by_test x y false at is unpaid = omega arith

    by_line : (x : Sale) (line : Result Line Refusal) → line_for request t x ≡ line
        → sale_of k s ≡ Some x → unpaid_at q (after_line k x line s) ≤ unpaid_at q s
    by_line x (Ok l) line is =
        let y : Sale = record x { standing = l.leaves } in
        subst (λ (xs : List Sale). unpaid_among xs ≤ unpaid_at q s)
        (sym (sales_at_insert s k.point (with_in k.shift k.number y (sales_at k.point s)) q))
        (by_test x y (q == k.point) refl is (accepted_unpaid request t x l line))
    by_line x (Err refusal) line is = omega arith

    by_sale : (o : Option Sale) → sale_of k s ≡ o
        → unpaid_at q (after_at request t k o s) ≤ unpaid_at q s
    by_sale None is = omega arith
    by_sale (Some x) is = by_line x (line_for request t x) refl is

unpaid_signed_off : (t q : ℕ) (s : Sales) → unpaid_at q (after_sign_off t s) ≡ unpaid_at q s
unpaid_signed_off t q s = ap unpaid_among (sales_at_each (unlock_all_of t) s q)
    ∙ unpaid_let_go t (sales_at q s)

unpaid_sold : (p : ℕ) (x : Sale) (q : ℕ) (s : Sales)
    → unpaid_at q (with_new p x s)
    ≡ cond (q == p) (unpaid_at q s + cond (is_unpaid x.standing) 1 0) (unpaid_at q s)
unpaid_sold p x q s = ap unpaid_among (sales_at_insert s p (sales_at p s ++ x ∷ []) q)
    ∙ by_test (q == p) refl
  where
    by_test : (b : Bool) → (q == p) ≡ b
        → unpaid_among (cond b (sales_at p s ++ x ∷ []) (sales_at q s))
        ≡ cond b (unpaid_at q s + cond (is_unpaid x.standing) 1 0) (unpaid_at q s)
    by_test true is = unpaid_pushed (sales_at p s) x
        ∙ ap (λ (p : ℕ). unpaid_at p s + cond (is_unpaid x.standing) 1 0) (sym (same q p is))
    by_test false is = refl

pub counted_after : IsCountedAfter
counted_after = record {
  made_asked = made_asked;
  made_signed_off = made_signed_off;
  made_sold = made_sold;
  unpaid_asked = unpaid_asked;
  unpaid_signed_off = unpaid_signed_off;
  unpaid_sold = unpaid_sold;
}
