-- What is so of every sale, after each change of the sales.
use Rattle.std.proofs.Common.{◌≡◌, ℕ, Bool, true, false, cond, Option, option_map, Some, None, refl}
use Rattle.std.proofs.Common.{sym, subst, ◌∙◌}
use Rattle.transaction_buffer.specs.declared.request.Request.{Request}
use Rattle.transaction_buffer.specs.Sales.{Key, Sale, Sales, next_key, same_key, sale_of, with_new}
use Rattle.transaction_buffer.specs.TransactionTable.{after_request, after_sign_off, unlock_all_of}
use Rattle.transaction_buffer.specs.TransactionTable.{sale_after_request}
use Rattle.transaction_buffer.proofs.Reading.{read_after}
use Rattle.written_site.proofs.SoundTables.{told_once}

-- each of the sales is so
abbrev pub Each : (Sale → Type 0) → Sales → Type 0
Each P sales = (k : Key) (x : Sale) → sale_of k sales ≡ Some x → P x

pub each_let_go : (P Q : Sale → Type 0) (t : ℕ) (sales : Sales)
    → ((x : Sale) → P x → Q (unlock_all_of t x)) → Each P sales → Each Q (after_sign_off t sales)
each_let_go P Q t sales keeps all k x is =
    by_sale (sale_of k sales) refl (sym (read_after.signed_off t k sales) ∙ is)
  where
    by_sale : (o : Option Sale) → sale_of k sales ≡ o → option_map (unlock_all_of t) o ≡ Some x
        → Q x
    by_sale None at made = cc
    by_sale (Some y) at made = subst Q (told_once (unlock_all_of t y) x made) (keeps y (all k y at))

pub each_sold : (P Q : Sale → Type 0) (p : ℕ) (y : Sale) (sales : Sales)
    → ((x : Sale) → P x → Q x) → Q y → Each P sales → Each Q (with_new p y sales)
each_sold P Q p y sales keeps new all k x is =
    by_name (same_key k (next_key p y.shift sales)) (sym (read_after.sold p y k sales) ∙ is)
  where
    by_name : (b : Bool) → cond b (Some y) (sale_of k sales) ≡ Some x → Q x
    by_name true made = subst Q (told_once y x made) new
    by_name false at = keeps x (all k x at)

pub each_asked : (P Q : Sale → Type 0) (request : Request) (t : ℕ) (j : Key) (sales : Sales)
    → ((x : Sale) → P x → Q x) → ((x : Sale) → P x → Q (sale_after_request request t x))
    → Each P sales → Each Q (after_request request t j sales)
each_asked P Q request t j sales keeps asked all k x is =
    by_name (same_key k j) (sym (read_after.asked_for t request j k sales) ∙ is)
  where
    by_sale : (o : Option Sale) → sale_of k sales ≡ o
        → option_map (sale_after_request request t) o ≡ Some x → Q x
    by_sale None at made = cc
    by_sale (Some y) at made =
        subst Q (told_once (sale_after_request request t y) x made) (asked y (all k y at))

    by_name : (b : Bool)
        → cond b (option_map (sale_after_request request t) (sale_of k sales)) (sale_of k sales)
        ≡ Some x → Q x
    by_name true made = by_sale (sale_of k sales) refl made
    by_name false at = keeps x (all k x at)
