use Rattle.std.proofs.Common.{◌≡◌, ℕ, ◌+◌, ◌<◌, [], length, get_or, refl, sym, subst, ◌∙◌, arith}
use Rattle.std.proofs.Common.{rules}
use Rattle.transaction_buffer.specs.KeptSums.{AreSums}
use Rattle.transaction_buffer.specs.Sales.{no_sales}
use Rattle.transaction_buffer.specs.Shelves.{Shelf, sales_on}
use Rattle.transaction_buffer.specs.LockedSales.{no_lockers, AreTold, IsNoted}
use Rattle.transaction_buffer.specs.Sums.{volume_in, volume_with}
use Rattle.transaction_buffer.proofs.OnShelves.{nothing_there, nothing_sold}
use Rattle.transaction_buffer.proofs.buffer.Buffer.new.Goals as goal
use Rattle.transaction_buffer.proofs.buffer.Buffer.new.Goals.{After-from_fn}

empty : (c : After-from_fn) (i : ℕ) (d : Shelf) → i < length c.from_fn.result
    → ((get_or c.from_fn.result i d).sales ≡ [])
    × ((get_or c.from_fn.result i d).lockers ≡ no_lockers)
empty c i d within =
    let called = c.from_fn.ensures.items.at i d (omega (arith, c.from_fn.ensures.items.long)) in
    search (rules, called)

nothing : (c : After-from_fn) → sales_on c.from_fn.result ≡ no_sales
nothing c = nothing_there c.from_fn.result (λ i d within. (empty c i d within).0)

pub returns : goal.returns
returns c = nothing (goal.at.returns c).After-from_fn

pub invariant_of-result : goal.invariant_of-result
invariant_of-result c =
    let all = (goal.at.invariant_of-result c).After-from_fn in
    record {
      sums = subst (λ s. AreSums s c.new.result) (sym (nothing all)) (record {
        fit = λ q. omega (arith, nothing_sold (volume_in q));
        kept = λ q status low high.
            c.new.ensures q status ∙ sym (nothing_sold (volume_with q status));
      });
      noted = record {
        cells = c.from_fn.ensures.items.long;
        each = λ i d within. subst (λ l. IsNoted (i + 1) l c.new-2.result)
            (sym (empty all i d within).1) (c.new-2.ensures (i + 1));
        told = λ i d within. subst (λ xs. AreTold xs (get_or c.from_fn.result i d).lockers)
            (sym (empty all i d within).0) (λ t one other. refl);
      };
    }
