use Rattle.std.proofs.Common.{◌≡◌, ◌++◌, ℕ, List, true, sym, ap, subst, ◌∙◌, arith}
use Rattle.std.specs.Prelude.{flat_map}
use Rattle.std.specs.List.{list_all, range_with_len}
use Rattle.site_base.specs.declared.limits.TheConstants.{POINTS}
use Rattle.site_base.specs.Ranges.{is_between}
use Rattle.site_book.specs.declared.named_sale.NamedSale.{NamedSale}
use Rattle.site_book.specs.Book.{site_of_book}
use Rattle.next_opening.specs.declared.obstacle.Obstacle.{Obstacle}
use Rattle.next_opening.specs.Obstacles.{at_point}
use Rattle.next_opening.proofs.EachNumber.{one_more}
use Rattle.next_opening.proofs.NoObstacle.{all_found, at_rest, no_obstacle}
use Rattle.next_opening.proofs.found_obstacles.obstacles.Goals as goal

pub loop-cell-preserved : goal.loop-cell-preserved
loop-cell-preserved c =
    let hindering : ℕ → List Obstacle =
    at_point (site_of_book c.args.book.now) c.as_slice-sales.result.now in
    c.in_ok-add_point.ensures
    ∙ ap (λ (xs : List Obstacle). xs ++ hindering c.of_cell.result) c.loop-cell.invariant
    ∙ ap (λ (n : ℕ). flat_map hindering (range_with_len 1 c.loop-cell.cell) ++ hindering n)
    c.of_cell.ensures
    ∙ sym (one_more hindering c.loop-cell.cell)

pub returns-clause-found : goal.returns-clause-found
returns-clause-found c =
    all_found c.args.book.now c.loop-cell.found.items c.as_slice-sales.result.now
    c.loop-cell.cell c.loop-cell.invariant (c.as_slice-sales.ensures ∙ c.requires.read)
    (omega (arith, c.loop-cell-test.false, c.loop-cell.auto.cell-end))

pub returns-clause-none : goal.returns-clause-none
returns-clause-none c =
    let b = c.args.book.now in
    let own = c.as_slice-sales.ensures ∙ c.requires.read in
    let is = all_found b c.loop-cell.found.items c.as_slice-sales.result.now c.loop-cell.cell
    c.loop-cell.invariant own
    (omega (arith, c.loop-cell-test.false, c.loop-cell.auto.cell-end)) in
    let all = subst (λ (xs : List NamedSale).
    list_all (λ x. is_between 1 POINTS x.point) xs ≡ true) own c.tell_points.ensures in
    (λ none. at_rest b all (sym is ∙ none), λ rest. is ∙ no_obstacle b rest)
