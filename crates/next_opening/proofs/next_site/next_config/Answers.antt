use Rattle.std.proofs.Common.{◌≡◌, ◌≤◌, true, ap, subst, sym, ◌∙◌}
use Rattle.std.specs.Prelude.{nat_eq}
use Rattle.site_base.specs.declared.config.TheConstants.{GREATEST_ROWS}
use Rattle.site_base.specs.Configured.{Configured, are_points, are_products, is_site, none_alike}
use Rattle.site_book.specs.Book.{site_of_book}
use Rattle.written_site.specs.SiteState.{SiteState, opening}
use Rattle.next_opening.specs.NextOpening.{GoesOnFrom}
use Rattle.next_opening.proofs.FitOpenings.{assembled, stays_fit}
use Rattle.next_opening.proofs.Beginnings.{goes_on}
use Rattle.next_opening.proofs.next_site.next_config.Goals as goal

pub unreachable-requires : goal.unreachable-requires
unreachable-requires c =
    let s : SiteState = site_of_book c.args.book.now in
    let k : Configured = c.args.book.now.config in
    let own = c.config-config.ensures in
    let made = assembled k s c.rows.result c.in_ok-managers.managers.items
    c.in_ok-products.products.items c.in_ok-points.points.items
    (c.rows.ensures.value ∙ ap (λ (x : Configured). x.rows) own)
    (c.in_ok-managers.ensures.items ∙ c.managers.ensures.value
    ∙ ap (λ (x : Configured). x.managers) own)
    c.in_ok-products.ensures c.in_ok-points.ensures in
    let low : 1 ≤ k.rows =
    subst (λ (x : Configured). 1 ≤ x.rows) own
    (subst (λ n. 1 ≤ n) c.rows.ensures.value c.rows.ensures.range.0) in
    let high : k.rows ≤ GREATEST_ROWS =
    subst (λ (x : Configured). x.rows ≤ GREATEST_ROWS) own
    (subst (λ n. n ≤ GREATEST_ROWS) c.rows.ensures.value c.rows.ensures.range.1) in
    let managers : none_alike nat_eq k.managers ≡ true =
    subst (λ (x : Configured). none_alike nat_eq x.managers ≡ true) own c.managers.ensures.fit in
    let products : are_products k.products ≡ true =
    subst (λ (x : Configured). are_products x.products ≡ true) own c.products.ensures.fit in
    let points : are_points k.products k.points ≡ true =
    subst (λ (x : Configured). are_points x.products x.points ≡ true) own c.points.ensures.fit in
    let fit = stays_fit k s low high managers products points in
    let is = c.in-None.ensures.fit ∙ ap is_site made ∙ fit in
    cc

pub returns-clause-goes_on : goal.returns-clause-goes_on
returns-clause-goes_on c =
    let s : SiteState = site_of_book c.args.book.now in
    let k : Configured = c.args.book.now.config in
    let own = c.config-config.ensures in
    let made = assembled k s c.rows.result c.in_ok-managers.managers.items
    c.in_ok-products.products.items c.in_ok-points.points.items
    (c.rows.ensures.value ∙ ap (λ (x : Configured). x.rows) own)
    (c.in_ok-managers.ensures.items ∙ c.managers.ensures.value
    ∙ ap (λ (x : Configured). x.managers) own)
    c.in_ok-products.ensures c.in_ok-points.ensures in
    subst (λ (x : Configured). GoesOnFrom s (opening x)) (sym (c.in-Some.ensures.value ∙ made))
    (goes_on c.args.book.now c.len.ensures.legal)
