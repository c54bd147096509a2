use Rattle.std.proofs.Common.{ap, ◌∙◌, List, refl}
use Rattle.std.specs.Map.{values_of}
use Rattle.site_base.specs.declared.config.ProductEntry.{ProductEntry}
use Rattle.site_base.specs.Configured.{has_product}
use Rattle.site_file.proofs.ByNumber.{inserted, are_by_number-push, values_of-push}
use Rattle.site_file.proofs.by_number.Products.push.Goals as goal

pub invariant_of-self-2 : goal.invariant_of-self-2
invariant_of-self-2 c =
    let key = c.from-number.ensures ∙ c.get.ensures.value in
    let new = ap (λ (ps : List ProductEntry). has_product ps c.args.product.number) c.self.view_is
    ∙ c.requires.new in
    let added = c.in_ok-insert.ensures.entries
    ∙ inserted c.self.inside.by_number _ c.args.product key c.self.invariant new in
    rw added (are_by_number-push c.self.inside.by_number.entries c.args.product c.self.invariant)

pub returns-clause-ok : goal.returns-clause-ok
returns-clause-ok c =
    let key = c.from-number.ensures ∙ c.get.ensures.value in
    let new = ap (λ (ps : List ProductEntry). has_product ps c.args.product.number) c.self.view_is
    ∙ c.requires.new in
    let added = c.in_ok-insert.ensures.entries
    ∙ inserted c.self.inside.by_number _ c.args.product key c.self.invariant new in
    ap values_of added ∙ values_of-push c.self.inside.by_number.entries _ c.args.product
    ∙ rw c.self.view_is refl
