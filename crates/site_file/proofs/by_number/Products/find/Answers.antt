use Rattle.std.proofs.Common.{◌≡◌, ℕ, List, Option, Some, None, IfSome, is_some, option_copied, Bor}
use Rattle.std.proofs.Common.{refl, sym, ap, ◌∙◌}
use Rattle.site_base.specs.declared.config.ProductEntry.{ProductEntry}
use Rattle.site_base.specs.Configured.{has_product}
use Rattle.site_file.proofs.ByNumber.{found_there, found_number}
use Rattle.site_file.proofs.by_number.Products.find.Goals as goal

copied_there : (r : Option (Bor ProductEntry)) → is_some r ≡ is_some (option_copied r)
copied_there None = refl
copied_there (Some x) = refl

copied_number : (r : Option (Bor ProductEntry)) (k : ℕ)
    → ((p : ProductEntry) → option_copied r ≡ Some p → p.number ≡ k)
    → IfSome r (λ p. p.now.number ≡ k)
copied_number None k says = tt
copied_number (Some x) k says = says x.now refl

pub returns-clause-there : goal.returns-clause-there
returns-clause-there c =
    copied_there c.get.result ∙ ap is_some c.get.ensures.value
    ∙ found_there c.args.number c.self.inside.by_number.entries c.self.invariant
    ∙ ap (λ (ps : List ProductEntry). has_product ps c.args.number) c.self.view_is

pub returns-clause-value : goal.returns-clause-value
returns-clause-value c =
    let entries = c.self.inside.by_number.entries in
    copied_number c.get.result c.args.number (λ p found.
    found_number c.args.number entries p c.self.invariant (sym c.get.ensures.value ∙ found))
