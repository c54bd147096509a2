use Rattle.std.proofs.Common.{◌≡◌, true, take}
use Rattle.std.specs.List.{list_all}
use Rattle.site_base.specs.Names.{is_name}
use Rattle.site_base.proofs.config.tell_names.Given as goal

abbrev pub invariant-loop-product : goal.invariant-loop-product
invariant-loop-product l = list_all (λ p. is_name p.name) (take l.product-index l.products) ≡ true
