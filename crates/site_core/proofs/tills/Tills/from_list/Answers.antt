use Rattle.std.proofs.Common.{◌∷◌, [], ◌++◌, take, sym, ap, ◌∙◌, nat_cmp}
use Rattle.std.proofs.lemmas.List.{take_more}
use Rattle.std.specs.FinSet.{from_list, from_list_push, insert, nat_cmp-IsAntisymmetric}
use Rattle.std.specs.Cmp.{nat_cmp_total}
use Rattle.site_core.proofs.tills.Tills.from_list.Goals as goal

pub loop-till-preserved : goal.loop-till-preserved
loop-till-preserved c =
    let tills = c.args.tills.now in
    let i = c.loop-till.till-index in
    c.insert.ensures
    ∙ ap (λ s. insert s c.till-item.result) c.loop-till.invariant
    ∙ sym (from_list_push nat_cmp_total nat_cmp-IsAntisymmetric (take i tills) c.till-item.result)
    ∙ ap (λ x. from_list {R = nat_cmp} (take i tills ++ x ∷ [])) c.till-item.is
    ∙ ap (from_list {R = nat_cmp})
    (sym (take_more tills i c.till-item.result c.loop-till-test.true))
