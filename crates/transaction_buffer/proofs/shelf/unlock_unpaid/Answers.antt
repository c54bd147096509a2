use Rattle.std.proofs.Common.{◌<◌, IfSome, sym, subst}
use Rattle.transaction_buffer.proofs.TwoPlaces.{let_go_both, places_within}
use Rattle.transaction_buffer.proofs.shelf.unlock_unpaid.Goals as goal

pub unlock_at-requires : goal.unlock_at-requires
unlock_at-requires c =
    (places_within c.args.sales.now c.args.unpaid.one c.args.unpaid.other c.requires).0

pub unlock_at-requires-2 : goal.unlock_at-requires-2
unlock_at-requires-2 c =
    subst (λ n. IfSome c.args.unpaid.other (λ i. i < n)) (sym c.unlock_at.ensures.long)
    (places_within c.args.sales.now c.args.unpaid.one c.args.unpaid.other c.requires).1

pub returns : goal.returns
returns c =
    let_go_both c.args.t c.args.sales.now c.unlock_at.new.sales c.unlock_at-2.new.sales
    c.args.unpaid.one c.args.unpaid.other c.requires c.unlock_at.ensures c.unlock_at-2.ensures
