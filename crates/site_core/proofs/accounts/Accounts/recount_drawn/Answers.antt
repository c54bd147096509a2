use Rattle.std.proofs.Common.{ℕ, ◌<◌, ◌^◌, sym, subst, ◌∙◌, arith}
use Rattle.site_core.proofs.CountedDraws.{drawn_each}
use Rattle.site_core.proofs.accounts.Accounts.recount_drawn.Goals as goal

pub drawn_volume-requires : goal.drawn_volume-requires
drawn_volume-requires c =
    let fits = rw (← c.self.view_is) at c.requires in
    subst (λ (n : ℕ). n < 2 ^ 64)
    (sym (drawn_each c.args.q c.self.inside.shifts.shifts (omega arith))) fits

pub returns : goal.returns
returns c = rw (← c.self.view_is)
    (c.drawn_volume.ensures ∙ drawn_each c.args.q c.self.inside.shifts.shifts (omega arith))
