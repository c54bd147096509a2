use Rattle.std.proofs.Common.{◌<◌, ◌^◌, ℕ, sym, subst, ◌∙◌}
use Rattle.transaction_buffer.specs.Figures.{figure_in}
use Rattle.transaction_buffer.proofs.OnShelves.{sums_there}
use Rattle.transaction_buffer.proofs.buffer.Buffer.recount.Goals as goal

pub recount_on-requires : goal.recount_on-requires
recount_on-requires c =
    let fits = rw (← c.self.view_is) at c.requires in
    subst (λ (n : ℕ). n < 2 ^ 64) (sums_there (figure_in c.args.figure.now) c.self.inside.shelves)
    fits

pub returns : goal.returns
returns c = rw (← c.self.view_is)
    (c.recount_on.ensures ∙ sym (sums_there (figure_in c.args.figure.now) c.self.inside.shelves))
