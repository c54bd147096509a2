use Rattle.std.proofs.Common.{rules}
use Rattle.unmarked_input.proofs.Beginnings.{without_mark-other}
use Rattle.unmarked_input.proofs.unmarked.find_beginning.Goals as goal

pub returns-clause-unmarked : goal.returns-clause-unmarked
returns-clause-unmarked c = λ _ rest.
    without_mark-other _ rest c.requires (search rules) (λ short. search rules)
