use Rattle.std.proofs.Common.{subst, sym, ◌∙◌}
use Rattle.journal.specs.Opening.{HasNobodyOn}
use Rattle.journal.specs.Stored.{StoredState}
use Rattle.station_command.proofs.command.serve_on.Goals as goal

pub serve_peers-end-requires-clause-off : goal.serve_peers-end-requires-clause-off
serve_peers-end-requires-clause-off g c κs within =
    subst (λ (s : StoredState). HasNobodyOn s.station.book)
    (sym (c.begin_telling.ensures ∙ c.in-Ok.ensures.stored)) c.requires.off
