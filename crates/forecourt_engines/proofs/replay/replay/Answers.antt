use Rattle.std.proofs.Common.{◌∙◌, Option, ap, refl, sym}
use Rattle.site_book.specs.Book.{Book}
use Rattle.forecourt_engines.specs.declared.fault.ReplayFault.{ReplayFault}
use Rattle.forecourt_engines.specs.Replay.{is_early}
use Rattle.forecourt_engines.specs.Text.{start}
use Rattle.forecourt_engines.proofs.Reports.{whole_there}
use Rattle.forecourt_engines.proofs.Running.{ends_unopened}
use Rattle.forecourt_engines.proofs.replay.replay.Goals as goal

pub returns-in-Err-clause-told : goal.returns-in-Err-clause-told
returns-in-Err-clause-told g c = ends_unopened _ _ _ _ _ refl

pub returns-in-Ok-clause-whole : goal.returns-in-Ok-clause-whole
returns-in-Ok-clause-whole g c = λ ended.
    ap (λ (b : Book). b.forgotten) c.into_book.ensures
    ∙ whole_there c.args.turns c.args.config.now c.args.changes c.new-engine.result _ _ _ _ _
    c.run-ended.new.engine.answerer.book
    (c.new-engine.ensures
    ∙ ap (λ (b : Book). start (record { book = b; changes = c.args.changes })) c.in-Ok.ensures)
    c.run-ended.ensures.told
    (ap (λ (f : Option ReplayFault). is_early f) (sym c.fault_of.ensures) ∙ ended)
