use Rattle.std.proofs.Common.{length, ap, ◌∙◌}
use Rattle.site_base.specs.Configured.{Configured}
use Rattle.forecourt_engines.proofs.reporting.report_of_book.Goals as goal

pub report_as_text-requires : goal.report_as_text-requires
report_as_text-requires c =
    c.in_ok-totals.ensures.products
    ∙ ap (λ (config : Configured). length config.products) c.requires.config
