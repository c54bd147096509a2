use Rattle.std.proofs.Common.{◌≡◌, ◌∙◌, ap, arith, map}
use Rattle.std.proofs.lemmas.List.{take_at}
use Rattle.written_site.specs.SiteStep.{site_after}
use Rattle.meter_table.specs.Counting.{with_row}
use Rattle.meter_table.proofs.Readers.{read_next}
use Rattle.meter_table.proofs.meter_reader.MeterReader.read.Goals as goal

pub returns-clause-read : goal.returns-clause-read
returns-clause-read c = λ config start rows read.
    let r = c.args.row.now in
    let whole = take_at c.count_row.new.figures _ c.self.inside.figures.len
    (omega (arith, c.count_row.auto.figures, c.deref_mut.ensures.len)) in
    let still : c.prepare.new.self.site ≡ c.args.self.now.site =
    c.in_ok-prepare.ensures.site ∙ ap (λ m. m.site) c.self.view_is in
    read_next config start rows r c.args.self.now _
    (c.count_row.ensures.site ∙ ap (λ s. site_after s r.actor r.event) still)
    (whole ∙ c.count_row.ensures.figures
    ∙ ap (λ s. map (with_row s r) c.deref_mut.result.now) still
    ∙ ap (map (with_row c.args.self.now.site r))
    (c.deref_mut.ensures.value ∙ ap (λ m. m.figures) c.self.view_is)) read
