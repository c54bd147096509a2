use Rattle.std.proofs.Common.{◌≡◌, ◌∙◌, ap, subst, sym}
use Rattle.std.specs.Prelude.{OnOk}
use Rattle.meters.specs.Nozzles.{reading_of}
use Rattle.written_site.specs.SiteStep.{reply_to}
use Rattle.meter_table.specs.Gaps.{Gaps, gaps_accepted, gaps_refused}
use Rattle.meter_table.proofs.GapRows.{gaps_once_accepted, gaps_once_refused}
use Rattle.meter_table.proofs.gap_reader.GapReader.read.Goals as goal

pub returns-in-Ok-clause-gaps : goal.returns-in-Ok-clause-gaps
returns-in-Ok-clause-gaps c =
    let r = c.args.row.now in
    let x = c.in-Some.told in
    let still : c.prepare.new.self.site ≡ c.args.self.now.site =
    c.in_ok-prepare.ensures.site ∙ ap (λ m. m.site) c.self.view_is in
    subst (λ (g : Gaps). OnOk c.accept.result (c.accept.new.self ≡ g))
    (ap (λ (g : Gaps). gaps_accepted c.args.place.now c.last_reading-expected.result r x g)
    (ap (λ m. m.gaps) c.self.view_is)
    ∙ gaps_once_accepted c.args.place.now c.args.self.now.site r c.args.self.now.gaps x
    c.last_reading-expected.result c.in-Ok.field-0
    (sym c.told_by.ensures ∙ c.in-Some.is)
    (c.last_reading-expected.ensures
    ∙ ap (λ s. reading_of x.point x.nozzle s.nozzles) still)
    (sym c.in-Ok.is ∙ c.step.ensures.step.replies
    ∙ ap (λ s. reply_to s r.actor r.event) still))
    c.accept.ensures

pub returns-in-Err-clause-gaps : goal.returns-in-Err-clause-gaps
returns-in-Err-clause-gaps c =
    let r = c.args.row.now in
    let x = c.in-Some.told in
    let still : c.prepare.new.self.site ≡ c.args.self.now.site =
    c.in_ok-prepare.ensures.site ∙ ap (λ m. m.site) c.self.view_is in
    subst (λ (g : Gaps). OnOk c.refuse.result (c.refuse.new.self ≡ g))
    (ap (λ (g : Gaps). gaps_refused c.args.place.now c.last_reading-expected.result
    c.in-Err.refusal x g) (ap (λ m. m.gaps) c.self.view_is)
    ∙ gaps_once_refused c.args.place.now c.args.self.now.site r c.args.self.now.gaps x
    c.last_reading-expected.result c.in-Err.refusal
    (sym c.told_by.ensures ∙ c.in-Some.is)
    (c.last_reading-expected.ensures
    ∙ ap (λ s. reading_of x.point x.nozzle s.nozzles) still)
    (sym c.in-Err.is ∙ c.step.ensures.step.replies
    ∙ ap (λ s. reply_to s r.actor r.event) still))
    c.refuse.ensures
