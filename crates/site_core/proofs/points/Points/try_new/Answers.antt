use Rattle.std.proofs.Common.{List, ap, ◌∙◌}
use Rattle.std.proofs.lemmas.List.{take_all}
use Rattle.std.specs.Prelude.{nat_eq}
use Rattle.site_base.specs.declared.config.PointEntry.{PointEntry}
use Rattle.site_base.specs.Configured.{none_alike}
use Rattle.written_site.specs.SiteState.{points_of}
use Rattle.written_site.specs.Sound.{numbers_of}
use Rattle.written_site.proofs.SoundOpening.{numbers_alone}
use Rattle.site_core.proofs.points.Points.try_new.Goals as goal

pub invariant_of-result : goal.invariant_of-result
invariant_of-result c =
    let entries : List PointEntry = c.args.entries.now in
    ap (λ ys. none_alike nat_eq (numbers_of ys))
    (c.loop-entry.invariant.rows ∙ ap points_of
    (take_all c.loop-entry.entry-index entries c.loop-entry-test.false))
    ∙ numbers_alone entries ∙ c.requires
