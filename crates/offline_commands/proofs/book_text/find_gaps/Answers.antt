use Rattle.std.proofs.Common.{◌≡◌, ◌∙◌, ◌+◌, ◌≤◌, Some, ap, arith, drop, slice_get, sym}
use Rattle.written_site.specs.SiteStep.{site_after}
use Rattle.meter_table.specs.Gaps.{gaps_over}
use Rattle.offline_commands.proofs.BookRows.{drop_row}
use Rattle.offline_commands.proofs.book_text.find_gaps.Goals as goal

pub loop-row-preserved : goal.loop-row-preserved
loop-row-preserved c =
    let b = c.args.book.now in
    let i = c.loop-row.row in
    let r = c.in-Some.told in
    let s = c.loop-row.reader.site in
    let rest = drop (i + 1) b.rows in
    let known : b.forgotten ≤ i = omega (arith, c.requires) in
    let found : slice_get b.rows i ≡ Some r = sym (c.row.ensures.kept known) ∙ c.in-Some.is in
    ap (λ x. gaps_over x (i + 1) rest c.read.new.self.gaps) c.in_ok-read.ensures.site
    ∙ ap (λ g. gaps_over (site_after s r.actor r.event) (i + 1) rest g) c.in_ok-read.ensures.gaps
    ∙ ap (λ rows. gaps_over s i rows c.loop-row.reader.gaps) (sym (drop_row b.rows i r found))
    ∙ c.loop-row.invariant
