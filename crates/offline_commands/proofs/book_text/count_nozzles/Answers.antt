use Rattle.std.proofs.Common.{◌≡◌, ◌∙◌, ◌≤◌, Some, arith, slice_get, subst, sym, take}
use Rattle.written_site.specs.SiteState.{opening}
use Rattle.meter_table.specs.Figures.{HasRead}
use Rattle.offline_commands.proofs.BookRows.{take_row}
use Rattle.offline_commands.proofs.book_text.count_nozzles.Goals as goal

pub loop-place-preserved : goal.loop-place-preserved
loop-place-preserved c =
    let b = c.args.book.now in
    let i = c.loop-place.place in
    let r = c.in-Some.row in
    let known : b.forgotten ≤ i = omega (arith, c.requires) in
    let found : slice_get b.rows i ≡ Some r = sym (c.row.ensures.kept known) ∙ c.in-Some.is in
    subst (λ rows. HasRead b.config (opening b.config) rows c.read.new.self)
    (sym (take_row b.rows i r found))
    (c.in_ok-read.ensures.read b.config (opening b.config) (take i b.rows) c.loop-place.invariant)
