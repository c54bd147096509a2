use Rattle.std.proofs.Common.{◌≡◌, Ok, sym, ◌∙◌, arith, rules}
use Rattle.site_base.specs.declared.answer.Answer.TheVariants.{Drawn}
use Rattle.std.proofs.lemmas.Bool.{false≢true}
use Rattle.site_book.proofs.BookDraws.{not_missing, same_draw, seen}
use Rattle.written_site.proofs.SoundTables.{told_once}
use Rattle.site_book.proofs.draws.draw_made.Goals as goal

pub returns-in_err-view : goal.returns-in_err-view
returns-in_err-view c = λ config earlier legal led.
    let told : c.args.row.now.reply ≡ Ok (Drawn c.in-Ok-Drawn.growth) = search rules in
    let sees = seen config earlier c.args.site.now.site c.args.row.now c.in_ok-point.point
    c.in-Ok-Drawn.growth legal led c.is_sound.ensures c.reading.ensures.range
    (sym c.point.ensures ∙ c.in_ok-point.was)
    told in
    absurd (sees.there (sym c.point-2.ensures ∙ c.in_err-view.was))

pub returns-in_err-product : goal.returns-in_err-product
returns-in_err-product c = λ config earlier legal led.
    let told : c.args.row.now.reply ≡ Ok (Drawn c.in-Ok-Drawn.growth) = search rules in
    let sees = seen config earlier c.args.site.now.site c.args.row.now c.in_ok-point.point
    c.in-Ok-Drawn.growth legal led c.is_sound.ensures c.reading.ensures.range
    (sym c.point.ensures ∙ c.in_ok-point.was)
    told in
    absurd (not_missing _ _ sees.product (sym c.product_out.ensures ∙ c.in_err-product.was))

pub returns-in_err-volume : goal.returns-in_err-volume
returns-in_err-volume c = λ config earlier legal led.
    let told : c.args.row.now.reply ≡ Ok (Drawn c.in-Ok-Drawn.growth) = search rules in
    let sees = seen config earlier c.args.site.now.site c.args.row.now c.in_ok-point.point
    c.in-Ok-Drawn.growth legal led c.is_sound.ensures c.reading.ensures.range
    (sym c.point.ensures ∙ c.in_ok-point.was)
    told in
    let volume = sees.volume c.in_ok-view.view (sym c.point-2.ensures ∙ c.in_ok-view.was) in
    absurd (false≢true (c.in_err-volume.ensures.valid.1
    (omega (arith, volume, sees.within, c.saturating_add.ensures))))

pub returns : goal.returns
returns c = λ config earlier legal led.
    let named = sym c.point.ensures ∙ c.in_ok-point.was in
    let told : c.args.row.now.reply ≡ Ok (Drawn c.in-Ok-Drawn.growth) = search rules in
    let sees = seen config earlier c.args.site.now.site c.args.row.now c.in_ok-point.point
    c.in-Ok-Drawn.growth legal led c.is_sound.ensures c.reading.ensures.range named told in
    let volume = sees.volume c.in_ok-view.view (sym c.point-2.ensures ∙ c.in_ok-view.was) in
    same_draw config earlier c.args.site.now.site c.args.row.now c.in_ok-point.point
    c.in-Ok-Drawn.growth c.open_shift.result c.in_ok-product.product c.in_ok-volume.volume named
    told
    (c.open_shift.ensures ∙ sees.shift)
    (told_once _ _ (sym c.in_ok-product.was ∙ c.product_out.ensures ∙ sees.product))
    (omega (arith, volume, sees.within, c.saturating_add.ensures, c.in_ok-volume.ensures.value))
