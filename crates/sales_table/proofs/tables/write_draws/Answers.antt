use Rattle.std.proofs.Common.{◌++◌, Option, ap, subst, ◌∙◌}
use Rattle.devices.proofs.KnownBytes.{Appends-then}
use Rattle.site_book.specs.declared.draw.Draw.{Draw}
use Rattle.site_book.specs.Readings.{IsNext}
use Rattle.sales_table.specs.Texts.{draw_text, draws_text}
use Rattle.sales_table.proofs.Pieces.{front_at_end, front_within, piece_written}
use Rattle.sales_table.proofs.Pieces.{whole_written}
use Rattle.sales_table.proofs.tables.write_draws.Goals as goal

pub loop-text-preserved-in-Continue-branch-6 : goal.loop-text-preserved-in-Continue-branch-6
loop-text-preserved-in-Continue-branch-6 g c = record {
  done = c.loop-text.invariant.done ++ c.put_draw.new.text.items;
  wrote = Appends-then _ _ _ _ _ c.loop-text.invariant.wrote c.in_ok-put_piece.ensures.written;
  rest = piece_written (draw_text c.args.form c.args.book.now.config.products) c.loop-text.draws
      c.next.new.self c.in-Some.draw c.loop-text.invariant.done c.loop-text.text.items
      c.put_draw.new.text.items c.put_piece.new.text.items
      (draws_text c.args.form c.args.book.now)
      (subst (λ (o : Option Draw). IsNext c.loop-text.draws o c.next.new.self) c.in-Some.is
      c.in_ok-draw.ensures.next)
      c.loop-text.invariant.rest
      (c.in_ok-put_draw.ensures
      ∙ ap (λ ps. c.loop-text.text.items ++ draw_text c.args.form ps c.in-Some.draw)
      (c.products-products.ensures.value ∙ ap (λ x. x.products) c.config.ensures))
      c.in_ok-put_piece.ensures.empty;
}

pub returns-clause-written : goal.returns-clause-written
returns-clause-written g c =
    whole_written (draw_text c.args.form c.args.book.now.config.products) c.loop-text.draws
    c.next.new.self c.in_ok-draw.field-0 c.loop-text.invariant.done c.loop-text.text.items
    (draws_text c.args.form c.args.book.now) _ _ _ c.in_ok-draw.ensures.next c.in_default.not-Some
    c.loop-text.invariant.rest c.loop-text.invariant.wrote c.in_ok-put_piece-2.ensures.written

-- a piece that isn't written whole, and the last one, written or not
pub returns-in_err-put_piece-clause-front : goal.returns-in_err-put_piece-clause-front
returns-in_err-put_piece-clause-front g c =
    front_within (draw_text c.args.form c.args.book.now.config.products) c.loop-text.draws
    c.next.new.self c.in-Some.draw c.loop-text.invariant.done c.loop-text.text.items
    c.put_draw.new.text.items (draws_text c.args.form c.args.book.now) _ _ _
    (subst (λ (o : Option Draw). IsNext c.loop-text.draws o c.next.new.self) c.in-Some.is
    c.in_ok-draw.ensures.next)
    c.loop-text.invariant.rest
    (c.in_ok-put_draw.ensures
    ∙ ap (λ ps. c.loop-text.text.items ++ draw_text c.args.form ps c.in-Some.draw)
    (c.products-products.ensures.value ∙ ap (λ x. x.products) c.config.ensures))
    c.loop-text.invariant.wrote c.in_err-put_piece.ensures.front

pub returns-in_err-put_piece-2-clause-front : goal.returns-in_err-put_piece-2-clause-front
returns-in_err-put_piece-2-clause-front g c =
    front_at_end (draw_text c.args.form c.args.book.now.config.products) c.loop-text.draws
    c.next.new.self c.in_ok-draw.field-0 c.loop-text.invariant.done c.loop-text.text.items
    (draws_text c.args.form c.args.book.now) _ _ _ c.in_ok-draw.ensures.next c.in_default.not-Some
    c.loop-text.invariant.rest c.loop-text.invariant.wrote c.in_err-put_piece-2.ensures.front

pub returns-clause-front : goal.returns-clause-front
returns-clause-front g c =
    front_at_end (draw_text c.args.form c.args.book.now.config.products) c.loop-text.draws
    c.next.new.self c.in_ok-draw.field-0 c.loop-text.invariant.done c.loop-text.text.items
    (draws_text c.args.form c.args.book.now) _ _ _ c.in_ok-draw.ensures.next c.in_default.not-Some
    c.loop-text.invariant.rest c.loop-text.invariant.wrote c.in_ok-put_piece-2.ensures.front
