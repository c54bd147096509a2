use Rattle.std.proofs.Common.{◌++◌, ap, ◌∙◌}
use Rattle.devices.proofs.KnownBytes.{Appends-then}
use Rattle.sales_table.specs.Texts.{sale_text, sales_text}
use Rattle.sales_table.proofs.Pieces.{front_at_end, front_within, piece_written}
use Rattle.sales_table.proofs.tables.write_sales.Goals as goal

pub loop-sold-preserved-in-Continue-branch-3 : goal.loop-sold-preserved-in-Continue-branch-3
loop-sold-preserved-in-Continue-branch-3 g c = record {
  done = c.loop-sold.invariant.done ++ c.put_sale.new.text.items;
  wrote = Appends-then _ _ _ _ _ c.loop-sold.invariant.wrote c.in_ok-put_piece.ensures.written;
  rest = piece_written (sale_text c.args.form c.args.book.now.config.products) c.loop-sold.sales
      c.next.new.self c.in-Some.sold c.loop-sold.invariant.done c.loop-sold.text.items
      c.put_sale.new.text.items c.put_piece.new.text.items
      (sales_text c.args.form c.args.book.now) c.in-Some.ensures c.loop-sold.invariant.rest
      (c.in_ok-put_sale.ensures
      ∙ ap (λ ps. c.loop-sold.text.items ++ sale_text c.args.form ps c.in-Some.sold)
      (c.products-products.ensures.value ∙ ap (λ x. x.products) c.config.ensures))
      c.in_ok-put_piece.ensures.empty;
}

-- a piece that isn't written whole, and the last one, written or not
pub returns-in_err-put_piece-clause-front : goal.returns-in_err-put_piece-clause-front
returns-in_err-put_piece-clause-front g c =
    front_within (sale_text c.args.form c.args.book.now.config.products) c.loop-sold.sales
    c.next.new.self c.in-Some.sold c.loop-sold.invariant.done c.loop-sold.text.items
    c.put_sale.new.text.items (sales_text c.args.form c.args.book.now) _ _ _ c.in-Some.ensures
    c.loop-sold.invariant.rest
    (c.in_ok-put_sale.ensures
    ∙ ap (λ ps. c.loop-sold.text.items ++ sale_text c.args.form ps c.in-Some.sold)
    (c.products-products.ensures.value ∙ ap (λ x. x.products) c.config.ensures))
    c.loop-sold.invariant.wrote c.in_err-put_piece.ensures.front

pub returns-in_err-put_piece-2-clause-front : goal.returns-in_err-put_piece-2-clause-front
returns-in_err-put_piece-2-clause-front g c =
    front_at_end (sale_text c.args.form c.args.book.now.config.products) c.loop-sold.sales
    c.next.new.self c.next.result c.loop-sold.invariant.done c.loop-sold.text.items
    (sales_text c.args.form c.args.book.now) _ _ _ c.next.ensures c.in_default.not-Some
    c.loop-sold.invariant.rest c.loop-sold.invariant.wrote c.in_err-put_piece-2.ensures.front

pub returns-clause-front : goal.returns-clause-front
returns-clause-front g c =
    front_at_end (sale_text c.args.form c.args.book.now.config.products) c.loop-sold.sales
    c.next.new.self c.next.result c.loop-sold.invariant.done c.loop-sold.text.items
    (sales_text c.args.form c.args.book.now) _ _ _ c.next.ensures c.in_default.not-Some
    c.loop-sold.invariant.rest c.loop-sold.invariant.wrote c.in_ok-put_piece-2.ensures.front
