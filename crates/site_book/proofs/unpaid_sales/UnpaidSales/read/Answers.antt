use Rattle.std.proofs.Common.{subst, sym, ◌∙◌}
use Rattle.site_book.specs.Unpaid.{GoesBy, Kept}
use Rattle.site_book.proofs.Reading.{whole}
use Rattle.site_book.proofs.unpaid_sales.UnpaidSales.read.Goals as goal

pub returns-clause-kept : goal.returns-clause-kept
returns-clause-kept c = λ goes.
    (whole c.args.book.now
    (record {
      place = c.self.inside.place;
      shift = c.self.inside.shift;
      sales = c.self.inside.sales.items;
    })
    (record {
      place = c.self-2.inside.place;
      shift = c.self-2.inside.shift;
      sales = c.self-2.inside.sales.items;
    })
    c.row.result c.deref.result.now c.in_ok-self-inside.field-0.items
    c.row.ensures.kept c.in_default.not-Some (c.self.view_is ∙ sym c.self-2.view_is)
    c.deref.ensures.value c.in_ok-self-inside.ensures
    (subst (λ (k : Kept). GoesBy k c.args.book.now) (sym c.self-2.view_is)
    (c.loop-row.invariant goes))).1

pub returns-clause-read : goal.returns-clause-read
returns-clause-read c = λ goes.
    (whole c.args.book.now
    (record {
      place = c.self.inside.place;
      shift = c.self.inside.shift;
      sales = c.self.inside.sales.items;
    })
    (record {
      place = c.self-2.inside.place;
      shift = c.self-2.inside.shift;
      sales = c.self-2.inside.sales.items;
    })
    c.row.result c.deref.result.now c.in_ok-self-inside.field-0.items
    c.row.ensures.kept c.in_default.not-Some (c.self.view_is ∙ sym c.self-2.view_is)
    c.deref.ensures.value c.in_ok-self-inside.ensures
    (subst (λ (k : Kept). GoesBy k c.args.book.now) (sym c.self-2.view_is)
    (c.loop-row.invariant goes))).2

pub returns-clause-all : goal.returns-clause-all
returns-clause-all c = λ goes.
    (whole c.args.book.now
    (record {
      place = c.self.inside.place;
      shift = c.self.inside.shift;
      sales = c.self.inside.sales.items;
    })
    (record {
      place = c.self-2.inside.place;
      shift = c.self-2.inside.shift;
      sales = c.self-2.inside.sales.items;
    })
    c.row.result c.deref.result.now c.in_ok-self-inside.field-0.items
    c.row.ensures.kept c.in_default.not-Some (c.self.view_is ∙ sym c.self-2.view_is)
    c.deref.ensures.value c.in_ok-self-inside.ensures
    (subst (λ (k : Kept). GoesBy k c.args.book.now) (sym c.self-2.view_is)
    (c.loop-row.invariant goes))).0
