use Rattle.std.proofs.Common.{◌≡◌, length, ap, refl, sym, subst, ◌∙◌}
use Rattle.std.proofs.lemmas.List.{length-map}
use Rattle.site_base.specs.declared.row.Row.{Row}
use Rattle.site_base.specs.Events.{cents_in_reply, growth_in_reply}
use Rattle.written_site.specs.RowWords.{total}
use Rattle.site_book.specs.Book.{whole_book}
use Rattle.counter_desk.specs.Marks.{AreAllMarked}
use Rattle.counter_desk.specs.Receipts.{ReceiptList, cents_receipted, growth_receipted}
use Rattle.counter_desk.specs.Roots.{lists_of}
use Rattle.counter_desk.proofs.Counting.{adds_up, dealt}
use Rattle.counter_desk.proofs.Strange.{nothing_strange}
use Rattle.counter_desk.proofs.settlement.add_up.Goals as goal

pub returns-clause-ok : goal.returns-clause-ok
returns-clause-ok g c =
    let rows = c.args.site.now in
    let lists = c.args.root.now.lists in
    let marks = c.mark_all.new.marks in
    let returned : lists_of c.lists-lists.result.now ≡ lists = c.lists-lists.ensures in
    let all : AreAllMarked rows marks lists =
    subst (λ ls. AreAllMarked rows marks ls) returned c.in-Ok-mark_all.ensures.ok in
    let as_long : length marks ≡ length rows = c.mark_all.ensures.length in
    let cents = c.sum_amounts-cents.ensures.cents ∙ ap (total cents_receipted) returned in
    let millilitres =
    c.sum_amounts-cents.ensures.millilitres ∙ ap (total growth_receipted) returned in
    let grown = millilitres ∙ adds_up (λ (r : Row). growth_in_reply r.reply) rows marks lists all
    as_long c.requires in
    let config = g.C.Naming.config in
    let sound = c.kept_histories_are_sound.ensures config (whole_book config rows) (length rows)
    (record { of = refl; whole = refl; legal = c.len-rows.ensures.legal; counted = refl }) in
    record {
      sound = sound;
      dealt = dealt rows marks lists all as_long c.requires;
      rows = c.len-rows.ensures.rows;
      calls = c.len-rows.ensures.rows ∙ sym c.requires;
      cents = cents ∙ adds_up (λ (r : Row). cents_in_reply r.reply) rows marks lists all as_long
          c.requires;
      cents_shared = cents;
      cents_booked =
          cents
          ∙ adds_up (λ (r : Row). cents_in_reply r.reply) rows marks lists all as_long c.requires
          ∙ sym c.in-Ok-totals.ensures.sums.cleared;
      millilitres = grown;
      millilitres_shared = millilitres;
      metered = grown ∙ sound.conserved.grown;
      millilitres_booked = grown ∙ sym c.in-Ok-totals.ensures.sums.metered;
      shares = sym (length-map c.lists-lists.result.now (λ (l : ReceiptList). l.receipts))
          ∙ ap length returned;
      book = c.in-Ok-totals.ensures.totals;
      products = c.in-Ok-totals.ensures.products;
    }

pub returns-clause-none : goal.returns-clause-none
returns-clause-none g c =
    let rows = c.args.site.now in
    let lists = c.args.root.now.lists in
    let marks = c.mark_all.new.marks in
    let all : AreAllMarked rows marks lists =
    subst (λ ls. AreAllMarked rows marks ls) c.lists-lists.ensures
    c.in-Ok-mark_all.ensures.ok in
    nothing_strange rows lists (dealt rows marks lists all c.mark_all.ensures.length c.requires)
