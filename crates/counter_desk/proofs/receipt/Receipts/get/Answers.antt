use Rattle.std.proofs.Common.{◌≡◌, ◌<◌, ◌≤◌, get_or, length, slice_get, ap, subst, sym, ◌∙◌}
use Rattle.counter_desk.proofs.KeptReceipts.{no_place, no_row, there}
use Rattle.counter_desk.proofs.receipt.Receipts.get.Goals as goal

pub returns-in_err-place : goal.returns-in_err-place
returns-in_err-place c =
    let inside = c.self.inside in
    let beyond = subst (λ places. length places ≤ c.args.index) c.deref.ensures.value
    c.in_err-place.ensures.lookup.3 in
    c.from_residual.ensures
    ∙ sym (no_place inside.places.items inside.rows.rows c.args.index beyond)
    ∙ ap (λ list. slice_get list.receipts c.args.index) c.self.view_is

pub returns-in_err-row : goal.returns-in_err-row
returns-in_err-row c =
    let inside = c.self.inside in
    c.from_residual-in_err-row.ensures
    ∙ sym (no_row inside.places.items inside.rows.rows c.args.index (sym c.in_err-row.ensures))
    ∙ ap (λ list. slice_get list.receipts c.args.index) c.self.view_is

pub returns : goal.returns
returns c =
    let inside = c.self.inside in
    let place = c.in_ok-place.place.now in
    let found = c.in_ok-place.ensures.lookup.3 in
    let within = subst (λ places. c.args.index < length places) c.deref.ensures.value found.0 in
    let is = subst (λ places. place ≡ get_or places c.args.index place) c.deref.ensures.value
    (found.1 place) in
    sym (there inside.places.items inside.rows.rows c.args.index place c.in_ok-row.field-0 within
    is (sym c.in_ok-row.ensures))
    ∙ ap (λ list. slice_get list.receipts c.args.index) c.self.view_is
