use Rattle.std.proofs.Common.{◌≡◌, ◌+◌, ◌-◌, ◌<◌, length, get_or, sym, ap, subst, ◌∙◌, arith, rules}
use Rattle.transaction_buffer.specs.declared.span.Span.{Span}
use Rattle.transaction_buffer.specs.Shelves.{no_span, shifts_of, place_in, IsSpan}
use Rattle.transaction_buffer.proofs.Spans.{stands, no_place}
use Rattle.transaction_buffer.proofs.shelf.Shelf.find.Goals as goal
use Rattle.transaction_buffer.proofs.shelf.Shelf.find.Goals.{After-get-number}

-- the shift's span
its_span : (c : After-get-number)
    → IsSpan c.args.shift (shifts_of c.self.inside.sales.items) c.span_of-span.result
its_span c =
    let span : c.span_of-span.result ≡ get_or c.self.inside.spans.items (c.args.shift - 1) no_span =
    c.span_of-span.ensures.span ∙ ap (λ ys. get_or ys (c.args.shift - 1) no_span)
    c.deref.ensures.value in
    let range = c.span_of-span.ensures.range in
    subst (λ (s : Span). IsSpan c.args.shift (shifts_of c.self.inside.sales.items) s) (sym span)
    (c.self.invariant.spans c.args.shift range.0 range.1)

pub overflow_add-result : goal.overflow_add-result
overflow_add-result c =
    let xs = c.self.inside.sales.items in
    let span = its_span (goal.at.overflow_add-result c).After-get-number in
    let number : c.from.result - 1 < c.span_of-span.result.count = omega arith in
    let at = stands c.args.shift (c.from.result - 1 + 1) xs
    (c.span_of-span.result.first + (c.from.result - 1)) (span.places (c.from.result - 1) number) in
    let within : c.span_of-span.result.first + (c.from.result - 1) < length xs = at.within in
    search rules

pub returns-then-number-span : goal.returns-then-number-span
returns-then-number-span c =
    let span = its_span (goal.at.returns-then-number-span c).After-get-number in
    let number : c.from.result - 1 < c.span_of-span.result.count = omega arith in
    let back : c.from.result - 1 + 1 ≡ c.args.number = omega arith in
    rw (← c.self.view_is) (sym (span.places (c.from.result - 1) number)
    ∙ ap (λ n. place_in c.args.shift n (shifts_of c.self.inside.sales.items)) back)

pub returns-else-number-span : goal.returns-else-number-span
returns-else-number-span c =
    let span = its_span (goal.at.returns-else-number-span c).After-get-number in
    rw (← c.self.view_is) (sym (no_place c.args.shift c.args.number
    (shifts_of c.self.inside.sales.items) (omega (arith, span.counts))))
