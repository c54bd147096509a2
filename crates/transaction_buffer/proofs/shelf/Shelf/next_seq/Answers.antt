use Rattle.std.proofs.Common.{◌≡◌, ◌+◌, ◌-◌, get_or, sym, ap, ◌∙◌}
use Rattle.transaction_buffer.specs.declared.span.Span.{Span}
use Rattle.transaction_buffer.specs.Sales.{made_in}
use Rattle.transaction_buffer.specs.Shelves.{no_span}
use Rattle.transaction_buffer.proofs.Spans.{made_counts}
use Rattle.transaction_buffer.proofs.Numbers.{next_is}
use Rattle.transaction_buffer.proofs.shelf.Shelf.next_seq.Goals as goal

pub returns : goal.returns
returns c =
    let xs = c.self.inside.sales.items in
    let span : c.span_of-span.result ≡ get_or c.self.inside.spans.items (c.args.shift - 1) no_span =
    c.span_of-span.ensures.span ∙ ap (λ ys. get_or ys (c.args.shift - 1) no_span)
    c.deref.ensures.value in
    let range = c.span_of-span.ensures.range in
    let made : c.span_of-span.result.count ≡ made_in c.args.shift xs =
    ap (λ (s : Span). s.count) span
    ∙ (c.self.invariant.spans c.args.shift range.0 range.1).counts
    ∙ sym (made_counts c.args.shift xs) in
    rw (← c.self.view_is) (next_is c.new.result (c.span_of-span.result.count + 1)
    (made_in c.args.shift xs)
    (ap (λ n. n + 1) made) c.new.ensures.valid c.new.ensures.value)
