use Rattle.std.proofs.Common.{◌≡◌, ◌≤◌, ◌+◌, ◌-◌, ◌∷◌, [], List, ◌++◌, length, get_or}
use Rattle.std.proofs.Common.{if◌then◌else◌, vec_len, vec_capacity, sym, ap, subst, ◌∙◌, arith}
use Rattle.std.proofs.Math.ListN.{set}
use Rattle.std.proofs.lemmas.List.{length-map, length-set, get_or_default}
use Rattle.site_base.specs.declared.numbers.TheConstants.{GREATEST_SHIFT}
use Rattle.transaction_buffer.specs.declared.span.Span.{Span}
use Rattle.transaction_buffer.specs.Sales.{Sale, unpaid_among}
use Rattle.transaction_buffer.specs.Shelves.{AreSpans, shifts_of, no_span}
use Rattle.transaction_buffer.specs.Spans.{with_one_more}
use Rattle.transaction_buffer.proofs.Spans.{made_counts, shifts_pushed, spans_grown, room_full}
use Rattle.transaction_buffer.specs.UnpaidPlaces.{AreUnpaid, place_with, place_kept}
use Rattle.transaction_buffer.proofs.Unpaid.{unpaid_push}
use Rattle.transaction_buffer.proofs.PlacesUnpaid.{places_sold}
use Rattle.transaction_buffer.proofs.shelf.Shelf.push.Goals as goal
use Rattle.transaction_buffer.proofs.shelf.Shelf.push.Goals.{After-index-span}

full : (c : After-index-span) → length c.self.inside.spans.items ≡ GREATEST_SHIFT
full c =
    let requires = rw (← c.self.view_is) at c.requires in
    let count = room_full (vec_len c.self.inside.spans)
    (vec_capacity c.self.inside.sales - vec_len c.self.inside.sales) requires.room in
    omega (arith, count)

its_span : (c : After-index-span)
    → c.index-span.result.now ≡ get_or c.self.inside.spans.items (c.from-cell.result - 1) no_span
its_span c =
    let cells = full c in
    c.index-span.ensures ∙ get_or_default c.self.inside.spans.items (c.from-cell.result - 1) _
    no_span
    (omega (arith, cells))

pub with_one_more-requires : goal.with_one_more-requires
with_one_more-requires c =
    let d = (goal.at.with_one_more-requires c).After-index-span in
    let requires = rw (← c.self.view_is) at c.requires in
    let g = c.args.sale.shift in
    let span = c.self.invariant.spans g (omega arith) (omega arith) in
    let cell : g - 1 ≡ c.from-cell.result - 1 = omega arith in
    let is : c.index-span.result.now.count
    ≡ (get_or c.self.inside.spans.items (g - 1) no_span).count =
    ap (λ (s : Span). s.count) (its_span d)
    ∙ ap (λ n. (get_or c.self.inside.spans.items n no_span).count) (sym cell) in
    omega (arith, is, span.counts, made_counts g c.self.inside.sales.items, requires.number)

pub invariant_of-self : goal.invariant_of-self
invariant_of-self c =
    let d = (goal.at.invariant_of-self c).After-index-span in
    let xs : List Sale = c.self.inside.sales.items in
    let cells : List Span = c.self.inside.spans.items in
    let x = c.args.sale in
    let i = c.from-cell.result - 1 in
    let requires = rw (← c.self.view_is) at c.requires in
    let whole : length cells ≡ GREATEST_SHIFT = full d in
    let count : length (shifts_of xs) ≡ length xs = length-map xs (λ (y : Sale). y.shift) in
    let span : c.with_one_more.result
    ≡ with_one_more (get_or cells i no_span) (length (shifts_of xs)) =
    c.with_one_more.ensures ∙ ap (λ s. with_one_more s c.len-place.result) (its_span d)
    ∙ ap (λ n. with_one_more (get_or cells i no_span) n) (omega (arith, count)) in
    let spans = spans_grown (shifts_of xs) x.shift requires.order (omega arith) cells i
    (omega arith)
    (omega (arith, whole)) (omega (arith, made_counts x.shift xs, requires.number))
    c.self.invariant.spans in
    let as_many : length (set cells i c.with_one_more.result) ≡ length cells =
    length-set cells i c.with_one_more.result in
    let place : c.len-place.result ≡ length xs = omega arith in
    let unpaid : unpaid_among (xs ++ x ∷ []) ≤ unpaid_among xs + 1 = unpaid_push xs x in
    rw c.push_reserved.ensures.items (record {
      unpaid = omega (arith, requires.unpaid, unpaid);
      places = subst (λ a. AreUnpaid (xs ++ x ∷ []) a c.after_sale-self-inside.result.other)
          (sym (c.after_sale-self-inside.ensures.one ∙ ap (λ n. if c.is_unpaid.result then
          place_with c.self.inside.unpaid.one n else c.self.inside.unpaid.one) place))
          (subst (λ b. AreUnpaid (xs ++ x ∷ []) (if c.is_unpaid.result then
          place_with c.self.inside.unpaid.one (length xs) else c.self.inside.unpaid.one) b)
          (sym (c.after_sale-self-inside.ensures.other ∙ ap (λ n. if c.is_unpaid.result then
          place_kept c.self.inside.unpaid.one c.self.inside.unpaid.other n
          else c.self.inside.unpaid.other) place))
          (places_sold xs x c.self.inside.unpaid.one c.self.inside.unpaid.other
          c.self.invariant.places requires.unpaid c.is_unpaid.result c.is_unpaid.ensures));
      few = omega (arith, as_many, whole);
      spans = subst (λ s. AreSpans (shifts_of (xs ++ x ∷ [])) (set cells i s)) (sym span)
          (subst (λ gs. AreSpans gs (set cells i
          (with_one_more (get_or cells i no_span) (length (shifts_of xs)))))
          (sym (shifts_pushed xs x)) spans);
    })
