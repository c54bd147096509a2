use Rattle.std.proofs.Common.{◌≡◌, ◌+◌, ◌-◌, ◌<◌, ◌≤◌, ◌++◌, ap, arith, length, sym, subst}
use Rattle.std.proofs.Common.{take, ◌∙◌}
use Rattle.std.proofs.lemmas.List.{take-append-le, take_all}
use Rattle.row_json.specs.LastRows.{line_at, line_if, lines_from}
use Rattle.row_feed.specs.declared.sizes.TheConstants.{FEED_OCTETS}
use Rattle.row_feed.specs.Feeds.{AreMade, joined}
use Rattle.row_feed.proofs.MadeLines.{all_made, cut_made, one_more}
use Rattle.row_feed.proofs.feed.put_lines.Goals as goal

pub loop-number-preserved : goal.loop-number-preserved
loop-number-preserved c =
    let order = c.loop-number.auto.number in
    let there = c.requires.there in
    let few = c.next-number-end.ensures.few in
    let end : c.next-number-end.result ≡ c.args.rows.now.next = c.next-number-end.ensures.next in
    let more : c.loop-number.number < c.args.rows.now.next =
    omega (arith, end, c.loop-number-test.true) in
    let count : (c.loop-number.number - c.args.from) + 1
    ≡ (c.loop-number.number + 1) - c.args.from = omega (arith, order) in
    let size : c.len.result ≡ length c.put_line.new.text.items =
    c.len.ensures ∙ c.put_line.new.text.ok.0 in (
      c.in_ok-put_line.ensures.line
          ∙ ap (λ t. t ++ line_if (line_at c.args.rows.now c.loop-number.number))
          c.loop-number.invariant.0
          ∙ sym (one_more c.args.rows.now c.args.from c.loop-number.number few there order more)
          ∙ ap (λ k. joined (take k (lines_from c.args.from c.args.rows.now))) count,
      subst (λ n. n ≤ FEED_OCTETS) size c.if-len-gt-FEED_OCTETS.false,
    )

pub returns-then-len-gt-FEED_OCTETS-clause-made : goal.returns-then-len-gt-FEED_OCTETS-clause-made
returns-then-len-gt-FEED_OCTETS-clause-made c =
    let before = c.loop-number.text.items in
    let line = line_if (line_at c.args.rows.now c.loop-number.number) in
    let end : c.next-number-end.result ≡ c.args.rows.now.next = c.next-number-end.ensures.next in
    let more : c.loop-number.number < c.args.rows.now.next =
    omega (arith, end, c.loop-number-test.true) in
    let was : c.len-whole.result ≡ length c.loop-number.text.items =
    c.len-whole.ensures ∙ c.loop-number.text.ok.0 in
    let size : c.len.result ≡ length c.put_line.new.text.items =
    c.len.ensures ∙ c.put_line.new.text.ok.0 in
    let whole : length c.loop-number.text.items ≤ length c.loop-number.text.items = omega arith in
    let back = c.truncate.ensures.items
    ∙ ap (λ k. take k c.put_line.new.text.items) was
    ∙ ap (λ t. take (length before) t) c.in_ok-put_line.ensures.line
    ∙ take-append-le (length before) before line whole
    ∙ take_all (length before) before whole in
    subst (λ t. AreMade (lines_from c.args.from c.args.rows.now)
    (c.loop-number.number - c.args.from) t) (sym back)
    (cut_made c.args.rows.now c.args.from c.loop-number.number before c.put_line.new.text.items
    c.next-number-end.ensures.few c.requires.there c.loop-number.auto.number more
    c.loop-number.invariant.0 c.loop-number.invariant.1 c.in_ok-put_line.ensures.line
    (subst (λ n. FEED_OCTETS < n) size c.if-len-gt-FEED_OCTETS.true))

pub returns-then-from-next-clause-made : goal.returns-then-from-next-clause-made
returns-then-from-next-clause-made c =
    let last : c.next-next.result ≡ c.args.rows.now.next = c.next-next.ensures.next in
    let end : c.next-number-end.result ≡ c.args.rows.now.next = c.next-number-end.ensures.next in
    let far : c.args.rows.now.next ≤ c.loop-number.number =
    omega (arith, end, c.loop-number-test.false) in
    all_made c.args.rows.now c.args.from c.loop-number.number (c.next-next.result - c.args.from)
    c.loop-number.text.items c.next-number-end.ensures.few c.requires.there far
    c.loop-number.invariant.0 c.loop-number.invariant.1 (ap (λ n. n - c.args.from) last)

pub returns-else-from-next-clause-made : goal.returns-else-from-next-clause-made
returns-else-from-next-clause-made c =
    let last : c.next-next.result ≡ c.args.rows.now.next = c.next-next.ensures.next in
    let end : c.next-number-end.result ≡ c.args.rows.now.next = c.next-number-end.ensures.next in
    let far : c.args.rows.now.next ≤ c.loop-number.number =
    omega (arith, end, c.loop-number-test.false) in
    let none : c.args.from - c.args.from ≡ c.args.rows.now.next - c.args.from =
    omega (arith, last, c.if-from-next.false) in
    all_made c.args.rows.now c.args.from c.loop-number.number (c.args.from - c.args.from)
    c.loop-number.text.items c.next-number-end.ensures.few c.requires.there far
    c.loop-number.invariant.0 c.loop-number.invariant.1 none
