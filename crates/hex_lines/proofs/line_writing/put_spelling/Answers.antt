use Rattle.std.proofs.Common.{◌≡◌, ◌++◌, ◌∙◌, ◌+◌, ◌-◌, ◌*◌, List, ℕ, length, take, drop, ap, arith}
use Rattle.std.proofs.Common.{length-append}
use Rattle.std.proofs.Math.Seq.{drop-append_seam}
use Rattle.std.proofs.lemmas.List.{take_all, length-replicate}
use Rattle.std.specs.Prelude.{replicate}
use Rattle.hex_lines.proofs.line_writing.put_spelling.Goals as goal

-- the place is what was added
pub spell-requires-clause-place : goal.spell-requires-clause-place
spell-requires-clause-place c =
    let old : List ℕ = c.args.out.now.items in
    let more : ℕ = 2 * (length c.args.head.now + length c.args.body.now) + 1 in
    let feeds : List ℕ = replicate more 10 in
    let whole : c.deref_mut.result.now ≡ old ++ feeds =
    c.deref_mut.ensures.value ∙ c.in_ok-put_line_feeds.ensures in
    let place : drop c.len-size.result c.deref_mut.result.now ≡ feeds =
    ap (drop c.len-size.result) whole
    ∙ ap (λ n. drop n (old ++ feeds)) (let is : c.len-size.result ≡ length old = omega arith in is)
    ∙ drop-append_seam old feeds in
    let count : length feeds ≡ more = length-replicate {A = ℕ} more 10 in
    ap (take (length c.deref_mut.result.now - c.len-size.result)) place
    ∙ take_all (length c.deref_mut.result.now - c.len-size.result) feeds
    (omega (arith, ap length whole, length-append old feeds, count))
