use Rattle.std.proofs.Common.{◌≡◌, ◌≤◌, ◌++◌, ◌∙◌, ◌+◌, ◌-◌, List, ℕ, length, take, ap, arith, sym}
use Rattle.std.proofs.Common.{append_assoc, length-append}
use Rattle.std.proofs.lemmas.List.{length-replicate, replicate-append-replicate, take_at}
use Rattle.std.specs.Prelude.{replicate}
use Rattle.hex_lines.proofs.line_writing.put_line_feeds.Goals as goal

-- of more line feeds than are needed, what is too much is cut off
feeds_kept : (old : List ℕ) (count most n : ℕ) → count ≤ most → n ≡ length old + count
    → take n (old ++ replicate most 10) ≡ old ++ replicate count 10
feeds_kept old count most n few at =
    let kept : List ℕ = old ++ replicate count 10 in
    let all : count + (most - count) ≡ most = omega arith in
    let size : length kept ≡ n =
    length-append old (replicate count 10)
    ∙ ap (λ m. length old + m) (length-replicate {A = ℕ} count 10) ∙ sym at in
    ap (λ m. take n (old ++ replicate m 10)) (sym all)
    ∙ ap (λ (xs : List ℕ). take n (old ++ xs))
    (sym (replicate-append-replicate count (most - count) 10))
    ∙ ap (take n) (sym (append_assoc old (replicate count 10) (replicate (most - count) 10)))
    ∙ take_at kept (replicate (most - count) 10) n size

pub returns-in_ok-extend_from_slice : goal.returns-in_ok-extend_from_slice
returns-in_ok-extend_from_slice c =
    c.truncate.ensures.items
    ∙ ap (take (c.len-size.result + c.args.count)) c.in_ok-extend_from_slice.ensures.items
    ∙ feeds_kept c.args.out.now.items c.args.count 128 _ (omega arith) (omega arith)
