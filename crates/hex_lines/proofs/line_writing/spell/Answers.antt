use Rattle.std.proofs.Common.{◌≡◌, ◌∷◌, [], ◌∙◌, ◌+◌, ◌-◌, ◌*◌, List, ℕ, length, drop, ap}
use Rattle.std.proofs.Common.{append_assoc, sym, arith}
use Rattle.std.proofs.lemmas.List.{drop-replicate}
use Rattle.std.specs.Prelude.{replicate}
use Rattle.hex.specs.Hex.{encode_lower, lower_digits}
use Rattle.hex_lines.proofs.Hexadecimal.{spelled_in_parts}
use Rattle.hex_lines.proofs.line_writing.spell.Goals as goal

pub returns : goal.returns
returns c =
    let head : List ℕ = encode_lower c.args.head.now in
    let body : List ℕ = encode_lower c.args.body.now in
    let one : ℕ = 2 * length c.args.head.now in
    let other : ℕ = 2 * length c.args.body.now in
    let all : ℕ = 2 * (length c.args.head.now + length c.args.body.now) + 1 in
    let last : c.split_at_mut-second.result.1.now ≡ 10 ∷ [] =
    c.split_at_mut-second.ensures.back ∙ ap (drop other) c.split_at_mut-first.ensures.back
    ∙ ap (λ (xs : List ℕ). drop other (drop one xs)) c.requires.place
    ∙ ap (drop other) (drop-replicate one all 10) ∙ drop-replicate other (all - one) 10
    ∙ ap (λ n. replicate n 10) (let left : all - one - other ≡ 1 = omega arith in left) in
    rw (
      c.write_digits.ensures,
      c.put_digits.ensures,
      last,
      spelled_in_parts lower_digits c.args.head.now c.args.body.now,
    ) (sym (append_assoc head body (10 ∷ [])))
