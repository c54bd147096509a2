use Rattle.std.proofs.Common.{◌++◌, ◌∙◌, ap, rules, subst}
use Rattle.device_map.specs.Laws.{AsksFor}
use Rattle.device_map.proofs.OneRequest.{alone}
use Rattle.hex_lines.specs.Lines.{line_of}
use Rattle.chapters.proofs.row_line.put_row_line.Goals as goal

pub returns-clause-line : goal.returns-clause-line
returns-clause-line c =
    let row = c.args.row.now in
    let asks : AsksFor 0 row.actor row.event c.in-Some.request = search rules in
    c.in_ok-put_line.ensures
    ∙ ap (λ m. c.args.text.now.items ++ line_of m)
    (alone 0 row.actor row.event c.in-Some.request asks)

pub returns-clause-asks : goal.returns-clause-asks
returns-clause-asks c =
    let row = c.args.row.now in
    let asks : AsksFor 0 row.actor row.event c.in-Some.request = search rules in
    subst (λ m. AsksFor 0 row.actor row.event m)
    (alone 0 row.actor row.event c.in-Some.request asks) asks
