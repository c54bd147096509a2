use Rattle.std.proofs.Common.{◌≡◌, ◌+◌, ◌∙◌, arith, drop, length, suc, sym, take}
use Rattle.std.proofs.lemmas.List.{length-drop}
use Rattle.hex_lines.proofs.Bytes.{absent, behind_byte, found}
use Rattle.chapters.specs.Lines.{whole_lines}
use Rattle.history_folder.specs.SealPlaces.{line_number}
use Rattle.history_folder.proofs.Lines.{is_another, is_this, none_left}
use Rattle.history_folder.proofs.seal_search.find_line.Goals as goal

pub loop-end-preserved : goal.loop-end-preserved
loop-end-preserved c =
    let rest = c.loop-end.rest.now in
    let at = found 10 rest c.in-Some.end c.in-Some.ensures in
    let others = behind_byte rest c.in-Some.end at.within in
    let next = is_another c.args.wanted.now rest (take c.in-Some.end rest)
    (drop (suc c.in-Some.end) rest) (c.loop-end.number + 1) at.before at.parts
    (rw (sym c.split_at.ensures.front) (sym c.if-is_same.ensures)) in
    rw (c.split_at.ensures.back, others) (record {
      search = c.loop-end.invariant.search ∙ next;
      few = omega (
        arith,
        c.loop-end.invariant.few,
        at.within,
        length-drop (suc c.in-Some.end) rest,
      );
    })

pub returns-then-is_same : goal.returns-then-is_same
returns-then-is_same c =
    let rest = c.loop-end.rest.now in
    let at = found 10 rest c.in-Some.end c.in-Some.ensures in
    sym (c.loop-end.invariant.search
    ∙ is_this c.args.wanted.now rest (take c.in-Some.end rest) (drop (suc c.in-Some.end) rest)
    (c.loop-end.number + 1) at.before at.parts
    (rw (sym c.split_at.ensures.front) (sym c.if-is_same.ensures)))

pub returns : goal.returns
returns c =
    sym (c.loop-end.invariant.search
    ∙ none_left c.args.wanted.now c.loop-end.rest.now (c.loop-end.number + 1)
    (absent 10 c.loop-end.rest.now c.in_default.ensures))
