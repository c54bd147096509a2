use Rattle.std.proofs.Common.{◌∙◌, suc, drop, take}
use Rattle.hex_lines.proofs.Bytes.{found, absent, behind_byte}
use Rattle.forecourt_engines.proofs.Lines.{line_by_line}
use Rattle.forecourt_engines.proofs.engine.Engine.feed.Goals as goal

pub end_line-requires : goal.end_line-requires
end_line-requires c =
    let at = found 10 c.loop-end.rest.now c.in-Some.end c.in-Some.ensures in
    rw c.split_at.ensures.front at.before

pub loop-end-preserved : goal.loop-end-preserved
loop-end-preserved c =
    let rest = c.loop-end.rest.now in
    let at = found 10 rest c.in-Some.end c.in-Some.ensures in
    let others = behind_byte rest c.in-Some.end at.within in
    let ended = rw c.split_at.ensures.front at c.in_ok-end_line.ensures in
    let on = line_by_line c.loop-end.self c.end_line.new.self rest (take c.in-Some.end rest)
    (drop (suc c.in-Some.end) rest) c.loop-end.out.items c.end_line.new.out.items ended.state
    ended.text at.parts in
    rw (c.split_at.ensures.back, others) (record {
      state = on.0 ∙ c.loop-end.invariant.state;
      text = on.1 ∙ c.loop-end.invariant.text;
    })

pub begin_line-requires : goal.begin_line-requires
begin_line-requires c = absent 10 c.loop-end.rest.now c.in_default.ensures
