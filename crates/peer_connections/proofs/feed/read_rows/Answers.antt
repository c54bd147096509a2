use Rattle.std.proofs.Common.{arith, ◌≡◌, ◌∙◌, ◌<◌, Some, length, refl, sym}
use Rattle.std.specs.Prelude.{slice_get}
use Rattle.chapters.proofs.Rows.{there_is}
use Rattle.peer_connections.proofs.Feeding.{fed_begun, fed_more}
use Rattle.peer_connections.proofs.feed.read_rows.Goals as goal

pub loop-place-init : goal.loop-place-init
loop-place-init c = record {
  high = omega arith;
  rows = fed_begun c.args.time.now c.args.book.now.rows c.args.first c.args.fed.now.rows;
  starts = refl;
}

pub unreachable-requires : goal.unreachable-requires
unreachable-requires c =
    there_is c.args.book.now.rows c.loop-place.place
    (omega (arith, c.loop-place-test.true, c.len-place-end.ensures.rows))
    (sym (c.row.ensures.kept (omega (arith, c.requires.each, c.loop-place.invariant.high)))
    ∙ c.in_default.is)

pub loop-place-preserved : goal.loop-place-preserved
loop-place-preserved c =
    let there : slice_get c.args.book.now.rows c.loop-place.place ≡ Some c.in-Some.row =
    sym (c.row.ensures.kept (omega (arith, c.requires.each, c.loop-place.invariant.high)))
    ∙ c.in-Some.is in
    let within : c.loop-place.place < length c.args.book.now.rows =
    omega (arith, c.loop-place-test.true, c.len-place-end.ensures.rows) in
    record {
      high = omega (arith, c.loop-place.invariant.high);
      rows = fed_more c.args.time.now c.args.book.now.rows c.args.first c.loop-place.place
          c.in-Some.row c.args.fed.now.rows c.loop-place.fed.rows c.read.new.self.rows
          c.loop-place.invariant.high within there c.loop-place.invariant.rows
          c.in_ok-read.ensures.rows;
      starts = c.read.ensures.starts ∙ c.loop-place.invariant.starts;
    }
