use Rattle.std.proofs.Common.{arith, [], ◌∷◌, ◌≡◌, ◌∙◌, ◌<◌, Some, length, sym}
use Rattle.std.specs.Prelude.{slice_get}
use Rattle.kept_history.specs.KeptRows.{kept_rows}
use Rattle.chapters.specs.RowText.{IsSent}
use Rattle.chapters.proofs.Rounds.{first_more, first_none}
use Rattle.chapters.proofs.Rows.{each_at, kept_more, none_yet, there_is}
use Rattle.chapters.proofs.history_end.HistoryEnd.put_rows.Goals as goal

pub loop-place-init : goal.loop-place-init
loop-place-init c = record {
  high = omega arith;
  first = first_none c.args.now _ c.args.self.now c.clear.new.self.items
      (none_yet c.args.book.now.rows c.args.from) c.clear.ensures.items;
  few = λ few. few;
}

pub unreachable-requires : goal.unreachable-requires
unreachable-requires c =
    there_is c.args.book.now.rows c.loop-place.place
    (omega (arith, c.loop-place-test.true, c.len-place-end.ensures.rows))
    (sym (c.row.ensures.kept (omega (arith, c.requires.memory, c.loop-place.invariant.high)))
    ∙ c.in_default.is)

pub put_kept-requires : goal.put_kept-requires
put_kept-requires c =
    let there : slice_get c.args.book.now.rows c.loop-place.place ≡ Some c.in-Some.row =
    sym (c.row.ensures.kept (omega (arith, c.requires.memory, c.loop-place.invariant.high)))
    ∙ c.in-Some.is in
    each_at IsSent c.args.book.now.rows c.loop-place.place c.in-Some.row c.requires.sent there

pub loop-place-preserved : goal.loop-place-preserved
loop-place-preserved c =
    let there : slice_get c.args.book.now.rows c.loop-place.place ≡ Some c.in-Some.row =
    sym (c.row.ensures.kept (omega (arith, c.requires.memory, c.loop-place.invariant.high)))
    ∙ c.in-Some.is in
    let within : c.loop-place.place < length c.args.book.now.rows =
    omega (arith, c.loop-place-test.true, c.len-place-end.ensures.rows) in
    let more = c.in_ok-put_kept.ensures in
    record {
      high = omega (arith, c.loop-place.invariant.high);
      first = first_more c.args.now _ (kept_rows (c.in-Some.row ∷ [])) _ c.args.self.now
          c.loop-place.self c.put_kept.new.self c.loop-place.text.items
          c.put_kept.new.text.items c.loop-place.invariant.first more.written more.spelled
          more.time more.first more.size more.none more.still c.put_kept.ensures.count
          (kept_more c.args.book.now.rows c.args.from c.loop-place.place c.in-Some.row
          c.loop-place.invariant.high within there);
      few = λ few. more.few (c.loop-place.invariant.few few);
    }
