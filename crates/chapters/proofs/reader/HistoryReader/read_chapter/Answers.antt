use Rattle.std.proofs.Common.{subst}
use Rattle.chapters.proofs.ReadingChapters.{ReadsChapter, named_behind, reads_next}
use Rattle.chapters.proofs.reader.HistoryReader.read_chapter.Goals as goal

pub returns-in-Err-next_row-clause-named : goal.returns-in-Err-next_row-clause-named
returns-in-Err-next_row-clause-named c = λ of_text texts h.
    let i = c.loop-is_left.invariant.reads texts h in
    named_behind texts c.args.text.now c.loop-is_left.rest.now c.args.self.now c.loop-is_left.self
    c.in-Err-next_row.fault h i c.loop-is_left.invariant.site
    (c.in-Err-next_row.ensures.named of_text texts c.args.text.now i)

pub loop-is_left-preserved : goal.loop-is_left-preserved
loop-is_left-preserved c =
    let read = c.in-Ok-next_row.ensures in
    let so = subst (λ left. ReadsChapter c.args.text.now c.loop-is_left.rest.now left
    c.args.self.now c.loop-is_left.self) c.loop-is_left-test.true c.loop-is_left.invariant in
    reads_next c.args.text.now c.loop-is_left.rest.now c.split_at.result.1.now
    c.in-Ok-next_row.read.octets c.is_some-is_left.result c.in-Ok-next_row.read.row
    c.args.self.now c.loop-is_left.self c.next_row.new.self so c.split_at.ensures.back
    c.is_some-is_left.ensures read.within read.whole read.reads read.ends read.last
    c.next_row.ensures.site c.next_row.ensures.config c.next_row.ensures.chapters
    c.next_row.ensures.begins
