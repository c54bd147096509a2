use Rattle.std.proofs.Common.{codes, refl}
use Rattle.meter_table.specs.People.{litres}
use Rattle.meter_table.specs.ReportLines.{nozzle_words, open_line}
use Rattle.meter_table.proofs.Pieces.{put_then}
use Rattle.meter_table.proofs.report_lines.put_run.Goals as goal

pub returns : goal.returns
unfolding open_line
returns c =
    let config = c.args.config.now in
    let x = c.args.x.now in
    put_then _ c.args.text.now.items (codes "open gap: ") _ _ _ _
    c.in_ok-put_words.ensures
    (put_then _ c.put_words.new.text.items (nozzle_words config x.point x.nozzle) _ _ _ _
    c.in_ok-put_nozzle.ensures
    (put_then _ c.put_nozzle.new.text.items (codes ": ") _ _ _ _
    c.in_ok-put_words-2.ensures
    (put_then _ c.put_words-2.new.text.items (litres x.expected) _ _ _ _
    c.in_ok-put_reading.ensures
    (put_then _ c.put_reading.new.text.items (codes " expected, ") _ _ _ _
    c.in_ok-put_words-3.ensures
    (put_then _ c.put_words-3.new.text.items (litres x.reported) _ _ _ _
    c.in_ok-put_reading-2.ensures
    (put_then _ c.put_reading-2.new.text.items (codes " reported") _ _ _ _
    c.in_ok-put_words-4.ensures
    c.put_difference.ensures refl) refl) refl) refl) refl) refl) refl
