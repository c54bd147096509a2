use Rattle.std.proofs.Common.{codes, refl}
use Rattle.meter_table.specs.People.{litres}
use Rattle.meter_table.specs.ReportLines.{jump_line, nozzle_words}
use Rattle.meter_table.proofs.Pieces.{put_then}
use Rattle.meter_table.proofs.report_lines.put_jump.Goals as goal

pub returns : goal.returns
unfolding jump_line
returns c =
    let config = c.args.config.now in
    let x = c.args.x.now in
    put_then _ c.args.text.now.items (codes "meter replaced: ") _ _ _ _
    c.in_ok-put_words.ensures
    (put_then _ c.put_words.new.text.items (nozzle_words config x.point x.nozzle) _ _ _ _
    c.in_ok-put_nozzle.ensures
    (put_then _ c.put_nozzle.new.text.items (codes ": the old one read ") _ _ _ _
    c.in_ok-put_words-2.ensures
    (put_then _ c.put_words-2.new.text.items (litres x.old) _ _ _ _
    c.in_ok-put_reading.ensures
    (put_then _ c.put_reading.new.text.items (codes ", the new one began at ") _ _ _ _
    c.in_ok-put_words-3.ensures
    (put_then _ c.put_words-3.new.text.items (litres x.new) _ _ _ _
    c.in_ok-put_reading-2.ensures
    c.put_difference.ensures refl) refl) refl) refl) refl) refl
