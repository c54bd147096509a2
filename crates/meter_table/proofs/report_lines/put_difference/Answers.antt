use Rattle.std.proofs.Common.{codes, refl}
use Rattle.meter_table.specs.People.{litres_up}
use Rattle.meter_table.specs.ReportLines.{difference_words}
use Rattle.meter_table.proofs.Pieces.{put_then}
use Rattle.meter_table.proofs.report_lines.put_difference.Goals as goal

pub returns : goal.returns
unfolding difference_words
returns c =
    put_then _ c.args.text.now.items (codes ", difference ") _ _ _ _ c.in_ok-put_words.ensures
    (put_then _ c.put_words.new.text.items (litres_up c.args.up c.args.down) _ _ _ _
    c.in_ok-put_step.ensures
    c.put_words-2.ensures refl) refl
