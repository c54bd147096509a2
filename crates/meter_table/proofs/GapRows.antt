-- The gaps with one row more, by the reply to it.
use Rattle.std.proofs.Common.{◌≡◌, ℕ, Option, Some, Result, Ok, Err, ap, sym, ◌∙◌}
use Rattle.site_base.specs.declared.answer.Answer.{Answer}
use Rattle.site_base.specs.declared.refusal.Refusal.{Refusal}
use Rattle.site_base.specs.declared.row.Row.{Row}
use Rattle.meters.specs.Nozzles.{reading_of}
use Rattle.written_site.specs.SiteChecks.{first_refusal}
use Rattle.written_site.specs.SiteState.{SiteState}
use Rattle.written_site.specs.SiteStep.{reply_to}
use Rattle.row_tally.specs.Readings.{reading_told, refusal_told}
use Rattle.row_tally.specs.declared.meter_reading.MeterReading.{MeterReading}
use Rattle.row_tally.specs.declared.refused_run.RowPlace.{RowPlace}
use Rattle.meter_table.specs.Gaps.{Gaps, gaps_accepted, gaps_read, gaps_refused, gaps_told}
use Rattle.meter_table.specs.Gaps.{gaps_with}
use Rattle.meter_table.proofs.OneRow.{refusal_is}

gaps_by : (place : RowPlace) (s : SiteState) (r : Row) (g : Gaps) (x : MeterReading) (old : ℕ)
    (reply : Result Answer Refusal) → reading_told r.event ≡ Some x
    → old ≡ reading_of x.point x.nozzle s.nozzles → reply ≡ reply_to s r.actor r.event
    → gaps_with place s r g ≡ gaps_read place old r x (refusal_told reply) g
gaps_by place s r g x old reply told reads replies =
    ap (λ (o : Option MeterReading). gaps_told place s r o g) told
    ∙ ap (λ (k : ℕ). gaps_read place k r x (first_refusal s r.actor r.event) g) (sym reads)
    ∙ ap (λ (o : Option Refusal). gaps_read place old r x o g)
    (sym (refusal_is s r.actor r.event) ∙ ap refusal_told (sym replies))

pub gaps_once_accepted : (place : RowPlace) (s : SiteState) (r : Row) (g : Gaps)
    (x : MeterReading) (old : ℕ) (answer : Answer) → reading_told r.event ≡ Some x
    → old ≡ reading_of x.point x.nozzle s.nozzles → Ok answer ≡ reply_to s r.actor r.event
    → gaps_accepted place old r x g ≡ gaps_with place s r g
gaps_once_accepted place s r g x old answer told reads replies =
    sym (gaps_by place s r g x old (Ok answer) told reads replies)

pub gaps_once_refused : (place : RowPlace) (s : SiteState) (r : Row) (g : Gaps)
    (x : MeterReading) (old : ℕ) (refusal : Refusal) → reading_told r.event ≡ Some x
    → old ≡ reading_of x.point x.nozzle s.nozzles → Err refusal ≡ reply_to s r.actor r.event
    → gaps_refused place old refusal x g ≡ gaps_with place s r g
gaps_once_refused place s r g x old refusal told reads replies =
    sym (gaps_by place s r g x old (Err refusal) told reads replies)
