use Rattle.std.proofs.Common.{◌≡◌, Some, Result, Ok, Err, OnOk, false, refl, ap, ◌∙◌}
use Rattle.std.proofs.lemmas.Result.{err_from_is_err_and}
use Rattle.site_book.specs.Book.{Book}
use Rattle.forecourt_engines.specs.declared.fault.ReplayFault.{ReplayFault}
use Rattle.forecourt_engines.specs.Replay.{is_early}
use Rattle.forecourt_engines.specs.Reporting.{opening_state}
use Rattle.forecourt_engines.specs.Text.{start}
use Rattle.forecourt_engines.proofs.Reports.{reports_unopened, reports_early, reports, config_there}
use Rattle.forecourt_engines.proofs.reporting.replay_to_report.Goals as goal

then_on_ok : {X E : Type 0} (P Q : Type 0) (r : Result X E) → (P → Q) → OnOk r P → OnOk r Q
then_on_ok P Q (Ok x) f p = f p
then_on_ok P Q (Err e) f p = p

pub returns-in_err-book-clause-told : goal.returns-in_err-book-clause-told
returns-in_err-book-clause-told g c =
    let p = err_from_is_err_and c.from_residual.result c.from_residual.ensures.1 in
    rw p.1 (reports_unopened _ _ _ _ _ (ap (λ (f : ReplayFault). is_early (Some f)) p.2))

pub put_report-requires : goal.put_report-requires
put_report-requires g c =
    let begins : c.new-engine.result ≡ opening_state c.args.config.now =
    c.new-engine.ensures
    ∙ ap (λ (b : Book). start (record { book = b; changes = false })) c.in_ok-book.ensures in
    let there = config_there _ _ _ _ _ _ _ begins c.in-Ok.ensures.told in
    record {
      config = ap (λ (b : Book). b.config) c.into_book-book.ensures ∙ there.0;
      whole = ap (λ (b : Book). b.forgotten) c.into_book-book.ensures ∙ there.1;
    }

pub returns-in-Ok-clause-told : goal.returns-in-Ok-clause-told
returns-in-Ok-clause-told g c =
    let begins : c.new-engine.result ≡ opening_state c.args.config.now =
    c.new-engine.ensures
    ∙ ap (λ (b : Book). start (record { book = b; changes = false })) c.in_ok-book.ensures in
    reports _ _ _ _ _ _ _ _ _ _ begins c.in-Ok.ensures.told
    (rw c.into_book-book.ensures at c.put_report.ensures.told)

pub returns-in-Ok-clause-end : goal.returns-in-Ok-clause-end
returns-in-Ok-clause-end g c =
    then_on_ok _ _ c.put_report.result c.in-Ok.ensures.end c.put_report.ensures.end

pub returns-in-Ok-clause-unread : goal.returns-in-Ok-clause-unread
returns-in-Ok-clause-unread g c = λ fault is. absurd (c.put_report.ensures.reads_none fault is)

-- no more could be read, or there was no memory
pub returns-clause-told : goal.returns-clause-told
returns-clause-told g c =
    reports_early _ _ _ _ _ _ _ _ (c.in-Err.ensures.unwritten refl) c.in-Err.ensures.told
