use Rattle.std.proofs.Common.{◌∙◌, ℕ, List, Option, ap, false, subst, sym, take}
use Rattle.journal.specs.Disks.{DiskFile, IsUntouched, OfFile, OfFiles}
use Rattle.journal.specs.declared.recovery.OpenFault.{OpenFault}
use Rattle.journal.specs.Faults.{NamesIn}
use Rattle.journal.specs.Recovering.{IsReadIn, StandsFor, TellsNothingIn}
use Rattle.journal.specs.Stored.{HoldsRows}
use Rattle.journal.proofs.Recovering.{holds_read_in, lines_stay_in, names_in, read_in}
use Rattle.journal.proofs.Recovering.{rows_kept_in, rows_sent_in, rows_spelled_in, tells_nothing}
use Rattle.journal.proofs.recovery.recover.Goals as goal

pub returns-in-Err-read_chapter-clause-refused : goal.returns-in-Err-read_chapter-clause-refused
returns-in-Err-read_chapter-clause-refused g c = λ of_text.
    let file = g.D.Disk.file c.args.disk.now in
    let s = c.read_closed.new.reader in
    let h = c.in-Ok.ensures.read in
    let stands = subst (λ (xs : List ℕ). OfFile (StandsFor s xs) file) (sym c.deref.ensures.value)
    (subst (λ (f : Option DiskFile). OfFile (StandsFor s c.in-Ok-read_open.octets.items) f)
    c.read_closed.ensures.stays c.in-Ok-read_open.ensures.octets) in
    let named = c.read_closed.ensures.site ∙ c.in_ok-reader.ensures.site in
    subst (λ (site : List ℕ). OfFile (TellsNothingIn site) file) named
    (tells_nothing file s c.deref.result.now h stands
    (c.in-Err-read_chapter.ensures.refused (c.refused.ensures.text of_text) h.texts h.has))

pub returns-in-Err-read_chapter-clause-named : goal.returns-in-Err-read_chapter-clause-named
returns-in-Err-read_chapter-clause-named g c = λ of_text.
    let file = g.D.Disk.file c.args.disk.now in
    let s = c.read_closed.new.reader in
    let h = c.in-Ok.ensures.read in
    let stands = subst (λ (xs : List ℕ). OfFile (StandsFor s xs) file) (sym c.deref.ensures.value)
    (subst (λ (f : Option DiskFile). OfFile (StandsFor s c.in-Ok-read_open.octets.items) f)
    c.read_closed.ensures.stays c.in-Ok-read_open.ensures.octets) in
    let named = c.read_closed.ensures.site ∙ c.in_ok-reader.ensures.site in
    subst (λ (site : List ℕ). OfFile (NamesIn site c.refused.result) file) named
    (subst (λ (fault : OpenFault). OfFile (NamesIn s.site fault) file)
    (sym (c.refused.ensures.same of_text))
    (names_in file s c.deref.result.now c.in-Err-read_chapter.fault h stands
    (c.in-Err-read_chapter.ensures.refused (c.refused.ensures.text of_text) h.texts h.has)
    (c.in-Err-read_chapter.ensures.named (c.refused.ensures.text of_text) h.texts h.has)))

pub returns-in-Ok-renew-clause-sent : goal.returns-in-Ok-renew-clause-sent
returns-in-Ok-renew-clause-sent g c =
    let h = c.in-Ok.ensures.read in
    rw c.into_read.ensures.book
    (rows_sent_in _ c.read_chapter.new.self (c.in-Ok-read_chapter.ensures.read h.texts h.has))

pub returns-in-Ok-renew-clause-kept : goal.returns-in-Ok-renew-clause-kept
returns-in-Ok-renew-clause-kept g c =
    let h = c.in-Ok.ensures.read in
    rw c.into_read.ensures.book
    (rows_kept_in _ c.read_chapter.new.self (c.in-Ok-read_chapter.ensures.read h.texts h.has))

pub returns-in-Ok-renew-clause-spelled : goal.returns-in-Ok-renew-clause-spelled
returns-in-Ok-renew-clause-spelled g c =
    let h = c.in-Ok.ensures.read in
    rw c.into_read.ensures.book
    (rows_spelled_in _ c.read_chapter.new.self (c.in-Ok-read_chapter.ensures.read h.texts h.has))

pub returns-in-Ok-renew-clause-read : goal.returns-in-Ok-renew-clause-read
returns-in-Ok-renew-clause-read g c =
    let file = g.D.Disk.file c.args.disk.now in
    let s = c.read_closed.new.reader in
    let h = c.in-Ok.ensures.read in
    let stands = subst (λ (xs : List ℕ). OfFile (StandsFor s xs) file) (sym c.deref.ensures.value)
    (subst (λ (f : Option DiskFile). OfFile (StandsFor s c.in-Ok-read_open.octets.items) f)
    c.read_closed.ensures.stays c.in-Ok-read_open.ensures.octets) in
    let named = c.read_closed.ensures.site ∙ c.in_ok-reader.ensures.site in
    rw c.into_read.ensures.book
    (subst (λ (site : List ℕ). OfFile (IsReadIn site c.read_chapter.new.self.book) file) named
    (read_in file s c.read_chapter.new.self c.deref.result.now h stands
    c.in-Ok-read_chapter.ensures.read c.read_chapter.ensures.site))

pub returns-in-Ok-renew-clause-settled : goal.returns-in-Ok-renew-clause-settled
returns-in-Ok-renew-clause-settled g c =
    let file = g.D.Disk.file c.args.disk.now in
    let s = c.read_closed.new.reader in
    let h = c.in-Ok.ensures.read in
    let stands = subst (λ (xs : List ℕ). OfFile (StandsFor s xs) file) (sym c.deref.ensures.value)
    (subst (λ (f : Option DiskFile). OfFile (StandsFor s c.in-Ok-read_open.octets.items) f)
    c.read_closed.ensures.stays c.in-Ok-read_open.ensures.octets) in
    let named = c.read_closed.ensures.site ∙ c.in_ok-reader.ensures.site in
    let stays = subst (λ (f : Option DiskFile).
    OfFiles IsUntouched f (g.D.Disk.file c.read_open.new.disk)) c.read_closed.ensures.stays
    c.read_open.ensures.stays in
    rw (c.into_read.ensures.book, c.into_read.ensures.end)
    (subst (λ (site : List ℕ). OfFile (HoldsRows site c.read_chapter.new.self.book.rows false
    c.read_chapter.new.self.end) (g.D.Disk.file c.renew.new.self)) named
    (holds_read_in file (g.D.Disk.file c.read_open.new.disk) (g.D.Disk.file c.renew.new.self) s
    c.read_chapter.new.self c.deref.result.now _ c.in-Ok-read_chapter.whole h
    c.in-Ok-read_chapter.ensures.read c.read_chapter.ensures.site
    c.in-Ok-read_chapter.ensures.whole
    (ap (take c.in-Ok-read_chapter.whole) (c.deref-2.ensures.value ∙ sym c.deref.ensures.value))
    stays c.in-Ok-renew.ensures.ok))

pub returns-in-Ok-renew-clause-moments : goal.returns-in-Ok-renew-clause-moments
returns-in-Ok-renew-clause-moments g c =
    let file = g.D.Disk.file c.args.disk.now in
    let s = c.read_closed.new.reader in
    let h = c.in-Ok.ensures.read in
    let stands = subst (λ (xs : List ℕ). OfFile (StandsFor s xs) file) (sym c.deref.ensures.value)
    (subst (λ (f : Option DiskFile). OfFile (StandsFor s c.in-Ok-read_open.octets.items) f)
    c.read_closed.ensures.stays c.in-Ok-read_open.ensures.octets) in
    let named = c.read_closed.ensures.site ∙ c.in_ok-reader.ensures.site in
    let stays = subst (λ (f : Option DiskFile).
    OfFiles IsUntouched f (g.D.Disk.file c.read_open.new.disk)) c.read_closed.ensures.stays
    c.read_open.ensures.stays in
    lines_stay_in s c.deref.result.now _ c.in-Ok-read_chapter.whole file
    (g.D.Disk.file c.read_open.new.disk) (g.D.Disk.file c.renew.new.self) stands
    c.in-Ok-read_chapter.ensures.whole
    (ap (take c.in-Ok-read_chapter.whole) (c.deref-2.ensures.value ∙ sym c.deref.ensures.value))
    stays c.renew.ensures.moments

pub returns-in-Err-renew-clause-moments : goal.returns-in-Err-renew-clause-moments
returns-in-Err-renew-clause-moments g c =
    let file = g.D.Disk.file c.args.disk.now in
    let s = c.read_closed.new.reader in
    let h = c.in-Ok.ensures.read in
    let stands = subst (λ (xs : List ℕ). OfFile (StandsFor s xs) file) (sym c.deref.ensures.value)
    (subst (λ (f : Option DiskFile). OfFile (StandsFor s c.in-Ok-read_open.octets.items) f)
    c.read_closed.ensures.stays c.in-Ok-read_open.ensures.octets) in
    let named = c.read_closed.ensures.site ∙ c.in_ok-reader.ensures.site in
    let stays = subst (λ (f : Option DiskFile).
    OfFiles IsUntouched f (g.D.Disk.file c.read_open.new.disk)) c.read_closed.ensures.stays
    c.read_open.ensures.stays in
    lines_stay_in s c.deref.result.now _ c.in-Ok-read_chapter.whole file
    (g.D.Disk.file c.read_open.new.disk) (g.D.Disk.file c.renew.new.self) stands
    c.in-Ok-read_chapter.ensures.whole
    (ap (take c.in-Ok-read_chapter.whole) (c.deref-2.ensures.value ∙ sym c.deref.ensures.value))
    stays c.renew.ensures.moments
