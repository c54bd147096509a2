use Rattle.std.proofs.Common.{◌∙◌, ℕ, List, Option, arith, refl, subst, sym}
use Rattle.journal.specs.Disks.{DiskFile, OfFile, ReadsClosed}
use Rattle.journal.specs.declared.recovery.OpenFault.{OpenFault}
use Rattle.journal.specs.Faults.{NamesIn}
use Rattle.journal.specs.Recovering.{TellsNothingIn}
use Rattle.journal.proofs.Recovering.{closed_named, closed_refused, none_closed, one_closed}
use Rattle.journal.proofs.recovery.read_closed.Goals as goal

pub loop-place-init : goal.loop-place-init
loop-place-init g c = record {
  read = none_closed (g.D.Disk.file c.args.disk.now) c.args.reader.now c.requires;
  same = refl;
  site = refl;
  config = refl;
}

pub loop-place-preserved : goal.loop-place-preserved
loop-place-preserved g c =
    let file = g.D.Disk.file c.args.disk.now in
    let place = c.loop-place.place in
    let reads = subst (λ (xs : List ℕ). OfFile (ReadsClosed place xs) file)
    (sym c.deref.ensures.value)
    (subst (λ (f : Option DiskFile). OfFile (ReadsClosed place c.in-Ok.text.items) f)
    c.loop-place.invariant.same c.in-Ok.ensures.octets) in
    record {
      read = one_closed place c.deref.result.now file c.loop-place.reader c.read_chapter.new.self
          c.loop-place.invariant.read reads c.in-Ok-read_chapter.ensures.read;
      same = c.read_closed.ensures.stays ∙ c.loop-place.invariant.same;
      site = c.read_chapter.ensures.site ∙ c.loop-place.invariant.site;
      config = c.read_chapter.ensures.config ∙ c.loop-place.invariant.config;
    }

pub read_chapter-requires : goal.read_chapter-requires
read_chapter-requires g c =
    let h = c.loop-place.invariant.read in
    omega (
      arith,
      h.has.keeps.ends.count,
      h.count,
      c.loop-place-test.true,
      c.closed-count.ensures.most,
    )

pub returns-in-Err-read_chapter-clause-refused : goal.returns-in-Err-read_chapter-clause-refused
returns-in-Err-read_chapter-clause-refused g c = λ of_text.
    let file = g.D.Disk.file c.args.disk.now in
    let place = c.loop-place.place in
    let h = c.loop-place.invariant.read in
    let reads = subst (λ (xs : List ℕ). OfFile (ReadsClosed place xs) file)
    (sym c.deref.ensures.value)
    (subst (λ (f : Option DiskFile). OfFile (ReadsClosed place c.in-Ok.text.items) f)
    c.loop-place.invariant.same c.in-Ok.ensures.octets) in
    subst (λ (site : List ℕ). OfFile (TellsNothingIn site) file) c.loop-place.invariant.site
    (closed_refused place c.deref.result.now file c.loop-place.reader h reads
    (c.in-Err-read_chapter.ensures.refused (c.refused.ensures.text of_text) h.texts h.has))

pub returns-in-Err-read_chapter-clause-named : goal.returns-in-Err-read_chapter-clause-named
returns-in-Err-read_chapter-clause-named g c = λ of_text.
    let file = g.D.Disk.file c.args.disk.now in
    let place = c.loop-place.place in
    let h = c.loop-place.invariant.read in
    let reads = subst (λ (xs : List ℕ). OfFile (ReadsClosed place xs) file)
    (sym c.deref.ensures.value)
    (subst (λ (f : Option DiskFile). OfFile (ReadsClosed place c.in-Ok.text.items) f)
    c.loop-place.invariant.same c.in-Ok.ensures.octets) in
    subst (λ (site : List ℕ). OfFile (NamesIn site c.refused.result) file)
    c.loop-place.invariant.site
    (subst (λ (fault : OpenFault). OfFile (NamesIn c.loop-place.reader.site fault) file)
    (sym (c.refused.ensures.same of_text))
    (closed_named place c.deref.result.now file c.loop-place.reader c.in-Err-read_chapter.fault h
    reads
    (c.in-Err-read_chapter.ensures.named (c.refused.ensures.text of_text) h.texts h.has)))
