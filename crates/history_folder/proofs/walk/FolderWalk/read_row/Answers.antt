use Rattle.std.proofs.Common.{◌≡◌, ◌∙◌, ap, subst, sym}
use Rattle.history_folder.specs.Reading.{HasReadBegun, WalkState}
use Rattle.history_folder.proofs.Walking.{leaves_chapter, none_left, row_between, row_within}
use Rattle.history_folder.proofs.walk.FolderWalk.read_row.Goals.{else-is_none, then-is_none}
use Rattle.history_folder.proofs.walk.FolderWalk.read_row.Goals as goal

pub invariant_of-self : goal.invariant_of-self
invariant_of-self g c =
    let within = ap (λ (w : WalkState). w.place) c.self.view_is ∙ c.requires in
    row_between c.self.inside.reader c.next_row.new.self c.self.inside.count c.self.inside.octets
    c.in-Ok.read.octets c.self.inside.text.items c.deref.result.now c.self.inside.place
    c.self.invariant c.deref.ensures.value c.in-Ok.ensures.within c.next_row.ensures.chapters
    (leaves_chapter c.self.inside.reader c.next_row.new.self c.self.inside.count
    c.self.inside.octets c.self.inside.text.items c.deref.result.now c.self.inside.place
    c.self.invariant within c.deref.ensures.value
    (c.in-Ok.ensures.ends (none_left c.in-Ok.read.row c.is_none.result c.is_none.ensures
    c.if-is_none.true)) c.next_row.ensures.chapters)

pub invariant_of-self-else-is_none : goal.invariant_of-self-else-is_none
invariant_of-self-else-is_none g c =
    let within = ap (λ (w : WalkState). w.place) c.self.view_is ∙ c.requires in
    row_within c.self.inside.reader c.next_row.new.self c.self.inside.count c.self.inside.octets
    c.in-Ok.read.octets c.self.inside.text.items c.deref.result.now c.self.inside.place
    c.self.invariant within c.deref.ensures.value c.in-Ok.ensures.within c.in-Ok.ensures.reads
    c.next_row.ensures.chapters

pub returns-after-is_none-clause-read : goal.returns-after-is_none-clause-read
returns-after-is_none-clause-read g c = λ none.
    let within = ap (λ (w : WalkState). w.place) c.self.view_is ∙ c.requires in
    let begun = leaves_chapter c.self.inside.reader c.next_row.new.self c.self.inside.count
    c.self.inside.octets c.self.inside.text.items c.deref.result.now c.self.inside.place
    c.self.invariant within c.deref.ensures.value
    (c.in-Ok.ensures.ends none) c.next_row.ensures.chapters in
    elim c.if-is_none.branch [
      | then-is_none w ↦ rw w.self-is begun
      | else-is_none w ↦ rw w.self-is begun
    ]
