use Rattle.std.proofs.Common.{◌≡◌, ◌∙◌, ◌<◌, ◌≤◌, ℕ, List, ap, drop, length, subst, sym}
use Rattle.chapters.specs.Readers.{HasRead, IsReading}
use Rattle.history_folder.specs.Reading.{WalkState}
use Rattle.history_folder.proofs.Walking.{enters}
use Rattle.history_folder.proofs.walk.FolderWalk.begin_chapter.Goals as goal

pub invariant_of-self : goal.invariant_of-self
invariant_of-self g c =
    let is = c.self.view_is in
    enters c.self.inside.reader c.begin_chapter.new.self c.self.inside.count c.in-Ok.octets
    c.in_ok-text.text.items c.self.invariant.most
    (subst (λ (w : WalkState). w.reader.end.chapters < w.count) (sym is) c.requires.more)
    (c.self.invariant.between (ap (λ (w : WalkState). w.place) is ∙ c.requires.between))
    (subst (λ (xs : List ℕ). c.in-Ok.octets ≤ length xs) c.deref.ensures.value
    c.in-Ok.ensures.within)
    (subst (λ (xs : List ℕ). (texts : List (List ℕ)) → HasRead texts c.self.inside.reader
    → IsReading texts xs (drop c.in-Ok.octets xs) c.begin_chapter.new.self) c.deref.ensures.value
    c.in-Ok.ensures.begun)
    c.in-Ok.ensures.chapters
