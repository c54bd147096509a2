use Rattle.std.proofs.Common.{arith, ◌++◌, ◌∙◌, ◌∷◌, [], Option, List, ap, subst, sym, ℕ}
use Rattle.stamps.specs.Stamps.{at_line, is_later}
use Rattle.chapters.specs.ChapterText.{text_of_lines}
use Rattle.chapters.specs.HistoryEnds.{EndState}
use Rattle.chapters.specs.Rounds.{Writes, stamp_lines}
use Rattle.chapters.proofs.Rounds.{behind_start, is_none, no_stamp, one_stamp, same_ends, some_line}
use Rattle.chapters.proofs.Rounds.{writes_nothing, writes_stamp}
use Rattle.chapters.proofs.history_end.HistoryEnd.put_stamp.Goals as goal

pub returns-in_default-clause-written : goal.returns-in_default-clause-written
returns-in_default-clause-written c = λ chapters r ends.
    subst (λ (o : Option (List ℕ)). Writes (stamp_lines c.args.self.now.time o) [] chapters r
    c.args.self.now c.args.self.now c.args.text.now.items c.args.text.now.items)
    (sym (is_none c.args.now.now c.in_default.not-Some))
    (writes_nothing chapters r c.args.self.now c.args.text.now.items ends)

pub returns-then-not-is_later-clause-written : goal.returns-then-not-is_later-clause-written
returns-then-not-is_later-clause-written c = λ chapters r ends.
    subst (λ (said : List (List ℕ)). Writes said [] chapters r c.args.self.now
    c.args.self.now c.args.text.now.items c.args.text.now.items)
    (sym (no_stamp c.args.self.now.time _ _ _ c.in-Some.is c.time.ensures
    (sym (c.is_later.ensures) ∙ c.if-not-is_later.true)))
    (writes_nothing chapters r c.args.self.now c.args.text.now.items ends)

pub returns-clause-written : goal.returns-clause-written
returns-clause-written c = λ chapters r ends.
    let line = at_line c.in-Some.now in
    subst (λ (said : List (List ℕ)). Writes said [] chapters r c.args.self.now
    c.tell_time.new.self c.args.text.now.items c.put_stamp_line.new.text.items)
    (sym (one_stamp c.args.self.now.time _ _ _ c.in-Some.is c.time.ensures
    (sym (c.is_later.ensures) ∙ c.if-not-is_later.false)))
    (writes_stamp c.in-Some.now chapters r c.args.self.now _ c.args.text.now.items _
    c.in_ok-put_stamp_line.ensures.form
    (ap (λ (last : Option (List ℕ)). is_later last c.in-Some.now) (sym c.time.ensures)
    ∙ sym (c.is_later.ensures) ∙ c.if-not-is_later.false)
    c.in_ok-put_stamp_line.ensures.line
    (same_ends chapters r.seal (r.unsealed ++ line ∷ []) _ _ _ _ _ c.tell_time.ensures
    (c.cover.ensures.covers chapters r.seal r.unsealed (line ∷ []) ends
    (behind_start c.args.text.now.items (text_of_lines (line ∷ [])) _ _
    (omega (arith, c.len-start.ensures, c.args.text.now.ok))
    (c.deref.ensures.value ∙ c.in_ok-put_stamp_line.ensures.line)) (some_line line)))
    (ap (λ (e : EndState). e.time) c.tell_time.ensures))
