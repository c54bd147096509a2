use Rattle.std.proofs.Common.{◌∙◌, ◌++◌, List, ℕ, append-nil, arith, ap, sym}
use Rattle.std.specs.Prelude.{is_some}
use Rattle.std.proofs.lemmas.Bool.{eqb-true}
use Rattle.std.proofs.lemmas.List.{nil_from_length}
use Rattle.forecourt_engines.specs.Text.{State}
use Rattle.forecourt_engines.proofs.Lines.{goes_on_still, whole_line, feed_behind, feed_behind_end}
use Rattle.forecourt_engines.proofs.engine.Engine.end_line.Goals as goal

-- a whole line
pub returns-then-line-le-LINE_OCTETS : goal.returns-then-line-le-LINE_OCTETS
returns-then-line-le-LINE_OCTETS c =
    let none = ap (λ (s : State). s.stop) (sym c.self.view_is)
    ∙ goes_on_still c.self.inside.stop c.if-is_none.ensures in
    let size = eqb-true _ _ (sym c.if-is_empty.ensures) in
    let empty = ap (λ (s : State). s.line) (sym c.self.view_is)
    ∙ nil_from_length c.self.inside.line.items (omega (arith, size)) in
    let whole = whole_line c.args.self.now c.args.line.now none empty c.requires
    c.if-line-le-LINE_OCTETS.true in
    record { state = rw whole.0 c.tell.ensures.state; text = rw whole.1 c.tell.ensures.text }

-- the rest of a line
pub returns-in_ok-tell_held : goal.returns-in_ok-tell_held
returns-in_ok-tell_held c =
    let begun = c.in_ok-begin_line.ensures in
    let none = ap (λ (s : State). s.stop) (sym begun.state ∙ sym c.self-2.view_is)
    ∙ goes_on_still c.self-2.inside.stop c.if-is_none-2.ensures in
    let feed = feed_behind c.args.self.now c.args.line.now begun.silent none in
    record {
      state = rw (feed.0, ← begun.state) c.in_ok-tell_held.ensures.state;
      text = rw (feed.1, ← begun.state) c.in_ok-tell_held.ensures.text;
    }

-- a line behind the end of the text
pub returns-else-is_none-2 : goal.returns-else-is_none-2
returns-else-is_none-2 c =
    let begun = c.in_ok-begin_line.ensures in
    let some = ap (λ (s : State). is_some s.stop) (sym begun.state ∙ sym c.self-2.view_is)
    ∙ c.if-is_none-2.ensures in
    let feed = feed_behind_end c.args.self.now c.args.line.now begun.silent some in
    record {
      state = begun.state ∙ sym feed.0;
      text = sym (append-nil c.args.out.now.items)
          ∙ ap (λ (t : List ℕ). c.args.out.now.items ++ t) (sym feed.1);
    }
