use Rattle.std.proofs.Common.{rules, ◌∙◌}
use Rattle.peer_connections.proofs.Dues.{all_noted, noted_up_to}
use Rattle.peer_connections.proofs.change_watch.ChangeWatch.look.Goals as goal

pub loop-place-preserved : goal.loop-place-preserved
loop-place-preserved c = record {
  all = c.look_at.ensures.seen ∙ c.loop-place.invariant.all;
  read = c.look_at.ensures.read ∙ c.loop-place.invariant.read;
  fed = c.look_at.ensures.fed ∙ c.loop-place.invariant.fed;
  tally = c.look_at.ensures.tally ∙ c.loop-place.invariant.tally;
  had = λ had. c.look_at.ensures.had (c.loop-place.invariant.had had);
  noted = noted_up_to _ _ c.args.book.now _ _ c.look_at.ensures.had c.loop-place.invariant.noted
      c.look_at.ensures.noted;
}

pub returns-clause-noted : goal.returns-clause-noted
returns-clause-noted c =
    all_noted c.args.self.now _ c.args.book.now _ c.requires c.loop-place.invariant.had
    c.loop-place.invariant.noted (search rules)
