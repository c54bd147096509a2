use Rattle.std.proofs.Common.{◌≡◌, ap, refl, true, ◌∙◌}
use Rattle.journal.specs.Stored.{StoredState}
use Rattle.peer_connections.specs.Allowed.{lasts_at}
use Rattle.peer_connections.specs.Links.{has_link}
use Rattle.peer_connections.proofs.Known.{gone_there, no_more_then, still_there, was_there}
use Rattle.peer_connections.proofs.Known.{works_gone}
use Rattle.peer_connections.proofs.Linking.{others_then}
use Rattle.peer_connections.proofs.Reaching.{finished_at, over_at, reaches_closing}
use Rattle.peer_connections.proofs.Reaching.{reaches_finished}
use Rattle.peer_connections.proofs.Reaching.{reaches_gone, reaches_same, reaches_then}
use Rattle.peer_connections.proofs.Pairing.{paired_ended}
use Rattle.peer_connections.proofs.Seeing.{seen_ended}
use Rattle.peer_connections.proofs.connections.Connections.send_owed.Goals as goal

-- its session has ended before its connection closes
pub begin_to_close-requires : goal.begin_to_close-requires
begin_to_close-requires g c = over_at c.args.key c.send_link.new.self.stored _ c.finish.ensures

-- its connection failed: its session has ended before it leaves
pub returns-then-send_link-clause-moves : goal.returns-then-send_link-clause-moves
returns-then-send_link-clause-moves g c =
    reaches_then _ _ _ _ (reaches_closing _ _ _ c.send_link.ensures.moves)
    (reaches_then _ _ _ _ (reaches_finished c.args.key _ _ c.finish.ensures)
    (reaches_then _ _ _ _ (reaches_same _ _ _ c.begin_to_close.ensures.stored)
    (reaches_gone c.args.key _ _
    (ap (λ (s : StoredState). lasts_at s.station c.args.key)
    (c.begin_to_close.ensures.stored ∙ c.finish.ensures)
    ∙ finished_at c.args.key _)
    c.remove.ensures.left)))

-- what was sent before its connection failed
pub returns-then-send_link-clause-stream : goal.returns-then-send_link-clause-stream
returns-then-send_link-clause-stream g c = record {
  sent_to = c.send_link.new.self.stored;
  between = c.send_link.new.self.links.items;
  others = c.send_link.ensures.others;
  sends = c.send_link.ensures.stream;
  follows = reaches_then _ _ _ _ (reaches_finished c.args.key _ _ c.finish.ensures)
      (reaches_then _ _ _ _ (reaches_same _ _ _ c.begin_to_close.ensures.stored)
      (reaches_gone c.args.key _ _
      (ap (λ (s : StoredState). lasts_at s.station c.args.key)
      (c.begin_to_close.ensures.stored ∙ c.finish.ensures)
      ∙ finished_at c.args.key _)
      c.remove.ensures.left));
  no_more = λ there. absurd (gone_there c.args.key c.begin_to_close.new.self.stored.station _ _
      c.remove.new.self.paired (ap (λ (s : StoredState). s.station) c.remove.ensures.left) there);
  there = λ there. absurd (gone_there c.args.key c.begin_to_close.new.self.stored.station _ _
      c.remove.new.self.paired (ap (λ (s : StoredState). s.station) c.remove.ensures.left) there);
  stays = λ there. absurd (gone_there c.args.key c.begin_to_close.new.self.stored.station _ _
      c.remove.new.self.paired (ap (λ (s : StoredState). s.station) c.remove.ensures.left) there);
  works = works_gone c.args.key _ c.remove.ensures.gone;
}

-- .. else it follows its session
pub returns-else-send_link : goal.returns-else-send_link
returns-else-send_link g c =
    let same = ap (λ (s : StoredState). s.station) c.report_again.ensures.stored in
    let was : has_link c.report_again.new.self.links.items c.args.key ≡ true
    → has_link c.follow_session.new.self.links.items c.args.key ≡ true =
    still_there c.args.key c.follow_session.new.self.stored.station
    c.report_again.new.self.stored.station _ _ c.follow_session.new.self.paired
    c.report_again.new.self.paired same in record {
      stream = record {
        sent_to = c.send_link.new.self.stored;
        between = c.send_link.new.self.links.items;
        others = c.send_link.ensures.others;
        sends = c.send_link.ensures.stream;
        follows = reaches_then _ _ _ _ c.follow_session.ensures.moves
            (reaches_same _ _ _ c.report_again.ensures.stored);
        no_more = no_more_then g.S.Write.contents c.args.key c.send_link.new.self.links.items
            c.follow_session.new.self.links.items c.report_again.new.self.links.items
            c.follow_session.ensures.got c.report_again.ensures.got;
        there = λ is. was_there c.args.key _ _ _ _ c.args.self.now.stored _
            c.args.self.now.paired c.send_link.new.self.paired c.send_link.ensures.stream
            (still_there c.args.key c.send_link.new.self.stored.station
            c.follow_session.new.self.stored.station _ _ c.send_link.new.self.paired
            c.follow_session.new.self.paired
            (ap (λ (s : StoredState). s.station) (c.follow_session.ensures.stays (was is)))
            (was is));
        stays = λ is. c.report_again.ensures.stored ∙ c.follow_session.ensures.stays (was is);
        works = c.report_again.ensures.works
            (c.follow_session.ensures.works (c.send_link.ensures.works c.if-send_link.false));
      };
      moves = reaches_then _ _ _ _ (reaches_closing _ _ _ c.send_link.ensures.moves)
          (reaches_then _ _ _ _ c.follow_session.ensures.moves
          (reaches_same _ _ _ c.report_again.ensures.stored));
      others = others_then _ _ _ _ c.send_link.ensures.others
          (others_then _ _ _ _ c.follow_session.ensures.others c.report_again.ensures.others);
      sent = c.report_again.ensures.sent (c.follow_session.ensures.sent c.send_link.ensures.sent);
      journal = ap (λ (s : StoredState). s.journal) c.report_again.ensures.stored
          ∙ c.follow_session.ensures.journal ∙ c.send_link.ensures.journal;
      changes = c.report_again.ensures.changes ∙ c.follow_session.ensures.changes
          ∙ c.send_link.ensures.changes;
      due = c.report_again.ensures.due ∙ c.follow_session.ensures.due ∙ c.send_link.ensures.due;
    }

pub invariant_of-self-clause-seen : goal.invariant_of-self-clause-seen
invariant_of-self-clause-seen g c =
    seen_ended _ c.args.key c.send_link.new.self.stored _ c.finish.ensures
    c.send_link.new.self.seen

pub invariant_of-self-clause-fed : goal.invariant_of-self-clause-fed
invariant_of-self-clause-fed g c =
    seen_ended _ c.args.key c.send_link.new.self.stored _ c.finish.ensures
    c.send_link.new.self.fed

pub invariant_of-self-clause-paired : goal.invariant_of-self-clause-paired
invariant_of-self-clause-paired g c =
    paired_ended c.args.key c.send_link.new.self.links.items c.send_link.new.self.stored _
    c.finish.ensures c.send_link.new.self.paired
