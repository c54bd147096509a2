use Rattle.std.proofs.Common.{subst, sym}
use Rattle.std.proofs.lemmas.List.{take_more}
use Rattle.row_feed.specs.Feeds.{Hears}
use Rattle.row_feed.proofs.HeardOctets.{hears_more}
use Rattle.row_feed.proofs.feed.Feed.hear.Goals as goal

pub loop-octet-preserved : goal.loop-octet-preserved
loop-octet-preserved c =
    subst (λ bs. Hears c.args.next bs c.args.self.now c.hear_octet.new.self)
    (sym (take_more c.args.octets.now c.loop-octet.octet-index 0 c.loop-octet-test.true))
    (hears_more _ _ _ _ _ _ c.loop-octet.invariant c.in_ok-hear_octet.ensures)
