use Rattle.feed_connections.proofs.Serving.{all_come, all_then}
use Rattle.feed_connections.proofs.feeds.Feeds.serve.Goals as goal

pub returns : goal.returns
returns c =
    all_then _ _ _ _ c.sweep_if_due.ensures
    (all_then _ _ _ _ c.note_rows.ensures
    (all_then _ _ _ _ c.serve_due.ensures
    (all_then _ _ _ _ (all_come _ _ _ c.accept_waiting.ensures) c.serve_due-2.ensures)))
