use Rattle.std.proofs.Common.{◌++◌, List, ℕ, refl}
use Rattle.std.specs.Prelude.{option_copied}
use Rattle.site_metrics.specs.Counts.{counts_text}
use Rattle.site_metrics.specs.Metrics.{connected_text, connections_text, end_line, metrics_text}
use Rattle.site_metrics.specs.Metrics.{points_text, shifts_text, unpaid_text}
use Rattle.site_metrics.specs.Tallied.{tally_text}
use Rattle.site_metrics.proofs.JoinedTexts.{put_last}
use Rattle.site_metrics.proofs.figures.put_figures.Goals as goal

pub returns : goal.returns
unfolding metrics_text
returns c =
    let counted : List ℕ = counts_text c.args.counts.now ++ end_line in
    let told : List ℕ = tally_text (option_copied c.args.tally) ++ counted in
    let shifts : List ℕ = shifts_text c.args.book.now ++ told in
    let unpaid : List ℕ = unpaid_text c.args.unpaid.now ++ shifts in
    let connected : List ℕ = connected_text c.args.book.now c.args.sessions.now ++ unpaid in
    let points : List ℕ = points_text c.args.book.now ++ connected in
    put_last _ _ _ (connections_text c.args.counts.now.connections c.args.sessions.now ++ points)
    _ _ _ c.in_ok-put_rows.ensures
    (put_last _ _ _ points _ _ _ c.in_ok-put_connections.ensures
    (put_last _ _ _ connected _ _ _ c.in_ok-put_points.ensures
    (put_last _ _ _ unpaid _ _ _ c.in_ok-put_connected.ensures
    (put_last _ _ _ shifts _ _ _ c.in_ok-put_unpaid.ensures
    (put_last _ _ _ told _ _ _ c.in_ok-put_shifts.ensures
    (put_last _ _ _ counted _ _ _ c.in_ok-put_tally.ensures
    (put_last _ _ _ end_line _ _ _ c.in_ok-put_counts.ensures
    (c.put_end.ensures) refl) refl) refl) refl) refl) refl) refl) refl
