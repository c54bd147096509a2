use Rattle.std.proofs.Common.{◌++◌, List, ℕ, refl}
use Rattle.site_metrics.specs.Counts.{chapters_text, counts_text, seal_text, stores_text}
use Rattle.site_metrics.specs.Counts.{version_text}
use Rattle.site_metrics.proofs.JoinedTexts.{put_last}
use Rattle.site_metrics.proofs.counts.put_counts.Goals as goal

pub returns : goal.returns
unfolding counts_text
returns c =
    let stores : List ℕ = stores_text c.args.counts.now.stores ++ version_text in
    let seal : List ℕ = seal_text c.args.counts.now.seal_seconds ++ stores in
    let chapters : List ℕ = chapters_text c.args.counts.now.chapters ++ seal in
    put_last _ _ _ chapters _ _ _ c.in_ok-put_feeds.ensures
    (put_last _ _ _ seal _ _ _ c.in_ok-put_chapters.ensures
    (put_last _ _ _ stores _ _ _ c.in_ok-put_seal.ensures
    (put_last _ _ _ version_text _ _ _ c.in_ok-put_stores.ensures
    (c.put_version.ensures) refl) refl) refl) refl
