-- What a running station counts beside its book, as OpenMetrics text.
use Rattle.std.specs.Prelude.{ℕ, List, [], ◌++◌, Option, Some, None, codes}
use Rattle.site_metrics.specs.declared.counts.StationCounts.{StationCounts}
use Rattle.site_metrics.specs.declared.counts.StoreTimes.{StoreTimes}
use Rattle.site_metrics.specs.declared.counts.TheConstants.{VERSION}
use Rattle.site_metrics.specs.Families.{gauge, head, sample, seconds}

-- how many peers the feed has
unfoldable pub feeds_line : ℕ → List ℕ
feeds_line count = gauge (codes "witsomar_feeds") (codes "Peers of the feed.") count

-- how many chapters the history has, if there is one
unfoldable pub chapters_line : ℕ → List ℕ
chapters_line count = gauge (codes "witsomar_chapters") (codes "Chapters of the history.") count

abbrev pub chapters_text : Option ℕ → List ℕ
chapters_text None = []
chapters_text (Some count) = chapters_line count

-- how long ago the last seal was put, if one was
unfoldable pub seal_line : ℕ → List ℕ
seal_line age =
    gauge (codes "witsomar_seal_age_seconds") (codes "Seconds since the last seal.") age

abbrev pub seal_text : Option ℕ → List ℕ
seal_text None = []
seal_text (Some age) = seal_line age

-- how long rows took to be stored: all together, and how often
unfoldable pub times_lines : ℕ → ℕ → List ℕ
times_lines count sum =
    seconds (codes "witsomar_flush_seconds_sum") sum
    ++ sample (codes "witsomar_flush_seconds_count") [] count

unfoldable pub times_text : ℕ → ℕ → List ℕ
times_text count sum =
    head (codes "witsomar_flush_seconds") (codes "summary")
    (codes "Seconds in which rows were written and flushed.")
    ++ times_lines count sum

-- .. and the longest
unfoldable pub longest_text : ℕ → List ℕ
longest_text greatest =
    head (codes "witsomar_flush_seconds_max") (codes "gauge") (codes "The longest of them.")
    ++ seconds (codes "witsomar_flush_seconds_max") greatest

unfoldable pub stores_lines : ℕ → ℕ → ℕ → List ℕ
stores_lines count sum greatest = times_text count sum ++ longest_text greatest

abbrev pub stores_text : StoreTimes → List ℕ
stores_text times = stores_lines times.count times.sum times.greatest

-- the version of the program
unfoldable pub version_line : List ℕ
version_line = codes "witsomar_build_info{version=\"" ++ sample VERSION.now (codes "\"}") 1

unfoldable pub version_text : List ℕ
version_text =
    head (codes "witsomar_build_info") (codes "gauge") (codes "The program.") ++ version_line

unfoldable pub counts_text : StationCounts → List ℕ
counts_text counts =
    feeds_line counts.feeds
    ++ (chapters_text counts.chapters
    ++ (seal_text counts.seal_seconds ++ (stores_text counts.stores ++ version_text)))
