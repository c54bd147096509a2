-- The laws of a history in chapters, and of its seals.
use Rattle.std.specs.Prelude.{◌≡◌, ◌≢◌, ◌⊎◌, ◌++◌, ℕ, true, List, [], ◌∷◌, Some, filter, length}
use Rattle.std.specs.Prelude.{not}
use Rattle.std.specs.List.{AllByRecursion, filter_map, flat_map}
use Rattle.hex.specs.Hex.{encode_lower}
use Rattle.sha2.specs.Sha256.{sha256}
use Rattle.site_base.specs.declared.actor.Actor.{Actor}
use Rattle.site_base.specs.declared.event.Event.{Event}
use Rattle.site_base.specs.declared.row.Row.{Row}
use Rattle.site_base.specs.Configured.{Configured}
use Rattle.kept_history.specs.KeptRows.{kept_rows}
use Rattle.written_site.specs.SiteRun.{IsLegal}
use Rattle.written_site.specs.SiteState.{opening}
use Rattle.stamps.specs.Stamps.{time_of_lines}
use Rattle.chapters.specs.History.{rows_asked}
use Rattle.chapters.specs.Lines.{request_in}
use Rattle.chapters.specs.RowText.{CanBeSpelled}
use Rattle.chapters.specs.ChapterReading.{HistoryRead, is_comment, is_none_left, read_history}
use Rattle.chapters.specs.ChapterReading.{read_lines}
use Rattle.chapters.specs.ChapterText.{history_texts, no_seal, rows_of_chapters, seal_line}
use Rattle.chapters.specs.ChapterText.{text_of_lines}

-- the chapters are read, and what is read makes just these rows, replies included
pub record TellsRows (site : List ℕ) (config : Configured) (texts : List (List ℕ))
    (rows : List Row) : Type 0 where
  pub reading : HistoryRead
  pub read : read_history site texts ≡ Some reading
  pub made : rows_asked (opening config) reading.events ≡ rows

-- The chapters are the history. Take a legal history, and any chapters with its kept rows, of which
-- each closed one has a seal. Their texts are read, and what is read makes just these rows, replies
-- included.
abbrev pub ChaptersTellTheirHistory : Type 0
ChaptersTellTheirHistory = (site : List ℕ) (config : Configured) (rows : List Row)
    (closed : List (List (List Row))) (sealed : List (List Row)) (behind : List Row)
    → IsLegal (opening config) rows → CanBeSpelled (kept_rows rows)
    → AllByRecursion (λ c. c ≢ []) closed
    → rows_of_chapters closed sealed behind ≡ kept_rows rows
    → TellsRows site config (history_texts site closed sealed behind) (kept_rows rows)

-- ---- comments

-- the requests of lines that are no comments
abbrev pub requests_in : List (List ℕ) → List (Actor × Event)
requests_in lines = filter_map request_in (filter (λ line. not (is_comment line)) lines)

-- Comments say nothing: what is read of lines, times and seals among them, are the requests of the
-- others.
abbrev pub CommentsSayNothing : Type 0
CommentsSayNothing = (lines : List (List ℕ)) (r s : HistoryRead) → read_lines lines r ≡ Some s
    → s.events ≡ r.events ++ requests_in lines

-- ---- times

-- Of the times that lines tell the last one is read, or a later one that was read before: it never
-- falls.
abbrev pub TimesAreRead : Type 0
TimesAreRead = (lines : List (List ℕ)) (r s : HistoryRead) → read_lines lines r ≡ Some s
    → s.time ≡ time_of_lines lines r.time

-- ---- seals

-- the octets of chapters, one after another
abbrev pub octets_of : List (List ℕ) → List ℕ
octets_of texts = flat_map (λ text. text) texts

-- the chapters are read, so that each seal in them is right, and their last line is this seal
pub record AreSealed (site : List ℕ) (texts : List (List ℕ)) (seal : List ℕ) : Type 0 where
  pub reading : HistoryRead
  pub read : read_history site texts ≡ Some reading
  pub ended : is_none_left reading ≡ true
  pub last : reading.seal ≡ seal

-- These octets are a seal, or what stands for one, and a stretch of this text, behind which stands
-- the line of their own seal: what the text has sealed.
pub record IsSealed (octets text : List ℕ) : Type 0 where
  pub before : List ℕ
  pub seal : List ℕ
  pub stretch : List ℕ
  pub rest : List ℕ
  pub octets_are : octets ≡ seal ++ stretch
  pub size : length seal ≡ 64
  pub text_is : text ≡ before
      ++ (stretch ++ (text_of_lines (seal_line (encode_lower (sha256 octets)) ∷ []) ++ rest))

-- one list of octets that the one text has sealed, and another one that the other has: they differ,
-- and have one SHA-256
pub record Collision (text another : List ℕ) : Type 0 where
  pub one : List ℕ
  pub other : List ℕ
  pub sealed : IsSealed one text
  pub sealed_too : IsSealed other another
  pub differ : one ≢ other
  pub same : sha256 one ≡ sha256 other

-- octets that this text has sealed, and whose SHA-256 is 32 zeros: what stands for a seal before
-- the first chapter
pub record ZeroDigest (text : List ℕ) : Type 0 where
  pub octets : List ℕ
  pub sealed : IsSealed octets text
  pub zero : encode_lower (sha256 octets) ≡ no_seal

-- what two texts with one last seal show of SHA-256
abbrev pub BreaksDigests : List ℕ → List ℕ → Type 0
BreaksDigests text another = Collision text another ⊎ (ZeroDigest text ⊎ ZeroDigest another)

-- A seal is a seal. Of two histories that differ and end with one seal, two lists of octets that
-- they have sealed, that differ and have one SHA-256, can be computed; or octets whose SHA-256 is
-- zero.
abbrev pub SealsBindTheirTexts : Type 0
SealsBindTheirTexts = (site another : List ℕ) (texts others : List (List ℕ)) (seal : List ℕ)
    → AreSealed site texts seal → AreSealed another others seal
    → octets_of texts ≢ octets_of others → BreaksDigests (octets_of texts) (octets_of others)
