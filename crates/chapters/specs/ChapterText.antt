-- The text of a chapter: three lines that name it, a line for each row, and seals. Its times are
-- comments, and left out here.
use Rattle.std.specs.Prelude.{ℕ, suc, List, [], ◌∷◌, ◌++◌, codes, decimal, map}
use Rattle.std.specs.Prelude.{replicate}
use Rattle.std.specs.List.{flat_map}
use Rattle.hex.specs.Hex.{encode_lower}
use Rattle.sha2.specs.Sha256.{sha256}
use Rattle.site_base.specs.declared.row.Row.{Row}
use Rattle.app_message.specs.Spelling.{spelling}
use Rattle.chapters.specs.RowText.{row_request}

-- lines, each with its line feed
abbrev pub text_of_lines : List (List ℕ) → List ℕ
text_of_lines lines = flat_map (λ line. line ++ 10 ∷ []) lines

-- ---- seals

-- what stands for a seal before the first chapter
abbrev pub no_seal : List ℕ
no_seal = replicate 64 48

-- the seal of lines: the SHA-256 of the seal before them, and of their octets
abbrev pub seal_of : List ℕ → List (List ℕ) → List ℕ
seal_of before lines = encode_lower (sha256 (before ++ text_of_lines lines))

-- what the line of a seal begins with
abbrev pub seal_mark : List ℕ
seal_mark = codes "# seal "

abbrev pub seal_line : List ℕ → List ℕ
seal_line seal = seal_mark ++ seal

-- ---- a chapter

-- what names a site: the SHA-256 of its file's octets
abbrev pub site_name : List ℕ → List ℕ
site_name site_file = encode_lower (sha256 site_file)

-- the first three lines of a chapter: its number, its site's name, the seal before it
abbrev pub title_line : ℕ → List ℕ
title_line n = codes "# witsomar history 1 chapter " ++ decimal n

abbrev pub site_line : List ℕ → List ℕ
site_line site = codes "# site " ++ site

abbrev pub after_line : List ℕ → List ℕ
after_line after = codes "# after " ++ after

abbrev pub first_lines : List ℕ → ℕ → List ℕ → List (List ℕ)
first_lines site n after = title_line n ∷ site_line site ∷ after_line after ∷ []

-- the request of a row's actor and event, with token 0, in lower case hexadecimal
abbrev pub row_digits : Row → List ℕ
row_digits r = encode_lower (spelling (row_request r))

-- the lines of rows
abbrev pub row_lines : List Row → List (List ℕ)
row_lines rows = map row_digits rows

-- a seal behind each of these parts; the first one covers these lines too, behind that seal
abbrev pub sealed_lines : List ℕ → List (List ℕ) → List (List Row) → List (List ℕ)
sealed_lines before lines [] = []
sealed_lines before lines (part ∷ parts) =
    let seal = seal_of before (lines ++ row_lines part) in
    row_lines part ++ (seal_line seal ∷ sealed_lines seal [] parts)

-- .. and the last of these seals
abbrev pub last_seal : List ℕ → List (List ℕ) → List (List Row) → List ℕ
last_seal before lines [] = before
last_seal before lines (part ∷ parts) =
    last_seal (seal_of before (lines ++ row_lines part)) [] parts

-- the lines behind the first three: of parts with their seals, of which the first covers the first
-- three lines too, and of rows without a seal yet
abbrev pub chapter_lines : List (List ℕ) → List ℕ → List (List Row) → List Row → List (List ℕ)
chapter_lines first after sealed behind = sealed_lines after first sealed ++ row_lines behind

abbrev pub chapter_text : List ℕ → ℕ → List ℕ → List (List Row) → List Row → List ℕ
chapter_text site n after sealed behind =
    let first = first_lines site n after in
    text_of_lines first ++ text_of_lines (chapter_lines first after sealed behind)

-- ---- a history

-- the rows of parts, one after another
abbrev pub rows_of_parts : List (List Row) → List Row
rows_of_parts [] = []
rows_of_parts (part ∷ parts) = part ++ rows_of_parts parts

-- the rows of chapters that are closed, and of the open one
abbrev pub rows_of_chapters : List (List (List Row)) → List (List Row) → List Row → List Row
rows_of_chapters [] sealed behind = rows_of_parts sealed ++ behind
rows_of_chapters (c ∷ closed) sealed behind =
    rows_of_parts c ++ rows_of_chapters closed sealed behind

-- the texts of chapters from this number on, behind that seal: closed ones end with a seal
abbrev pub texts_from : List ℕ → ℕ → List ℕ → List (List (List Row)) → List (List Row) → List Row
    → List (List ℕ)
texts_from site n after [] sealed behind = chapter_text site n after sealed behind ∷ []
texts_from site n after (c ∷ closed) sealed behind =
    chapter_text site n after c []
    ∷ texts_from site (suc n) (last_seal after (first_lines site n after) c) closed sealed
    behind

-- the texts of a history's chapters
abbrev pub history_texts : List ℕ → List (List (List Row)) → List (List Row) → List Row
    → List (List ℕ)
history_texts site closed sealed behind = texts_from site 1 no_seal closed sealed behind
