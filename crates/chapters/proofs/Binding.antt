-- Seals bind the octets that they cover.
use Rattle.std.proofs.Common.{◌≡◌, ◌≢◌, ℕ, zero, suc, ◌+◌, Bool, true, false, List, [], ◌∷◌}
use Rattle.std.proofs.Common.{◌++◌, length, drop, take, Option, Some, None, Result, Ok, Err, refl}
use Rattle.std.proofs.Common.{sym, ap, ◌∙◌, subst, append-nil, append_assoc, arith, inl, inr}
use Rattle.std.specs.Prelude.{◌⊎◌, ◌&&◌, ◌==◌, ◌/◌, ◌%◌, if◌then◌else◌, slice_index}
use Rattle.std.specs.Int.{to_be_bytes, w32}
use Rattle.std.specs.List.{starts_with}
use Rattle.std.proofs.Math.Seq.{drop-append_seam, take-append_seam}
use Rattle.std.proofs.lemmas.Bool.{cases_eq, eqb-true}
use Rattle.std.proofs.lemmas.List.{length-append, nil_from_length}
use Rattle.std.proofs.lemmas.Option.{none-some, same_Some}
use Rattle.hex.specs.Hex.{decode_of, encode_lower, lower_digits}
use Rattle.hex.specs.declared.error.FromHexError.{FromHexError}
use Rattle.hex.proofs.HexLemmas.{decode_of-encode_lower, length-encode_with}
use Rattle.sha2.specs.Sha256.{digest_bytes, sha256}
use Rattle.sha2.proofs.Facts256.{length-sha256}
use Rattle.site_base.specs.declared.actor.Actor.{Actor}
use Rattle.site_base.specs.declared.event.Event.{Event}
use Rattle.app_message.specs.Telegram.{AreOctets}
use Rattle.chapters.specs.ChapterReading.{HistoryRead, add_request, is_comment}
use Rattle.chapters.specs.ChapterReading.{is_none_left, is_of_seal, is_right_seal, is_same_line}
use Rattle.chapters.specs.ChapterReading.{nothing_read, read_chapter, read_from}
use Rattle.chapters.specs.ChapterReading.{read_line, read_lines, read_text, sealed_by}
use Rattle.chapters.specs.ChapterReading.{with_comment}
use Rattle.chapters.specs.ChapterReading.{with_seal}
use Rattle.chapters.specs.ChapterText.{first_lines, no_seal, seal_line, seal_of, text_of_lines}
use Rattle.chapters.specs.Laws.{AreSealed, BreaksDigests, IsSealed, SealsBindTheirTexts}
use Rattle.chapters.specs.Laws.{octets_of}
use Rattle.chapters.specs.Lines.{lines_from, request_in, unfinished, unfinished_from, whole_lines}
use Rattle.chapters.proofs.FirstLines.{begins_parts, texts_both}
use Rattle.chapters.proofs.Histories.{both_some}
use Rattle.chapters.proofs.Octets.{both_octets, no_octets, one_more_octet}
use Rattle.chapters.proofs.Reading.{lines_keep_torn}

-- ---- digests

four_bytes : (n : ℕ) → AreOctets (to_be_bytes w32 n)
four_bytes n =
    one_more_octet (n / 16777216 % 256) (n / 65536 % 256 ∷ n / 256 % 256 ∷ n % 256 ∷ [])
    (omega arith)
    (one_more_octet (n / 65536 % 256) (n / 256 % 256 ∷ n % 256 ∷ []) (omega arith)
    (one_more_octet (n / 256 % 256) (n % 256 ∷ []) (omega arith)
    (one_more_octet (n % 256) [] (omega arith) no_octets)))

words_octets : (h : List ℕ) (n : ℕ) → AreOctets (digest_bytes h n)
unfolding digest_bytes
words_octets h zero = no_octets
words_octets h (suc n) =
    both_octets (digest_bytes h n) (to_be_bytes w32 (slice_index h n)) (words_octets h n)
    (four_bytes (slice_index h n))

digest_octets : (m : List ℕ) → AreOctets (sha256 m)
unfolding sha256
digest_octets m = words_octets _ 8

abbrev ok_of : Result (List ℕ) FromHexError → List ℕ
ok_of (Ok xs) = xs
ok_of (Err e) = []

-- digests with the same digits are the same
same_digest : (a b : List ℕ) → encode_lower (sha256 a) ≡ encode_lower (sha256 b)
    → sha256 a ≡ sha256 b
same_digest a b is =
    ap ok_of (sym (decode_of-encode_lower (sha256 a) (digest_octets a)))
    ∙ ap (λ (xs : List ℕ). ok_of (decode_of xs)) is
    ∙ ap ok_of (decode_of-encode_lower (sha256 b) (digest_octets b))

digits_size : (m : List ℕ) → length (encode_lower (sha256 m)) ≡ 64
digits_size m =
    let size = length-encode_with lower_digits (sha256 m) in
    omega (arith, size, length-sha256 m)

-- ---- blocks: what each seal covers behind the one before it, the last one first

abbrev last_of : List (List ℕ) → List ℕ
last_of [] = no_seal
last_of (b ∷ bs) = encode_lower (sha256 (last_of bs ++ b))

abbrev blocks_text : List (List ℕ) → List ℕ
blocks_text [] = []
blocks_text (b ∷ bs) = blocks_text bs ++ (b ++ text_of_lines (seal_line (last_of (b ∷ bs)) ∷ []))

last_size : (bs : List (List ℕ)) → length (last_of bs) ≡ 64
last_size [] = refl
last_size (b ∷ bs) = digits_size (last_of bs ++ b)

-- equal octets have equal fronts of one length, and equal rests
fronts : (a b xs ys : List ℕ) → a ++ xs ≡ b ++ ys → length a ≡ length b → a ≡ b
fronts a b xs ys is size =
    sym (take-append_seam a xs) ∙ ap (take (length a)) is ∙ ap (λ (n : ℕ). take n (b ++ ys)) size
    ∙ take-append_seam b ys

rests : (a b xs ys : List ℕ) → a ++ xs ≡ b ++ ys → length a ≡ length b → xs ≡ ys
rests a b xs ys is size =
    sym (drop-append_seam a xs) ∙ ap (drop (length a)) is ∙ ap (λ (n : ℕ). drop n (b ++ ys)) size
    ∙ drop-append_seam b ys

-- two lists are the same or not
same_or_not : (xs ys : List ℕ) → (xs ≡ ys) ⊎ (xs ≢ ys)
same_or_not [] [] = inl refl
same_or_not [] (y ∷ ys) = inr (λ is. cc is)
same_or_not (x ∷ xs) [] = inr (λ is. cc is)
same_or_not (x ∷ xs) (y ∷ ys) = by_first (cases_eq x y) (same_or_not xs ys)
  where
    first : List ℕ → ℕ
    first [] = 0
    first (z ∷ zs) = z

    by_first : (x ≡ y) ⊎ (x ≢ y) → (xs ≡ ys) ⊎ (xs ≢ ys) → (x ∷ xs ≡ y ∷ ys) ⊎ (x ∷ xs ≢ y ∷ ys)
    by_first (inr other) rest = inr (λ is. other (ap first is))
    by_first (inl same) (inl rest) =
        inl (ap (λ (z : ℕ). z ∷ xs) same ∙ ap (λ (zs : List ℕ). y ∷ zs) rest)
    by_first (inl same) (inr others) = inr (λ is. others (ap (drop 1) is))

-- what the last block's seal is over is sealed in their text
last_sealed : (b : List ℕ) (bs : List (List ℕ)) → IsSealed (last_of bs ++ b) (blocks_text (b ∷ bs))
last_sealed b bs =
    let line : List ℕ = text_of_lines (seal_line (last_of (b ∷ bs)) ∷ []) in
    record {
      before = blocks_text bs;
      seal = last_of bs;
      stretch = b;
      rest = [];
      octets_are = refl;
      size = last_size bs;
      text_is = ap (λ (xs : List ℕ). blocks_text bs ++ (b ++ xs)) (sym (append-nil line));
    }

-- what is sealed in a text is sealed in a longer one
longer_sealed : (octets text more : List ℕ) → IsSealed octets text → IsSealed octets (text ++ more)
longer_sealed octets text more is =
    let line : List ℕ = text_of_lines (seal_line (encode_lower (sha256 octets)) ∷ []) in
    record {
      before = is.before;
      seal = is.seal;
      stretch = is.stretch;
      rest = is.rest ++ more;
      octets_are = is.octets_are;
      size = is.size;
      text_is =
          ap (λ (xs : List ℕ). xs ++ more) is.text_is
          ∙ append_assoc is.before (is.stretch ++ (line ++ is.rest)) more
          ∙ ap (λ (xs : List ℕ). is.before ++ xs)
          (append_assoc is.stretch (line ++ is.rest) more
          ∙ ap (λ (xs : List ℕ). is.stretch ++ xs) (append_assoc line is.rest more));
    }

longer_both : (a b more others : List ℕ) → BreaksDigests a b
    → BreaksDigests (a ++ more) (b ++ others)
longer_both a b more others (inl x) =
    inl (record {
      one = x.one;
      other = x.other;
      sealed = longer_sealed x.one a more x.sealed;
      sealed_too = longer_sealed x.other b others x.sealed_too;
      differ = x.differ;
      same = x.same;
    })
longer_both a b more others (inr (inl x)) =
    inr (inl (record {
      octets = x.octets;
      sealed = longer_sealed x.octets a more x.sealed;
      zero = x.zero;
    }))
longer_both a b more others (inr (inr x)) =
    inr (inr (record {
      octets = x.octets;
      sealed = longer_sealed x.octets b others x.sealed;
      zero = x.zero;
    }))

-- blocks with one last seal are the same, or they break the digests
bound : (bs cs : List (List ℕ)) → last_of bs ≡ last_of cs
    → (bs ≡ cs) ⊎ BreaksDigests (blocks_text bs) (blocks_text cs)
bound [] [] is = inl refl
bound [] (c ∷ cs) is =
    inr (inr (inr (record {
      octets = last_of cs ++ c;
      sealed = last_sealed c cs;
      zero = sym is;
    })))
bound (b ∷ bs) [] is =
    inr (inr (inl (record { octets = last_of bs ++ b; sealed = last_sealed b bs; zero = is })))
bound (b ∷ bs) (c ∷ cs) is =
    by_octets (same_or_not (last_of bs ++ b) (last_of cs ++ c)) (bound bs cs)
  where
    size : length (last_of bs) ≡ length (last_of cs)
    size = last_size bs ∙ sym (last_size cs)

    by_rest : b ≡ c → (bs ≡ cs) ⊎ BreaksDigests (blocks_text bs) (blocks_text cs)
        → (b ∷ bs ≡ c ∷ cs) ⊎ BreaksDigests (blocks_text (b ∷ bs)) (blocks_text (c ∷ cs))
    by_rest same (inl rest) =
        inl (ap (λ (x : List ℕ). x ∷ bs) same ∙ ap (λ (xs : List (List ℕ)). c ∷ xs) rest)
    by_rest same (inr found) =
        inr (longer_both (blocks_text bs) (blocks_text cs)
        (b ++ text_of_lines (seal_line (last_of (b ∷ bs)) ∷ []))
        (c ++ text_of_lines (seal_line (last_of (c ∷ cs)) ∷ [])) found)

    by_octets : (last_of bs ++ b ≡ last_of cs ++ c) ⊎ (last_of bs ++ b ≢ last_of cs ++ c)
        → (last_of bs ≡ last_of cs
        → (bs ≡ cs) ⊎ BreaksDigests (blocks_text bs) (blocks_text cs))
        → (b ∷ bs ≡ c ∷ cs) ⊎ BreaksDigests (blocks_text (b ∷ bs)) (blocks_text (c ∷ cs))
    by_octets (inl same) rest =
        by_rest (rests (last_of bs) (last_of cs) b c same size)
        (rest (fronts (last_of bs) (last_of cs) b c same size))
    by_octets (inr differ) rest =
        inr (inl (record {
          one = last_of bs ++ b;
          other = last_of cs ++ c;
          sealed = last_sealed b bs;
          sealed_too = last_sealed c cs;
          differ = differ;
          same = same_digest (last_of bs ++ b) (last_of cs ++ c) is;
        }))

-- ---- what was read is blocks

-- octets that were read are blocks with their seals, and what no seal covers yet
record AreBlocks (octets : List ℕ) (r : HistoryRead) : Type 0 where
  pub blocks : List (List ℕ)
  pub seal : r.seal ≡ last_of blocks
  pub text : octets ≡ blocks_text blocks ++ text_of_lines r.unsealed

-- a line that isn't of a seal
one_more : (octets line : List ℕ) (r s : HistoryRead) → AreBlocks octets r → s.seal ≡ r.seal
    → s.unsealed ≡ r.unsealed ++ line ∷ []
    → AreBlocks (octets ++ text_of_lines (line ∷ [])) s
one_more octets line r s are seal unsealed = record {
  blocks = are.blocks;
  seal = seal ∙ are.seal;
  text =
      ap (λ (xs : List ℕ). xs ++ text_of_lines (line ∷ [])) are.text
      ∙ append_assoc (blocks_text are.blocks) (text_of_lines r.unsealed) (text_of_lines (line ∷ []))
      ∙ ap (λ (xs : List ℕ). blocks_text are.blocks ++ xs)
      (sym (texts_both r.unsealed (line ∷ [])) ∙ ap text_of_lines (sym unsealed));
}

-- the line of the next seal
one_seal : (octets line : List ℕ) (r : HistoryRead) → AreBlocks octets r
    → line ≡ seal_line (seal_of r.seal r.unsealed)
    → AreBlocks (octets ++ text_of_lines (line ∷ [])) (with_seal r)
one_seal octets line r are is =
    let block : List ℕ = text_of_lines r.unsealed in
    let seal : seal_of r.seal r.unsealed ≡ last_of (block ∷ are.blocks) =
    ap (λ (xs : List ℕ). encode_lower (sha256 (xs ++ block))) are.seal in
    record {
      blocks = block ∷ are.blocks;
      seal = seal;
      text =
          ap (λ (xs : List ℕ). xs ++ text_of_lines (line ∷ [])) are.text
          ∙ append_assoc (blocks_text are.blocks) block (text_of_lines (line ∷ []))
          ∙ ap (λ (xs : List ℕ). blocks_text are.blocks ++ (block ++ text_of_lines (xs ∷ [])))
          (is ∙ ap seal_line seal)
          ∙ sym (append-nil _);
    }

both_first : (a b : Bool) → (a && b) ≡ true → a ≡ true
both_first true b both = refl
both_first false b both = absurd cc

both_second : (a b : Bool) → (a && b) ≡ true → b ≡ true
both_second true b both = both
both_second false b both = absurd cc

-- lines that are the same by length and front
same_line : (right line : List ℕ) → is_same_line right line ≡ true → line ≡ right
same_line right line is =
    let size = eqb-true (length line) (length right) (both_first (length line == length right) (starts_with (λ a b. a == b) line right) is) in
    let parts = begins_parts line right (both_second (length line == length right) (starts_with (λ a b. a == b) line right) is) in
    let all : length line ≡ length right + length (drop (length right) line) =
    ap length parts ∙ length-append right (drop (length right) line) in
    parts
    ∙ ap (λ (xs : List ℕ). right ++ xs)
    (nil_from_length (drop (length right) line) (omega (arith, size, all)))
    ∙ append-nil right

line_blocks : (octets line : List ℕ) (r s : HistoryRead) → AreBlocks octets r
    → read_line line r ≡ Some s → AreBlocks (octets ++ text_of_lines (line ∷ [])) s
line_blocks octets line r s are is = by_mark (is_of_seal line) is
  where
    by_seal : (t : Bool) → is_right_seal line r ≡ t → sealed_by t r ≡ Some s
        → AreBlocks (octets ++ text_of_lines (line ∷ [])) s
    by_seal true right is =
        subst (AreBlocks (octets ++ text_of_lines (line ∷ []))) (same_Some (with_seal r) s is)
        (one_seal octets line r are (same_line (seal_line (seal_of r.seal r.unsealed)) line right))
    by_seal false right is = absurd (none-some s is)

    by_request : (o : Option (Actor × Event)) → add_request o line r ≡ Some s
        → AreBlocks (octets ++ text_of_lines (line ∷ [])) s
    by_request None is = absurd (none-some s is)
    by_request (Some e) is =
        let same = same_Some _ s is in
        one_more octets line r s are (ap (λ (x : HistoryRead). x.seal) (sym same))
        (ap (λ (x : HistoryRead). x.unsealed) (sym same))

    by_comment : (t : Bool)
        → (if t then Some (with_comment line r) else add_request (request_in line) line r) ≡ Some s
        → AreBlocks (octets ++ text_of_lines (line ∷ [])) s
    by_comment true is =
        let same = same_Some (with_comment line r) s is in
        one_more octets line r s are (ap (λ (x : HistoryRead). x.seal) (sym same))
        (ap (λ (x : HistoryRead). x.unsealed) (sym same))
    by_comment false is = by_request (request_in line) is

    by_mark : (t : Bool)
        → (if t then sealed_by (is_right_seal line r) r else read_text line r) ≡ Some s
        → AreBlocks (octets ++ text_of_lines (line ∷ [])) s
    by_mark true is = by_seal (is_right_seal line r) refl is
    by_mark false is = by_comment (is_comment line) is

lines_blocks : (octets : List ℕ) (lines : List (List ℕ)) (r s : HistoryRead)
    → AreBlocks octets r → read_lines lines r ≡ Some s
    → AreBlocks (octets ++ text_of_lines lines) s
lines_blocks octets [] r s are is =
    subst (λ (xs : List ℕ). AreBlocks xs s) (sym (append-nil octets))
    (subst (AreBlocks octets) (same_Some r s is) are)
lines_blocks octets (line ∷ lines) r s are is =
    let mid = both_some (read_line line r) (read_lines lines) s is in
    subst (λ (xs : List ℕ). AreBlocks xs s)
    (append_assoc octets (text_of_lines (line ∷ [])) (text_of_lines lines)
    ∙ ap (λ (xs : List ℕ). octets ++ xs) (sym (texts_both (line ∷ []) lines)))
    (lines_blocks (octets ++ text_of_lines (line ∷ [])) lines mid.0 s
    (line_blocks octets line r mid.0 are mid.1) mid.2)

-- octets are their whole lines, and what stands behind the last line feed
in_lines : (line xs : List ℕ)
    → line ++ xs ≡ text_of_lines (lines_from line xs) ++ unfinished_from line xs
in_lines line [] = append-nil line
in_lines line (x ∷ xs) = by_test (x == 10) refl (in_lines [] xs) (in_lines (line ++ x ∷ []) xs)
  where
    by_test : (t : Bool) → (x == 10) ≡ t
        → xs ≡ text_of_lines (lines_from [] xs) ++ unfinished_from [] xs
        → (line ++ x ∷ []) ++ xs ≡ text_of_lines (lines_from (line ++ x ∷ []) xs)
        ++ unfinished_from (line ++ x ∷ []) xs
        → line ++ x ∷ xs
        ≡ text_of_lines (if t then line ∷ lines_from [] xs else lines_from (line ++ x ∷ []) xs)
        ++ (if t then unfinished_from [] xs else unfinished_from (line ++ x ∷ []) xs)
    by_test false is ended on = sym (append_assoc line (x ∷ []) xs) ∙ on
    by_test true is ended on =
        ap (λ (y : ℕ). line ++ y ∷ xs) (eqb-true x 10 is)
        ∙ ap (λ (ys : List ℕ). line ++ 10 ∷ ys) ended
        ∙ sym (append_assoc line (10 ∷ [])
        (text_of_lines (lines_from [] xs) ++ unfinished_from [] xs))
        ∙ sym (append_assoc (line ++ 10 ∷ []) (text_of_lines (lines_from [] xs))
        (unfinished_from [] xs))

-- ---- chapters

-- octets that were read are blocks, and what stands behind the last line feed
record AreTexts (octets : List ℕ) (r : HistoryRead) : Type 0 where
  pub whole : List ℕ
  pub parts : octets ≡ whole ++ r.torn
  pub are : AreBlocks whole r

chapter_texts : (site : List ℕ) (n : ℕ) (octets text : List ℕ) (r s : HistoryRead)
    → AreTexts octets r → read_chapter site n text r ≡ Some s → AreTexts (octets ++ text) s
chapter_texts site n octets text r s texts is = by_test (is_none_left r && begins) refl is
  where
    named : List (List ℕ)
    named = first_lines site n r.seal

    first : List ℕ
    first = text_of_lines named

    rest : List ℕ
    rest = drop (length first) text

    begins : Bool
    begins = starts_with (λ a b. a == b) text first

    begun : HistoryRead
    begun = record r { unsealed = named; torn = unfinished rest }

    by_begin : is_none_left r ≡ true → begins ≡ true → read_lines (whole_lines rest) begun ≡ Some s
        → AreTexts (octets ++ text) s
    by_begin left begin is =
        let unsealed : r.unsealed ≡ [] = nil_from_length r.unsealed
        (eqb-true (length r.unsealed) 0
        (both_first (length r.unsealed == 0) (length r.torn == 0) left)) in
        let torn : r.torn ≡ [] = nil_from_length r.torn
        (eqb-true (length r.torn) 0
        (both_second (length r.unsealed == 0) (length r.torn == 0) left)) in
        let lines : List ℕ = text_of_lines (whole_lines rest) in
        let here : AreBlocks (texts.whole ++ first) begun = record {
          blocks = texts.are.blocks;
          seal = texts.are.seal;
          text = ap (λ (xs : List ℕ). xs ++ first)
              (texts.are.text
              ∙ ap (λ (ls : List (List ℕ)). blocks_text texts.are.blocks ++ text_of_lines ls) unsealed
              ∙ append-nil (blocks_text texts.are.blocks));
        } in
        record {
          whole = (texts.whole ++ first) ++ lines;
          parts =
              ap (λ (xs : List ℕ). xs ++ text)
              (texts.parts ∙ ap (λ (xs : List ℕ). texts.whole ++ xs) torn ∙ append-nil texts.whole)
              ∙ ap (λ (xs : List ℕ). texts.whole ++ xs)
              (begins_parts text first begin ∙ ap (λ (xs : List ℕ). first ++ xs) (in_lines [] rest))
              ∙ sym (append_assoc texts.whole first (lines ++ unfinished rest))
              ∙ sym (append_assoc (texts.whole ++ first) lines (unfinished rest))
              ∙ ap (λ (xs : List ℕ). ((texts.whole ++ first) ++ lines) ++ xs)
              (sym (lines_keep_torn (whole_lines rest) begun s is));
          are = lines_blocks (texts.whole ++ first) (whole_lines rest) begun s here is;
        }

    by_test : (t : Bool) → (is_none_left r && begins) ≡ t
        → (if t then read_lines (whole_lines rest) begun else None) ≡ Some s
        → AreTexts (octets ++ text) s
    by_test true both is =
        by_begin (both_first (is_none_left r) begins both) (both_second (is_none_left r) begins both)
        is
    by_test false both is = absurd (none-some s is)

all_texts : (site : List ℕ) (n : ℕ) (octets : List ℕ) (texts : List (List ℕ)) (r s : HistoryRead)
    → AreTexts octets r → read_from site n texts r ≡ Some s
    → AreTexts (octets ++ octets_of texts) s
all_texts site n octets [] r s are is =
    subst (λ (xs : List ℕ). AreTexts xs s) (sym (append-nil octets))
    (subst (AreTexts octets) (same_Some r s is) are)
all_texts site n octets (text ∷ texts) r s are is =
    let mid = both_some (read_chapter site n text r) (read_from site (suc n) texts) s is in
    subst (λ (xs : List ℕ). AreTexts xs s) (append_assoc octets text (octets_of texts))
    (all_texts site (suc n) (octets ++ text) texts mid.0 s
    (chapter_texts site n octets text r mid.0 are mid.1) mid.2)

nothing_yet : AreTexts [] nothing_read
nothing_yet = record {
  whole = [];
  parts = refl;
  are = record { blocks = []; seal = refl; text = refl };
}

-- sealed chapters are blocks
record IsSealedText (octets seal : List ℕ) : Type 0 where
  pub blocks : List (List ℕ)
  pub last : last_of blocks ≡ seal
  pub text : octets ≡ blocks_text blocks

history_blocks : (site : List ℕ) (texts : List (List ℕ)) (seal : List ℕ) → AreSealed site texts seal
    → IsSealedText (octets_of texts) seal
history_blocks site [] seal sealed = absurd (none-some sealed.reading sealed.read)
history_blocks site (text ∷ texts) seal sealed =
    let r = sealed.reading in
    let all = all_texts site 1 [] (text ∷ texts) nothing_read r nothing_yet sealed.read in
    let unsealed : r.unsealed ≡ [] = nil_from_length r.unsealed
    (eqb-true (length r.unsealed) 0 (both_first _ _ sealed.ended)) in
    let torn : r.torn ≡ [] = nil_from_length r.torn
    (eqb-true (length r.torn) 0 (both_second _ _ sealed.ended)) in
    record {
      blocks = all.are.blocks;
      last = sym all.are.seal ∙ sealed.last;
      text =
          all.parts ∙ ap (λ (xs : List ℕ). all.whole ++ xs) torn ∙ append-nil all.whole
          ∙ all.are.text
          ∙ ap (λ (ls : List (List ℕ)). blocks_text all.are.blocks ++ text_of_lines ls) unsealed
          ∙ append-nil (blocks_text all.are.blocks);
    }

pub seals_bind_their_texts : SealsBindTheirTexts
seals_bind_their_texts site another texts others seal one two differ =
    let a = history_blocks site texts seal one in
    let b = history_blocks another others seal two in
    by_bound a.blocks b.blocks (a.text) (b.text) (bound a.blocks b.blocks (a.last ∙ sym b.last))
  where
    by_bound : (bs cs : List (List ℕ)) → octets_of texts ≡ blocks_text bs
        → octets_of others ≡ blocks_text cs
        → (bs ≡ cs) ⊎ BreaksDigests (blocks_text bs) (blocks_text cs)
        → BreaksDigests (octets_of texts) (octets_of others)
    by_bound bs cs one two (inl same) =
        absurd (differ (one ∙ ap blocks_text same ∙ sym two))
    by_bound bs cs one two (inr found) =
        subst (λ (xs : List ℕ). BreaksDigests xs (octets_of others)) (sym one)
        (subst (BreaksDigests (blocks_text bs)) (sym two) found)
