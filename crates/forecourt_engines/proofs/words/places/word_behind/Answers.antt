use Rattle.std.proofs.Common.{◌≡◌, ◌+◌, ◌-◌, ◌<◌, length, length-append, ◌∙◌, ap, arith}
use Rattle.std.proofs.Common.{List, ℕ}
use Rattle.forecourt_engines.specs.LineWords.{line_words, words_in}
use Rattle.forecourt_engines.proofs.Places.{in_back, in_front, none_weaker, words_parted}
use Rattle.forecourt_engines.proofs.Places.{words_unparted}
use Rattle.forecourt_engines.proofs.words.places.word_behind.Goals as goal

pub returns-in_default-clause-found : goal.returns-in_default-clause-found
returns-in_default-clause-found c =
    rw (words_unparted c.args.line.now c.in_default.ensures.other) c.find_word.ensures.found

pub returns-in_default-clause-other : goal.returns-in_default-clause-other
returns-in_default-clause-other c =
    rw (words_unparted c.args.line.now c.in_default.ensures.other) c.find_word.ensures.other

pub returns-then-others-in_front-clause-found : goal.returns-then-others-in_front-clause-found
returns-then-others-in_front-clause-found c =
    let front : List (List ℕ) = words_in c.in-Some.front.now in
    let back : List (List ℕ) = words_in c.in-Some.back.now in
    let within : c.args.others < length front =
    omega (arith, c.if-others-in_front.true, c.count_words-in_front.ensures) in
    rw (
      words_parted c.args.line.now c.in-Some.front.now c.in-Some.back.now
          c.in-Some.ensures.found.0 c.in-Some.ensures.found.1,
      in_front front back c.args.others within,
    )
    c.find_word-then-others-in_front.ensures.found

pub returns-clause-found : goal.returns-clause-found
returns-clause-found c =
    let front : List (List ℕ) = words_in c.in-Some.front.now in
    let back : List (List ℕ) = words_in c.in-Some.back.now in
    let past : c.args.others ≡ length front + (c.args.others - c.count_words-in_front.result) =
    omega (arith, c.if-others-in_front.false, c.count_words-in_front.ensures) in
    rw (
      words_parted c.args.line.now c.in-Some.front.now c.in-Some.back.now
          c.in-Some.ensures.found.0 c.in-Some.ensures.found.1,
      in_back front back c.args.others (c.args.others - c.count_words-in_front.result) past,
    )
    c.find_word-2.ensures.found

pub returns-clause-other : goal.returns-clause-other
returns-clause-other c =
    let front : List (List ℕ) = words_in c.in-Some.front.now in
    let back : List (List ℕ) = words_in c.in-Some.back.now in
    let parted : length (line_words c.args.line.now) ≡ length front + length back =
    ap length (words_parted c.args.line.now c.in-Some.front.now c.in-Some.back.now
    c.in-Some.ensures.found.0 c.in-Some.ensures.found.1)
    ∙ length-append front back in
    none_weaker c.find_word-2.result _ _ (λ few.
    omega (arith, parted, few, c.if-others-in_front.false, c.count_words-in_front.ensures))
    c.find_word-2.ensures.other
