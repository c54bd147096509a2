use Rattle.forecourt_engines.proofs.OneRequest.{no_token, nothing_asked, nothing_before}
use Rattle.forecourt_engines.proofs.words.asked.read_asked.Goals as goal

pub returns-in-Err-clause-other : goal.returns-in-Err-clause-other
returns-in-Err-clause-other c = λ wrong is.
    nothing_asked c.args.text.now c.in_default.ensures.other (c.in-Err.ensures.other wrong is)

pub returns-in-Err-read_words-clause-other : goal.returns-in-Err-read_words-clause-other
returns-in-Err-read_words-clause-other c = λ wrong is.
    nothing_before c.args.text.now c.in-Some.front.now c.in-Some.back.now
    c.in-Some.ensures.found.0 c.in-Some.ensures.found.1 (c.in-Err-read_words.ensures.other wrong is)

pub returns-in-Err-Wrong-clause-other : goal.returns-in-Err-Wrong-clause-other
returns-in-Err-Wrong-clause-other c = λ wrong is.
    no_token c.args.text.now c.in-Some.front.now c.in-Some.back.now
    c.in-Some.ensures.found.0 c.in-Some.ensures.found.1
    (c.in-Err-Wrong.ensures.other c.in-Err-Wrong.wrong c.in-Err-Wrong.field-0-is)
