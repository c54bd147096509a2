use Rattle.demo.proofs.NumberPairs.{numbers_are, unparted}
use Rattle.demo.proofs.words.dispenser_in.Goals as goal

pub returns-in_default-split_at_octet-clause-other :
    goal.returns-in_default-split_at_octet-clause-other
returns-in_default-split_at_octet-clause-other c = λ p polls said.
    unparted c.args.text.now c.in-Some.numbers.now p polls c.in-Some.ensures.found
    c.in_default-split_at_octet.ensures.other said

pub returns-in_default-point_of-clause-other : goal.returns-in_default-point_of-clause-other
returns-in_default-point_of-clause-other c = λ p polls said.
    let two = numbers_are c.args.text.now c.in-Some.numbers.now c.in-Some-split_at_octet.first.now
    c.in-Some-split_at_octet.last.now p polls c.in-Some.ensures.found
    c.in-Some-split_at_octet.ensures.found.0 c.in-Some-split_at_octet.ensures.found.1 said in
    c.in_default-point_of.ensures.other p said.least_point said.most_point two.0

pub returns-in_default-polls_of-clause-other : goal.returns-in_default-polls_of-clause-other
returns-in_default-polls_of-clause-other c = λ p polls said.
    let two = numbers_are c.args.text.now c.in-Some.numbers.now c.in-Some-split_at_octet.first.now
    c.in-Some-split_at_octet.last.now p polls c.in-Some.ensures.found
    c.in-Some-split_at_octet.ensures.found.0 c.in-Some-split_at_octet.ensures.found.1 said in
    c.in_default-polls_of.ensures.other polls said.least_polls said.most_polls two.1
