use Rattle.std.proofs.Common.{arith, drop, length, subst}
use Rattle.memchr.specs.Find.{Nowhere, Passes, is_byte}
use Rattle.station.proofs.Marks.{none_between, rest_size, rest_whole}
use Rattle.station.proofs.slots.next_place.Goals as goal

pub returns-in-Some-clause-between : goal.returns-in-Some-clause-between
returns-in-Some-clause-between c =
    none_between c.args.mark c.args.from c.in-Some.at c.args.marks.now
    (subst (λ hay. Nowhere (Passes (is_byte c.args.mark) hay) 0 c.in-Some.at)
    (rest_whole c.args.from c.args.marks.now) c.in-Some.ensures.0.before)

pub returns-in-None-clause-none : goal.returns-in-None-clause-none
returns-in-None-clause-none c = λ k low within.
    let rest = drop c.args.from c.args.marks.now in
    let size = rest_size c.args.from c.args.marks.now c.if-from-marks.false in
    none_between c.args.mark c.args.from (length rest) c.args.marks.now
    (subst (λ hay. Nowhere (Passes (is_byte c.args.mark) hay) 0 (length hay))
    (rest_whole c.args.from c.args.marks.now) c.in-None.ensures) k low
    (omega (arith, within, size))
