-- What is held is given, and what the input has left follows.
use Rattle.std.proofs.Common.{◌<◌, ℕ, true, false, [], length, ap, arith, rules, subst}
use Rattle.std.proofs.Common.{length-drop, length-take}
use Rattle.std.specs.Io.KnownBytes.{Consumes, IsAtEnd, Keeps}
use Rattle.std.specs.Prelude.{◌≢◌}
use Rattle.unmarked_input.specs.Unmarked.{held_of, unmarked_left}
use Rattle.unmarked_input.proofs.Givings.{left_of, left_of-ended, left_of-given}
use Rattle.unmarked_input.proofs.unmarked.UnmarkedRead.read.Goals as goal

-- the input has ended
pub returns-then-branch-eq0-clause-bytes : goal.returns-then-branch-eq0-clause-bytes
returns-then-branch-eq0-clause-bytes g c =
    let start = unmarked_left g.R.Read.remaining c.args.self.now in
    let input = g.R.Read.remaining c.loop-self.self.input in
    let rest = g.R.Read.remaining c.read.new.self in
    let held = held_of c.loop-self.self in
    let looking : Keeps start (left_of true held input) =
    subst (λ b. Keeps start (left_of b held input)) c.loop-self-test.true c.loop-self.invariant in
    let read : Consumes input rest [] = search rules in
    let end : IsAtEnd rest = search rules in
    let room : c.loop-self.self.end < 3 = c.loop-self.self.room c.loop-self-test.true in
    let short : length held < 3 = omega (arith, length-take {A = ℕ}) in
    rw c.give.ensures.input (left_of-given start rest _ held _ _ _
    (left_of-ended start input rest held short looking read end)
    c.give.ensures.known c.give.ensures.ok c.give.ensures.held c.give.ensures.none (λ _. end))

-- octets are held
pub returns-then-self-clause-bytes : goal.returns-then-self-clause-bytes
returns-then-self-clause-bytes g c =
    let start = unmarked_left g.R.Read.remaining c.args.self.now in
    let input = g.R.Read.remaining c.loop-self.self.input in
    let held = held_of c.loop-self.self in
    let known : Keeps start (left_of false held input) =
    subst (λ b. Keeps start (left_of b held input)) c.loop-self-test.false c.loop-self.invariant in
    let some : held ≢ [] =
    λ none. omega (arith, ap length none, length-take {A = ℕ}, length-drop {A = ℕ}) in
    let given = c.give-then-self.ensures in
    rw given.input (left_of-given start input _ held _ _ _ known
    given.known given.ok given.held given.none (λ none. absurd (some none)))
