use Rattle.std.proofs.Common.{◌≡◌, None, length, ap, sym, ◌∙◌, arith}
use Rattle.demo.proofs.Messages.{fed_of, fed_whole, is_none, isnt_none, whole_fed}
use Rattle.demo.proofs.message.whole_message.Goals as goal

pub returns-then-is_some-clause-other : goal.returns-then-is_some-clause-other
returns-then-is_some-clause-other c = λ m is.
    let fed = fed_of c.args.octets.now _ _ _ _ c.new-decoder.ensures c.in-Ok.ensures.messages
    c.in-Ok.ensures.fault c.in-Ok.ensures.held in
    let facts = whole_fed c.args.octets.now _ _ _ _ m fed is in
    isnt_none c.in-Ok.fed.fault (sym c.is_some.ensures ∙ c.if-is_some.true) facts.1

pub returns-then-held-gt0-clause-other : goal.returns-then-held-gt0-clause-other
returns-then-held-gt0-clause-other c = λ m is.
    let fed = fed_of c.args.octets.now _ _ _ _ c.new-decoder.ensures c.in-Ok.ensures.messages
    c.in-Ok.ensures.fault c.in-Ok.ensures.held in
    let facts = whole_fed c.args.octets.now _ _ _ _ m fed is in
    let none : length c.feed.new.self.rest ≡ 0 = ap length facts.2 in
    omega arith

pub returns-in-Some-clause-found : goal.returns-in-Some-clause-found
returns-in-Some-clause-found c =
    let fed = fed_of c.args.octets.now _ _ _ _ c.new-decoder.ensures c.in-Ok.ensures.messages
    c.in-Ok.ensures.fault c.in-Ok.ensures.held in
    let none : c.in-Ok.fed.fault ≡ None =
    is_none c.in-Ok.fed.fault (sym c.is_some.ensures ∙ c.if-is_some.false) in
    fed_whole c.args.octets.now _ _ _ _ c.in-Some.message fed c.in-Some.ensures.found none
    (omega arith)

pub returns-in-Ok-clause-other : goal.returns-in-Ok-clause-other
returns-in-Ok-clause-other c = λ m is.
    let fed = fed_of c.args.octets.now _ _ _ _ c.new-decoder.ensures c.in-Ok.ensures.messages
    c.in-Ok.ensures.fault c.in-Ok.ensures.held in
    let facts = whole_fed c.args.octets.now _ _ _ _ m fed is in
    c.in-None.ensures.other m facts.0
