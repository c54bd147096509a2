use Rattle.std.proofs.Common.{sym}
use Rattle.std.proofs.lemmas.Bool.{eqb-true}
use Rattle.std.proofs.lemmas.List.{nil_from_length}
use Rattle.forecourt_engines.proofs.AnsweredStreams.{HasLed, ends, ends_whole}
use Rattle.forecourt_engines.proofs.stream.AnsweredStream.answer_in_place.Goals as goal

-- no message ends in what is left
pub returns-in_default-clause-state : goal.returns-in_default-clause-state
returns-in_default-clause-state c =
    (ends c.args.self.now c.args.octets.now c.loop-rest.rest.now c.args.out.now.items
    c.loop-rest.out.items c.loop-rest.self-inside.answerer _ c.take_front.new.self _ c.requires
    c.loop-rest.invariant.leads c.in_default.is c.in_ok-message.ensures.front).state

pub returns-in_default-clause-text : goal.returns-in_default-clause-text
returns-in_default-clause-text c =
    (ends c.args.self.now c.args.octets.now c.loop-rest.rest.now c.args.out.now.items
    c.loop-rest.out.items c.loop-rest.self-inside.answerer _ c.take_front.new.self _ c.requires
    c.loop-rest.invariant.leads c.in_default.is c.in_ok-message.ensures.front).text

-- nothing is left
whole : (c : goal.After-loop-rest) → HasLed c.args.self.now c.args.octets.now c.args.out.now.items
    c.loop-rest.out.items c.loop-rest.self-inside.answerer c.loop-rest.self-inside.decoder
whole c =
    let empty = eqb-true _ _ (sym c.loop-rest-test.ensures) in
    ends_whole c.args.self.now c.args.octets.now c.loop-rest.rest.now c.args.out.now.items
    c.loop-rest.out.items c.loop-rest.self-inside.answerer c.loop-rest.self-inside.decoder
    c.requires c.loop-rest.invariant.leads (nil_from_length c.loop-rest.rest.now empty)
    c.loop-rest.invariant.between

pub returns-clause-state : goal.returns-clause-state
returns-clause-state c = (whole c).state

pub returns-clause-text : goal.returns-clause-text
returns-clause-text c = (whole c).text
