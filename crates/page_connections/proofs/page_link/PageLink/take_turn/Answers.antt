use Rattle.page_connections.specs.Pages.{calls_of}
use Rattle.page_connections.proofs.Answering.{answered_then}
use Rattle.page_connections.proofs.Reading.{on_then}
use Rattle.page_connections.proofs.page_link.PageLink.take_turn.Goals as goal

pub returns-in_default-clause-answers : goal.returns-in_default-clause-answers
returns-in_default-clause-answers c =
    answered_then c.args.page.now (calls_of c.args.self.now) (calls_of c.loop.self)
    (calls_of c.go_on.new.self) c.loop.invariant.answers c.in_ok-end.ensures.answers

pub returns-in_default-clause-reads : goal.returns-in_default-clause-reads
returns-in_default-clause-reads c =
    on_then c.args.self.now c.loop.self c.go_on.new.self c.loop.invariant.reads
    c.in_ok-end.ensures.reads

pub loop-preserved : goal.loop-preserved
loop-preserved c = record {
  answers = answered_then c.args.page.now (calls_of c.args.self.now) (calls_of c.loop.self)
      (calls_of c.go_on.new.self) c.loop.invariant.answers c.in_ok-end.ensures.answers;
  reads = on_then c.args.self.now c.loop.self c.go_on.new.self c.loop.invariant.reads
      c.in_ok-end.ensures.reads;
}
