use Rattle.std.proofs.Common.{◌≡◌, ◌+◌, ◌++◌, ◌∷◌, [], drop, ap, ◌∙◌, rules}
use Rattle.written_site.specs.SiteStep.{reply_to, site_after}
use Rattle.written_site.specs.SiteRun.{replies_to}
use Rattle.site_core.proofs.RunSteps.{IsNext, told_more, end_more, so_far_more}
use Rattle.site_core.proofs.runs.run.Goals as goal

pub loop-entry-preserved : goal.loop-entry-preserved
loop-entry-preserved c =
    let events = c.args.events.now in
    let i = c.loop-entry.entry-index in
    let e = c.entry-item.result in
    let s = c.loop-entry.site.site in
    let new = c.step.new.self.site in
    let is : IsNext events i e = (c.loop-entry-test.true, c.entry-item.is) in
    let replied : c.step.result ≡ reply_to s e.0 e.1 = c.step.ensures.step.replies
    ∙ ap (λ x. reply_to x e.0 e.1) c.make_room.ensures.site in
    let leads : new ≡ site_after s e.0 e.1 = c.step.ensures.step.leads
    ∙ ap (λ x. site_after x e.0 e.1) c.make_room.ensures.site in
    let told = c.push_reserved.ensures.items
    ∙ ap (λ x. x ++ c.step.result ∷ []) c.make_room.ensures.replies in
    record {
      told = ap (λ x. x ++ replies_to new (drop (i + 1) events)) told
          ∙ told_more c.loop-entry.replies.items s new events i e c.step.result is replied leads
          ∙ c.loop-entry.invariant.told;
      rest = end_more s new events i e is leads ∙ c.loop-entry.invariant.rest;
      so_far = so_far_more c.args.site.now.site s new events i e is c.loop-entry.invariant.so_far
          leads;
      count = search rules;
    }
