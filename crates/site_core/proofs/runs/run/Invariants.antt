use Rattle.std.proofs.Common.{◌≡◌, ◌++◌, length, take, drop}
use Rattle.written_site.specs.SiteRun.{replies_to, site_at_end}
use Rattle.site_core.proofs.runs.run.Given as goal

abbrev pub invariant-loop-entry : goal.invariant-loop-entry
invariant-loop-entry l = record {
  told : l.replies.items ++ replies_to l.site.site (drop l.entry-index l.events)
      ≡ replies_to l.fn.site.site l.events;
  rest : site_at_end l.site.site (drop l.entry-index l.events)
      ≡ site_at_end l.fn.site.site l.events;
  so_far : l.site.site ≡ site_at_end l.fn.site.site (take l.entry-index l.events);
  count : length l.replies.items ≡ l.entry-index;
}
