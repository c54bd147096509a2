use Rattle.std.proofs.Common.{ap, sym, ◌∙◌, rules}
use Rattle.site_book.proofs.RowByRow.{site_more, none_within}
use Rattle.site_book.proofs.audit.run_again.Goals as goal
use Rattle.site_book.proofs.audit.run_again.Goals.{in-Some+in_ok-take_step-in-Some, in-None}

pub loop-place-preserved : goal.loop-place-preserved
loop-place-preserved c =
    elim c.match-get.branch [
      | in-Some+in_ok-take_step-in-Some w ↦ record {
        so_far = site_more c.args.site.now.site c.loop-place.site.site c.match-get.site.site
            c.args.rows.now.rows c.loop-place.place _ c.loop-place.invariant.so_far
            (sym c.get.ensures ∙ w.in-Some.is)
            (ap (λ x. x.site) w.site-is ∙ w.in_ok-take_step-in-Some.ensures);
        end = c.loop-place.invariant.end;
      }
      | in-None w ↦ absurd (none_within c.args.rows.now.rows c.loop-place.place (search rules)
          (sym c.get.ensures ∙ w.in-None.is))
    ]
