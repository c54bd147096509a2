use Rattle.std.proofs.Common.{◌+◌, ◌≤◌, ◌++◌, ◌∷◌, [], filter, ap, sym, ◌∙◌, arith}
use Rattle.std.proofs.lemmas.List.{append_assoc}
use Rattle.site_book.specs.Changes.{changes_from, is_changing}
use Rattle.site_book.proofs.RowByRow.{changes_more, none_within}
use Rattle.site_book.proofs.book.SiteBook.changes_since.Goals as goal
use Rattle.site_book.proofs.book.SiteBook.changes_since.Goals.{in-Some+in_ok-add_change-in-Some}
use Rattle.site_book.proofs.book.SiteBook.changes_since.Goals.{in-None}

pub loop-at-preserved : goal.loop-at-preserved
loop-at-preserved c =
    elim c.match-row.branch [
      | in-Some+in_ok-add_change-in-Some w ↦ record {
        told =
            ap (λ x. x.items ++ changes_from (c.loop-at.at + 1) c.args.self.now.rows) w.changes-is
            ∙ ap (λ x. x ++ changes_from (c.loop-at.at + 1) c.args.self.now.rows)
            w.in_ok-add_change-in-Some.ensures
            ∙ append_assoc c.loop-at.changes.items (filter is_changing (w.in-Some.row ∷ []))
            (changes_from (c.loop-at.at + 1) c.args.self.now.rows)
            ∙ ap (λ x. c.loop-at.changes.items ++ x)
            (sym (changes_more c.args.self.now.rows c.loop-at.at w.in-Some.row
            (sym (c.row.ensures.kept kept) ∙ w.in-Some.is)))
            ∙ c.loop-at.invariant.told;
        kept = omega (arith, c.loop-at.invariant.kept);
        end = c.loop-at.invariant.end;
      }
      | in-None w ↦ absurd (none_within c.args.self.now.rows c.loop-at.at
          (omega (arith, c.loop-at.invariant.end, c.loop-at-test.true))
          (sym (c.row.ensures.kept kept) ∙ w.in-None.is))
    ]
  where
    kept : c.args.self.now.forgotten ≤ c.loop-at.at
    kept = omega (arith, c.requires, c.loop-at.invariant.kept)
