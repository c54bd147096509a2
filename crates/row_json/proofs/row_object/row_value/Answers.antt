use Rattle.std.proofs.Common.{ap, ◌∙◌, sym}
use Rattle.serde_json.specs.Data.{object}
use Rattle.serde_json.specs.View.{view}
use Rattle.serde_json.proofs.Views.{view-Object}
use Rattle.row_json.proofs.RowMembers.{object_same, placed}
use Rattle.row_json.proofs.row_object.row_value.Goals as goal

pub returns : goal.returns
returns c =
    let first = object_same _ _ (sym (view-Object c.in-Object.members)
    ∙ ap view (sym c.in-Object.is) ∙ c.in_ok-members.ensures) in
    view-Object c.put_if-3.new.members
    ∙ ap object (
    c.in_ok-put_if-3.ensures
    ∙ rw (
      c.in_ok-state.ensures,
      c.in_ok-put_if-2.ensures,
      c.in_ok-sale.ensures,
      c.in_ok-put_if.ensures,
      c.point_value-point.ensures,
      c.point.ensures,
      first,
    ) (placed _ _ _ _ _ _ _ _)
    )
