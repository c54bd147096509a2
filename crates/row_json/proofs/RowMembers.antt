-- The members of a row, and that none of them is a float.
use Rattle.std.proofs.Common.{◌≡◌, ℕ, false, List, Option, Some, None, refl, codes}
use Rattle.serde_json.specs.Data.{Data, Members, member, no_members, object}
use Rattle.serde_json.specs.Written.{has_float, members_have_float}
use Rattle.site_base.specs.declared.state.PointState.{PointState}
use Rattle.site_base.specs.Events.{point_named}
use Rattle.site_book.specs.declared.named_sale.NamedSale.{NamedSale}
use Rattle.site_json.specs.Figures.{text_if}
use Rattle.row_json.specs.declared.told_row.ToldRow.{ToldRow}
use Rattle.row_json.specs.RowObjects.{member_if, point_data, put_if, row_data, sale_told}
use Rattle.row_json.specs.RowObjects.{state_data}

pub object_same : (a b : Members) → object a ≡ object b → a ≡ b
object_same a b same = cc

-- members that are put at their places stand there
pub placed : (a t e r n : Data) (point sale state : Option Data)
    → put_if (codes "state") state (put_if (codes "sale") sale (put_if (codes "point") point
    (member (codes "actor") a (member (codes "at") t (member (codes "event") e
    (member (codes "reply") r (member (codes "row") n no_members)))))))
    ≡ member (codes "actor") a (member (codes "at") t (member (codes "event") e
    (member_if (codes "point") point (member (codes "reply") r (member (codes "row") n
    (member_if (codes "sale") sale (member_if (codes "state") state no_members)))))))
placed a t e r n None None None = refl
placed a t e r n None None (Some s) = refl
placed a t e r n None (Some x) None = refl
placed a t e r n None (Some x) (Some s) = refl
placed a t e r n (Some p) None None = refl
placed a t e r n (Some p) None (Some s) = refl
placed a t e r n (Some p) (Some x) None = refl
placed a t e r n (Some p) (Some x) (Some s) = refl

-- ---- no float

no_float_time : (time : Option (List ℕ)) → has_float (text_if time) ≡ false
no_float_time None = refl
no_float_time (Some time) = refl

no_float_point : (k : List ℕ) (point : Option ℕ) (ms : Members)
    → members_have_float ms ≡ false
    → members_have_float (member_if k (point_data point) ms) ≡ false
no_float_point k None ms rest = rest
no_float_point k (Some p) ms rest = rest

no_float_state : (k : List ℕ) (state : Option PointState) (ms : Members)
    → members_have_float ms ≡ false
    → members_have_float (member_if k (state_data state) ms) ≡ false
no_float_state k None ms rest = rest
no_float_state k (Some state) ms rest = rest

no_float_sale : (k : List ℕ) (sale : Option NamedSale) (ms : Members)
    → members_have_float ms ≡ false
    → members_have_float (member_if k (sale_told sale) ms) ≡ false
no_float_sale k None ms rest = rest
no_float_sale k (Some x) ms rest = rest

pub no_float_row : (x : ToldRow) → has_float (row_data x) ≡ false
no_float_row x =
    let last = no_float_state (codes "state") x.state no_members refl in
    let sale = no_float_sale (codes "sale") x.sale _ last in
    rw (no_float_time x.time)
    (no_float_point (codes "point") (point_named x.row.event) _ sale)
