-- A row of a history as JSON. Members stand in the order of their names.
use Rattle.std.specs.Prelude.{ℕ, List, ◌++◌, codes, Option, Some, None, option_map}
use Rattle.serde_json.specs.Data.{Data, number, string, object, unsigned}
use Rattle.serde_json.specs.Data.{Members, member, no_members, put}
use Rattle.serde_json.specs.Written.{compact_text}
use Rattle.site_base.specs.declared.state.PointState.{PointState}
use Rattle.site_base.specs.Events.{point_named}
use Rattle.site_base.specs.Words.{actor_word, event_words, join_words}
use Rattle.transaction_buffer.specs.Sales.{status_of}
use Rattle.site_book.specs.declared.named_sale.NamedSale.{NamedSale}
use Rattle.site_json.specs.Figures.{text_if}
use Rattle.site_json.specs.Points.{state_word}
use Rattle.site_json.specs.Transactions.{status_word}
use Rattle.row_json.specs.declared.told_row.ToldRow.{ToldRow}
use Rattle.row_json.specs.ReplyWords.{reply_words}

-- a sale: what it is called by at the row's point, what it came to, and how it stands
abbrev pub sale_data : NamedSale → Data
sale_data x =
    object
    (member (codes "cents") (number (unsigned x.sale.cents))
    (member (codes "millilitres") (number (unsigned x.sale.volume))
    (member (codes "number") (number (unsigned x.number))
    (member (codes "shift") (number (unsigned x.shift))
    (member (codes "status") (string (status_word (status_of x.sale.standing)))
    no_members)))))

-- what each row tells: who asked what, when, the reply, and the row's number
abbrev pub first_data : ToldRow → Data
first_data x =
    object
    (member (codes "actor") (string (actor_word x.row.actor))
    (member (codes "at") (text_if x.time)
    (member (codes "event") (string (join_words (event_words x.row.event)))
    (member (codes "reply") (string (reply_words x.row.reply))
    (member (codes "row") (number (unsigned x.number))
    no_members)))))

-- the point that it names
abbrev pub point_data : Option ℕ → Option Data
point_data point = option_map (λ p. number (unsigned p)) point

-- the state of that point
abbrev pub state_data : Option PointState → Option Data
state_data state = option_map (λ s. string (state_word s)) state

-- the sale that it makes or changes
abbrev pub sale_told : Option NamedSale → Option Data
sale_told sale = option_map sale_data sale

-- a member that may be missing
abbrev pub member_if : List ℕ → Option Data → Members → Members
member_if name None members = members
member_if name (Some d) members = member name d members

-- .. put among others, at its place
abbrev pub put_if : List ℕ → Option Data → Members → Members
put_if name None members = members
put_if name (Some d) members = put name d members

-- a row as JSON: `point` and `state` stand where it names a point, `sale` where it makes or changes
-- one
abbrev pub row_data : ToldRow → Data
row_data x =
    object
    (member (codes "actor") (string (actor_word x.row.actor))
    (member (codes "at") (text_if x.time)
    (member (codes "event") (string (join_words (event_words x.row.event)))
    (member_if (codes "point") (point_data (point_named x.row.event))
    (member (codes "reply") (string (reply_words x.row.reply))
    (member (codes "row") (number (unsigned x.number))
    (member_if (codes "sale") (sale_told x.sale)
    (member_if (codes "state") (state_data x.state)
    no_members))))))))

-- its line
abbrev pub row_line : ToldRow → List ℕ
row_line x = compact_text (row_data x) ++ codes "\n"
