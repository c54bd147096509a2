-- Rows as a list of rows keeps them: the figures of products stand in a list beside them.
use Rattle.std.specs.Prelude.{◌≡◌, ℕ, ◌+◌, ◌≤◌, Bool, true, List, [], ◌∷◌, length, map, nat_lt}
use Rattle.std.specs.Prelude.{slice_index_or, Option, Result, Ok, Err}
use Rattle.std.specs.List.{list_all}
use Rattle.site_base.specs.declared.actor.Actor.{Actor}
use Rattle.site_base.specs.declared.answer.Answer.{Answer}
use Rattle.site_base.specs.declared.answer.Answer.TheVariants as answers
use Rattle.site_base.specs.declared.event.Event.{Event}
use Rattle.site_book.specs.declared.kept_row.Figures.{Figures}
use Rattle.site_book.specs.declared.kept_row.KeptReply.{KeptReply}
use Rattle.site_book.specs.declared.kept_row.KeptReply.TheVariants.{Refused, Done, Calling, Start}
use Rattle.site_book.specs.declared.kept_row.KeptReply.TheVariants.{Flowed, HungUp, NoSale, Sold}
use Rattle.site_book.specs.declared.kept_row.KeptReply.TheVariants.{Stopped, Ending, Locked}
use Rattle.site_book.specs.declared.kept_row.KeptReply.TheVariants.{Unlocked}
use Rattle.site_book.specs.declared.kept_row.KeptReply.TheVariants.{Cleared, ShiftClosed, Drawn}
use Rattle.site_book.specs.declared.kept_row.KeptReply.TheVariants.{PointIs, TransactionIs}
use Rattle.site_book.specs.declared.kept_row.KeptReply.TheVariants.{ProductIs}
use Rattle.site_book.specs.declared.kept_row.KeptReply.TheVariants.{SiteIs}
use Rattle.site_book.specs.declared.kept_row.PointMarks.{PointMarks}
use Rattle.site_book.specs.declared.kept_row.SaleMarks.{SaleMarks}
use Rattle.site_base.specs.declared.refusal.Refusal.{Refusal}
use Rattle.site_base.specs.declared.row.Row.{Row}
use Rattle.site_base.specs.declared.state.Preset.{Preset}
use Rattle.site_base.specs.declared.view.PointView.{PointView}
use Rattle.site_base.specs.declared.view.ProductView.{ProductView}
use Rattle.site_base.specs.declared.view.TransactionView.{TransactionView}

-- a row as it is kept
pub record RowFacts : Type 0 where
  pub actor : Actor
  pub event : Event
  pub reply : KeptReply

-- ---- as it is kept

-- a product's figures
abbrev pub figures_of : ProductView → Figures
figures_of v = record {
  metered = v.metered;
  running = v.running;
  payable = v.payable;
  locked = v.locked;
  cleared = v.cleared;
  adjusted = v.adjusted;
}

-- the figures that a reply adds to those kept
abbrev pub figures_in_reply : Result Answer Refusal → List Figures
figures_in_reply (Ok (answers.ProductIs v)) = figures_of v ∷ []
figures_in_reply reply = []

abbrev pub kept_point : PointView → KeptReply
kept_point v =
    PointIs
    (record { state = v.state; out = v.out; holder = v.holder; ending = v.ending; test = v.test })
    v.preset v.prepaid v.price v.volume

abbrev pub kept_transaction : TransactionView → KeptReply
kept_transaction v =
    TransactionIs (record { status = v.status; till = v.till; product = v.product })
    v.price v.prepaid v.volume v.cents

-- a reply as it is kept, where its figures, if it has any, stand at this place
abbrev pub kept_reply : ℕ → Result Answer Refusal → KeptReply
kept_reply at (Err refusal) = Refused refusal
kept_reply at (Ok answers.Done) = Done
kept_reply at (Ok answers.Calling) = Calling
kept_reply at (Ok (answers.Start preset price)) = Start preset price
kept_reply at (Ok (answers.Flowed growth)) = Flowed growth
kept_reply at (Ok answers.HungUp) = HungUp
kept_reply at (Ok answers.NoSale) = NoSale
kept_reply at (Ok (answers.Sold seq growth)) = Sold seq growth
kept_reply at (Ok answers.Stopped) = Stopped
kept_reply at (Ok answers.Ending) = Ending
kept_reply at (Ok answers.Locked) = Locked
kept_reply at (Ok answers.Unlocked) = Unlocked
kept_reply at (Ok (answers.Cleared cents)) = Cleared cents
kept_reply at (Ok (answers.ShiftClosed shift)) = ShiftClosed shift
kept_reply at (Ok (answers.Drawn growth)) = Drawn growth
kept_reply at (Ok (answers.PointIs v)) = kept_point v
kept_reply at (Ok (answers.TransactionIs v)) = kept_transaction v
kept_reply at (Ok (answers.ProductIs v)) = ProductIs v.price at
kept_reply at (Ok (answers.SiteIs v)) = SiteIs v

abbrev pub kept_row : ℕ → Row → RowFacts
kept_row at r = record { actor = r.actor; event = r.event; reply = kept_reply at r.reply }

-- ---- what it is

abbrev pub no_figures : Figures
no_figures = record { metered = 0; running = 0; payable = 0; locked = 0; cleared = 0; adjusted = 0 }

abbrev pub product_shown : ℕ → Figures → ProductView
product_shown price f = record {
  price = price;
  metered = f.metered;
  running = f.running;
  payable = f.payable;
  locked = f.locked;
  cleared = f.cleared;
  adjusted = f.adjusted;
}

abbrev pub point_marked : PointMarks → Preset → Option ℕ → ℕ → ℕ → PointView
point_marked m preset prepaid price volume = record {
  state = m.state;
  out = m.out;
  holder = m.holder;
  ending = m.ending;
  test = m.test;
  preset = preset;
  prepaid = prepaid;
  price = price;
  volume = volume;
}

abbrev pub sale_marked : SaleMarks → ℕ → Option ℕ → ℕ → ℕ → TransactionView
sale_marked m price prepaid volume cents = record {
  price = price;
  volume = volume;
  cents = cents;
  prepaid = prepaid;
  status = m.status;
  till = m.till;
  product = m.product;
}

-- the reply that is kept so, with these figures beside it
abbrev pub reply_of_kept : List Figures → KeptReply → Result Answer Refusal
reply_of_kept fs (Refused refusal) = Err refusal
reply_of_kept fs Done = Ok answers.Done
reply_of_kept fs Calling = Ok answers.Calling
reply_of_kept fs (Start preset price) = Ok (answers.Start preset price)
reply_of_kept fs (Flowed growth) = Ok (answers.Flowed growth)
reply_of_kept fs HungUp = Ok answers.HungUp
reply_of_kept fs NoSale = Ok answers.NoSale
reply_of_kept fs (Sold seq growth) = Ok (answers.Sold seq growth)
reply_of_kept fs Stopped = Ok answers.Stopped
reply_of_kept fs Ending = Ok answers.Ending
reply_of_kept fs Locked = Ok answers.Locked
reply_of_kept fs Unlocked = Ok answers.Unlocked
reply_of_kept fs (Cleared cents) = Ok (answers.Cleared cents)
reply_of_kept fs (ShiftClosed shift) = Ok (answers.ShiftClosed shift)
reply_of_kept fs (Drawn growth) = Ok (answers.Drawn growth)
reply_of_kept fs (PointIs m preset prepaid price volume) =
    Ok (answers.PointIs (point_marked m preset prepaid price volume))
reply_of_kept fs (TransactionIs m price prepaid volume cents) =
    Ok (answers.TransactionIs (sale_marked m price prepaid volume cents))
reply_of_kept fs (ProductIs price at) =
    Ok (answers.ProductIs (product_shown price (slice_index_or fs at no_figures)))
reply_of_kept fs (SiteIs v) = Ok (answers.SiteIs v)

abbrev pub row_of_kept : List Figures → RowFacts → Row
row_of_kept fs k = record { actor = k.actor; event = k.event; reply = reply_of_kept fs k.reply }

abbrev pub rows_of_kept : List Figures → List RowFacts → List Row
rows_of_kept fs ks = map (λ k. row_of_kept fs k) ks

-- the reply's figures, if it has any, are among the first n
abbrev pub is_within : ℕ → KeptReply → Bool
is_within n (ProductIs price at) = nat_lt at n
is_within n reply = true

-- What a list of rows always keeps: each row's figures are there, and in both lists there is room
-- for as many more as it says.
pub record AreRowsKept (ks : List RowFacts) (fs : List Figures) (room most_rows most_figures : ℕ) :
    Type 0 where
  pub within : list_all (λ k. is_within (length fs) k.reply) ks ≡ true
  pub rows : length ks + room ≤ most_rows
  pub figures : length fs + room ≤ most_figures
