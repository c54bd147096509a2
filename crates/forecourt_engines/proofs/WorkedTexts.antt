-- A full book, by computing the definitions: what a message is answered with, and that it makes no
-- row.
use Rattle.std.proofs.Common.{◌≡◌, ℕ, [], ◌∷◌, Ok, true, false, refl}
use Rattle.site_base.specs.declared.actor.Actor.TheVariants.{Till}
use Rattle.site_base.specs.declared.answer.Answer.TheVariants.{Done}
use Rattle.site_base.specs.declared.event.Event.TheVariants.{SignOn}
use Rattle.site_base.specs.declared.row.Row.{Row}
use Rattle.app_message.specs.declared.kind.Kind.TheVariants.{Write}
use Rattle.app_message.specs.Telegram.{Telegram, entry, telegram}
use Rattle.device_map.specs.Addresses.{database_at}
use Rattle.device_map.specs.Nodes.{for_us, till_at}
use Rattle.device_map.specs.Replies.{number_message}
use Rattle.device_map.specs.Requests.{command_in, request_at}
use Rattle.forecourt_engines.specs.Answers.{answer_to, book_after}
use Rattle.site_book.specs.Book.{Book, is_full}

-- till t signed on
abbrev signed_on : ℕ → Row
signed_on t = record { actor = Till t; event = SignOn; reply = Ok Done }

-- a book that allows two rows, with one and with two
abbrev one_row : Book
one_row = record {
  config = record { rows = 2; managers = []; products = []; points = [] };
  rows = signed_on 1 ∷ [];
  forgotten = 0;
}

abbrev two_rows : Book
two_rows = record one_row { rows = signed_on 1 ∷ signed_on 2 ∷ [] }

-- till 3 signs on; and what isn't a request
abbrev sign_on : Telegram
sign_on = telegram (1 ∷ 1 ∷ []) (2 ∷ 3 ∷ []) Write 4 (1 ∷ []) (entry 49 [] ∷ [])

abbrev to_another_site : Telegram
to_another_site = telegram (1 ∷ 2 ∷ []) (2 ∷ 3 ∷ []) Write 4 (1 ∷ []) (entry 49 [] ∷ [])

isn't_full : is_full one_row ≡ false
isn't_full = refl

full : is_full two_rows ≡ true
full = refl

-- a request is answered with 30, and makes no row
told_30 : answer_to two_rows sign_on ≡ number_message sign_on 30
unfolding request_at for_us till_at database_at command_in
told_30 = refl

makes_no_row : book_after two_rows sign_on ≡ two_rows
unfolding request_at for_us till_at database_at command_in
makes_no_row = refl

-- what means no event is told so, full or not
told_50 : answer_to two_rows to_another_site ≡ number_message to_another_site 50
unfolding request_at for_us
told_50 = refl
