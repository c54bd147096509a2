-- What a session over memory has done, from what its reader, its writer and its counter began with.
use Rattle.std.proofs.Common.{◌≡◌, ℕ, List, [], Option, Some, map, subst}
use Rattle.app_message.specs.Telegram.{Telegram}
use Rattle.site_base.specs.declared.row.Row.{Row}
use Rattle.counter_desk.specs.declared.receipt.Receipt.{Receipt}
use Rattle.counter_desk.specs.Receipts.{receipted_row}
use Rattle.till_session.specs.declared.session.SessionEnd.{SessionEnd}
use Rattle.till_session.specs.Ends.{Served}
use Rattle.desk_days.specs.Sections.{AreServed, octets_of}

pub are_served : (turns : ℕ) (messages : List Telegram) (octets begun : List ℕ)
    (left told : Option (List ℕ)) (rows rows_new : List Row) (old : List Receipt) (end : SessionEnd)
    → octets ≡ octets_of messages → begun ≡ [] → rows ≡ map receipted_row old
    → Served turns (Some octets) left (Some begun) told rows rows_new end
    → AreServed turns messages old end
are_served turns messages octets begun left told rows rows_new old end spelled empty receipted
    served =
    record {
      left = left;
      told = told;
      rows = rows_new;
      served =
          subst (λ r. Served turns (Some r) left (Some []) told (map receipted_row old) rows_new
          end)
          spelled
          (subst (λ w. Served turns (Some octets) left (Some w) told (map receipted_row old)
          rows_new end)
          empty
          (subst (λ rs. Served turns (Some octets) left (Some begun) told rs rows_new end)
          receipted served));
    }
