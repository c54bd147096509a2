-- Of a real disk no file is known, so the trait's clauses hold of each result.
use Rattle.std.proofs.Common.{refl}
use Rattle.std.specs.Prelude.{◌≡◌, ⊤, Bool, IfOk, OnOk, Result, Ok, Err}
use Rattle.history_files.proofs.disk.HistoryDiskDisk.TheImpl.Goals as goal

on_ok : {A E : Type 0} → (r : Result A E) → OnOk r ⊤
on_ok (Ok v) = tt
on_ok (Err e) = tt

if_ok : {A E : Type 0} → (r : Result A E) → IfOk r (λ _. ⊤)
if_ok (Ok v) = tt
if_ok (Err e) = tt

if_begun : {E : Type 0} → (r : Result Bool E) (b : Bool) → IfOk r (λ begun. begun ≡ b → ⊤)
if_begun (Ok begun) b = λ is. tt
if_begun (Err e) b = tt

pub read_closed-tells : goal.read_closed-tells
read_closed-tells g x c = record { octets = if_ok c.result; stays = refl }

pub read-tells : goal.read-tells
read-tells g x c = record { octets = if_ok c.result; stays = tt }

pub append-tells : goal.append-tells
append-tells g x c = record { ok = on_ok c.result; moments = tt }

pub sync-tells : goal.sync-tells
sync-tells g x c = record { ok = on_ok c.result; moments = tt }

pub renew-tells : goal.renew-tells
renew-tells g x c = record { ok = on_ok c.result; moments = tt }

pub begin-tells : goal.begin-tells
begin-tells g x c = record {
  begun = if_begun c.result _;
  goes_on = if_begun c.result _;
  moments = tt;
}
