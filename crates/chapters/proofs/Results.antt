-- What holds of a result.
use Rattle.std.proofs.Common.{Result, Ok, Err}
use Rattle.std.specs.Prelude.{IfErr, IfOk}

pub if_err_then : {T E : Type 0} (r : Result T E) (P Q : E → Type 0) → ((e : E) → P e → Q e)
    → IfErr r P → IfErr r Q
if_err_then (Ok x) P Q next is = is
if_err_then (Err e) P Q next is = next e is

pub if_ok_then : {T E : Type 0} (r : Result T E) (P Q : T → Type 0) → ((x : T) → P x → Q x)
    → IfOk r P → IfOk r Q
if_ok_then (Ok x) P Q next is = next x is
if_ok_then (Err e) P Q next is = is

pub if_ok_both : {T E : Type 0} (r : Result T E) (P Q R : T → Type 0)
    → ((x : T) → P x → Q x → R x) → IfOk r P → IfOk r Q → IfOk r R
if_ok_both (Ok x) P Q R next one two = next x one two
if_ok_both (Err e) P Q R next one two = one
