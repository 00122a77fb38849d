-- Clauses on one variant.
use Rattle.std.proofs.Common.{Result, Ok, Err, OnOk, OnErr}

pub on_ok-then : {T E : Type 0} (r : Result T E) (A B : Type 0) → (A → B) → OnOk r A → OnOk r B
on_ok-then (Ok x) A B f a = f a
on_ok-then (Err e) A B f a = a

pub on_err-then : {T E : Type 0} (r : Result T E) (A B : Type 0) → (A → B) → OnErr r A → OnErr r B
on_err-then (Ok x) A B f a = a
on_err-then (Err e) A B f a = f a
