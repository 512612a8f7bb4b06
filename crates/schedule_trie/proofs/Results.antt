-- Promises about results: a property that a result has if it is a value, or if it is an error.
use Rattle.std.proofs.Common.{Result, Ok, Err, OnOk}
use Rattle.std.specs.Result.{OnErr}

pub map_on_ok : {X E P Q : Type 0} (r : Result X E) → (P → Q) → OnOk r P → OnOk r Q
map_on_ok (Ok x) f h = f h
map_on_ok (Err e) f h = tt

pub always_on_ok : {X E P : Type 0} (r : Result X E) → P → OnOk r P
always_on_ok (Ok x) h = h
always_on_ok (Err e) h = tt

pub always_on_err : {A E : Type 0} (r : Result A E) (P : Type 0) → P → OnErr r P
always_on_err (Ok x) P p = tt
always_on_err (Err e) P p = p
