-- What holds of results.
use Rattle.std.proofs.Common.{◌≡◌, Result, Ok, Err, sym, subst}
use Rattle.std.specs.Prelude.{OnErr, OnOk}

pub ok-on : {T E : Type 0} {P Q : Type 0} (r : Result T E) → (P → Q) → OnOk r P → OnOk r Q
ok-on (Ok x) f h = f h
ok-on (Err e) f h = tt

pub ok-both : {T E : Type 0} {P Q R : Type 0} (r : Result T E) → (P → Q → R) → OnOk r P → OnOk r Q → OnOk r R
ok-both (Ok x) f h k = f h k
ok-both (Err e) f h k = tt

-- what holds of either outcome
pub either-on : {T E X : Type 0} (P : X → Type 0) (r : Result T E) (x after before : X) → OnOk r (x ≡ after)
    → OnErr r (x ≡ before) → P after → P before → P x
either-on P (Ok v) x after before h k p q = subst P (sym h) p
either-on P (Err e) x after before h k p q = subst P (sym k) q

pub either-case : {T E : Type 0} {P Q R : Type 0} (r : Result T E) → (P → R) → (Q → R) → OnOk r P → OnErr r Q → R
either-case (Ok v) f k p q = f p
either-case (Err e) f k p q = k q

pub on-err : {T E : Type 0} {P : Type 0} (r : Result T E) → P → OnErr r P
on-err (Ok x) h = tt
on-err (Err e) h = h
