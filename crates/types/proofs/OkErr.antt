-- `Ok` and `Err` differ, and each has one value.
use mathlib.Core.Path.{◌≡◌, ap, sym}
use mathlib.Core.Bool.{true≢false}
use Rattle.std.specs.Prelude.{Result, Ok, Err, is_ok}

abbrev value_or : {A E : Type 0} → A → Result A E → A
value_or a (Ok x) = x
value_or a (Err e) = a

abbrev error_or : {A E : Type 0} → E → Result A E → E
error_or d (Ok x) = d
error_or d (Err e) = e

pub ok_is : {A E : Type 0} {a b : A} → ◌≡◌ {A = Result A E} (Ok a) (Ok b) → a ≡ b
ok_is {A} {E} {a} {b} e = ap (value_or a) e

pub err_is : {A E : Type 0} {a b : E} → ◌≡◌ {A = Result A E} (Err a) (Err b) → a ≡ b
err_is {A} {E} {a} {b} e = ap (error_or a) e

pub ok_err : {A E : Type 0} {a : A} {b : E} → ◌≡◌ {A = Result A E} (Ok a) (Err b) → ⊥
ok_err {A} {E} {a} {b} e = true≢false (ap is_ok e)

pub err_ok : {A E : Type 0} {a : A} {b : E} → ◌≡◌ {A = Result A E} (Err b) (Ok a) → ⊥
err_ok {A} {E} {a} {b} e = ok_err (sym e)
