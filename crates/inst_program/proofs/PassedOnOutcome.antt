-- What is so of a call's outcome is so where it is passed on.
use Rattle.std.proofs.Common.{◌≡◌, Result, Ok, Err, is_ok, IfErr, OnErr, OnOk, sym, subst}
use Rattle.std.proofs.lemmas.Result.{IfErr-at_err}

pub passed_err : {A B E : Type 0} (r : Result A E) (q : Result B E) (x : E) (P Q : E → Type 0) → r ≡ Err x → (y : E) × (q ≡ Err y) × (y ≡ x) → ((e : E) → P e → Q e) → IfErr r P → IfErr q Q
passed_err r q x P Q is passed more has = subst (λ (s : _). IfErr s Q) (sym passed.1) (more passed.0 (subst P (sym passed.2) (IfErr-at_err P is has)))

-- and where an error was turned into another
pub on_ok_through : {A E F : Type 0} (r : Result A E) (q : Result A F) (P : Type 0) → is_ok q ≡ is_ok r → OnOk r P → OnOk q P
on_ok_through r (Err e) P same has = tt
on_ok_through (Ok x) (Ok y) P same has = has
on_ok_through (Err e) (Ok y) P same has = absurd (cc (same))

pub on_err_through : {A E F : Type 0} (r : Result A E) (q : Result A F) (P : E → Type 0) (Q : Type 0) → is_ok q ≡ is_ok r → ((e : E) → P e → Q) → IfErr r P → OnErr q Q
on_err_through r (Ok x) P Q same more has = tt
on_err_through (Err e) (Err f) P Q same more has = more e has
on_err_through (Ok x) (Err f) P Q same more has = absurd (cc (same))

pub on_err_all : {A E : Type 0} (r : Result A E) (P : Type 0) → P → OnErr r P
on_err_all (Ok x) P is = tt
on_err_all (Err e) P is = is

-- what is so of the error that another was turned into
pub err_all_at : {A E : Type 0} {Q : E → Type 0} (r : Result A E) (P : E → Type 0) → (y : E) × (r ≡ Err y) × Q y → ((e : E) → Q e → P e) → IfErr r P
err_all_at r P at all = subst (λ (s : _). IfErr s P) (sym at.1) (all at.0 at.2)

-- an error that a call turned into another
pub err_turned : {A E F : Type 0} (r : Result A E) (q : Result A F) (P : E → Type 0) (turned : E → F → Type 0) (Q : F → Type 0) → is_ok q ≡ is_ok r → IfErr r (λ e. IfErr q (turned e))
    → ((e : E) (f : F) → P e → turned e f → Q f) → IfErr r P → IfErr q Q
err_turned (Ok x) (Ok y) P turned Q same turns more has = tt
err_turned (Ok x) (Err f) P turned Q same turns more has = absurd (cc same)
err_turned (Err e) (Ok y) P turned Q same turns more has = tt
err_turned (Err e) (Err f) P turned Q same turns more has = more e f has turns
