-- Marks that were right stay right while a log is opened and written to.
use Rattle.std.proofs.Common.{◌≡◌, inl, inr, ℕ, ◌==◌, suc, true, false, List, [], ◌∷◌, ◌++◌, length, drop, Option, Some, None, Result, Ok, Err, refl, sym, ◌∙◌, ap, subst, arith}
use Rattle.std.specs.Result.{IfErr, OnOk}
use Rattle.std.proofs.lemmas.Bool.Decides.{nat_tests}
use Rattle.std.proofs.lemmas.List.{append-nil, drop_all}
use Rattle.inst_log.specs.Layout.{recovered_lines, IsShut, EndsWell}
use Rattle.inst_log.specs.Log.{IsBeforeOrAfter}
use Rattle.inst_log.specs.Opening.{lines_after_settings, IsSameOrBegun}
use Rattle.inst_chain.specs.Chain.{IsChain, IsTaken}
use Rattle.inst_chain.specs.Verifying.{SealedBy}
use Rattle.inst_chain.specs.declared.marker.Marker.{Marker}
use Rattle.inst_chain.proofs.BatchBehindChain.{again_sealed, not_empty}
use Rattle.inst_logged.specs.declared.version.Version.{Version}
use Rattle.inst_logged.specs.declared.version.Version.TheVariants.{One, Two}
use Rattle.inst_logged.specs.Marking.{IsIntact, IsIntactBy, IsFirstMark, BeginsWithMarker}
use Rattle.inst_logged.specs.inner.Finding.{IsVerified}

-- what was verified is no damaged log
pub verified_intact : (version : Version) (file : List ℕ) (found : Option Marker) → IsVerified version file found → IsIntact version file
verified_intact One file found is = tt
verified_intact Two file None none = inl none
verified_intact Two file (Some marker) s = inr s.sealed

pub by_intact : (version : Version) (file : List ℕ) (marker : Marker) → IsIntactBy version file marker → IsIntact version file
by_intact One file marker is = tt
by_intact Two file marker s = inr s.sealed

taken_well : (file : List ℕ) → IsTaken file → EndsWell file
taken_well file (inl none) = inl none
taken_well file (inr sealed) = inr sealed.shut

taken_then : (header old c : List ℕ) (marker : Marker) → IsFirstMark header marker → IsTaken old → IsSameOrBegun header old c → EndsWell c → IsTaken c
taken_then header old c marker first taken at (inl none) = inl none
taken_then header old c marker first (inl none) (inl same) (inr shut) = inl (same ∙ none)
taken_then header old c marker first (inr sealed) (inl same) (inr shut) = inr (record { chain = subst IsChain (sym same) sealed.chain; shut = shut })
taken_then header old c marker first taken (inr begun) (inr shut) = inr (record { chain = first.chain c begun.1; shut = shut })

-- what a crash leaves of a log while it is opened
pub opening_intact : (version : Version) (header old c : List ℕ) (marker : Marker) → BeginsWithMarker version header marker → IsIntact version old → IsSameOrBegun header old c → (EndsWell old → EndsWell c) → IsIntact version c
opening_intact One header old c marker first taken at well = tt
opening_intact Two header old c marker first taken at well = taken_then header old c marker first taken at (well (taken_well old taken))

new_lines : (header old new : List ℕ) → recovered_lines old ≡ [] → recovered_lines new ≡ recovered_lines header ++ lines_after_settings header old → recovered_lines new ≡ recovered_lines header
new_lines header old new none lines =
    lines ∙ ap (λ (l : List (List ℕ)). recovered_lines header ++ l) (ap (drop (length (recovered_lines header))) none ∙ drop_all (length (recovered_lines header)) [] (omega arith)) ∙ append-nil (recovered_lines header)

-- a log that was opened: by the marker that was found, or by the first one
pub opened_found : (version : Version) (header old new : List ℕ) (found : Option Marker) (m marker : Marker) → found ≡ Some m → IsVerified version old found → IsSameOrBegun header old new
    → (EndsWell old → IsShut new) → IsIntactBy version new m
opened_found One header old new found m marker is v at shut = tt
opened_found Two header old new None m marker is v at shut = absurd (cc is)
opened_found Two header old new (Some n) m marker is s at shut = subst (SealedBy new) (some_is is) (again at)
  where
    some_is : {a b : Marker} → Some a ≡ Some b → a ≡ b
    some_is e = cc e

    again : IsSameOrBegun header old new → SealedBy new n
    again (inl same) = again_sealed old new n s same (shut (inr s.sealed.shut))
    again (inr begun) = absurd (not_empty old s.sealed.chain begun.0)

pub opened_none : (version : Version) (header old new : List ℕ) (found : Option Marker) (marker : Marker) → found ≡ None → BeginsWithMarker version header marker → IsVerified version old found
    → recovered_lines new ≡ recovered_lines header ++ lines_after_settings header old → (EndsWell old → IsShut new) → IsIntactBy version new marker
opened_none One header old new found marker is first v lines shut = tt
opened_none Two header old new None marker is first none lines shut = first.sealed new (new_lines header old new none lines) (shut (inl none))
opened_none Two header old new (Some n) marker is first s lines shut = absurd (cc is)

-- ---- while a batch is written

pub writing_intact : (version : Version) (old c : List ℕ) (lines : List (List ℕ)) (marker next : Marker) → IsIntactBy version old marker → IsBeforeOrAfter (recovered_lines old) lines c → (IsShut old → IsShut c)
    → (recovered_lines c ≡ recovered_lines old ++ lines → IsShut c → IsIntactBy version c next) → IsIntact version c
writing_intact One old c lines marker next is at shut more = tt
writing_intact Two old c lines marker next s (inl same) shut more = inr (record { chain = subst IsChain (sym same) s.sealed.chain; shut = shut s.sealed.shut })
writing_intact Two old c lines marker next s (inr whole) shut more = by_intact Two c next (more whole (shut s.sealed.shut))

-- nothing was written
pub same_intact : (version : Version) (old c : List ℕ) (marker : Marker) → IsIntactBy version old marker → c ≡ old → IsIntact version c
same_intact version old c marker is same = subst (IsIntact version) (sym same) (by_intact version old marker is)

-- ---- a batch gets its mark

-- no line was added
pub none_sealed : (file new : List ℕ) (marker : Marker) (batch : List ℕ) → batch ≡ [] → SealedBy file marker → recovered_lines new ≡ recovered_lines file ++ recovered_lines batch → IsShut new → SealedBy new marker
none_sealed file new marker batch none s lines shut =
    again_sealed file new marker s (lines ∙ ap (λ (b : List ℕ). recovered_lines file ++ recovered_lines b) none ∙ append-nil (recovered_lines file)) shut

-- what is there now, once all was written
pub now_intact : (version : Version) (old new : List ℕ) (marker next : Marker) → IsIntactBy version old marker → (IsShut old → IsShut new) → (IsShut new → IsIntactBy version new next) → IsIntactBy version new next
now_intact One old new marker next is shut more = tt
now_intact Two old new marker next s shut more = more (shut s.sealed.shut)

-- ---- small things

suc_not_zero : (n : ℕ) → (suc n == 0) ≡ false
suc_not_zero n = grind (arith, nat_tests)

pub empty_of : (l : List ℕ) (n : ℕ) → n ≡ length l → (n == 0) ≡ true → l ≡ []
empty_of [] n is e = refl
empty_of (x ∷ l) n is e = absurd (cc (sym (suc_not_zero (length l)) ∙ ap (λ (k : ℕ). k == 0) (sym is) ∙ e))

pub on_ok_both : {T E : Type 0} (r : Result T E) (P Q : Type 0) → OnOk r P → OnOk r Q → OnOk r (P × Q)
on_ok_both (Ok t) P Q p q = (p, q)
on_ok_both (Err e) P Q p q = tt

pub if_err_both : {T E : Type 0} (r : Result T E) (P Q : E → Type 0) → IfErr r P → IfErr r Q → IfErr r (λ e. P e × Q e)
if_err_both (Ok t) P Q p q = tt
if_err_both (Err e) P Q p q = (p, q)
