-- What is found of fundings by their references.
use Rattle.std.proofs.Common.{◌≡◌, ℕ, Bool, true, false, ◌==◌, ◌||◌, ◌&&◌, cond, List, [], ◌∷◌, ◌++◌, ◌⊎◌, inl, inr, Option, Some, None, is_some, refl, sym, ap, ◌∙◌}
use Rattle.std.specs.Cmp.Lexicographic.{same_text as text_same}
use Rattle.inst_settings.specs.Settings.{HubSettings, same_text}
use Rattle.inst_command.specs.declared.funding.Funding.{Funding}
use Rattle.inst_journal.specs.declared.event.Event.{Event}
use Rattle.inst_journal.specs.declared.event.Event.TheVariants.{Funded, Defunded, Taken, Forwarded, Booked, Fetched, Opened}
use Rattle.inst_journal.specs.Booked.{or_else, first_some}
use Rattle.inst_journal.specs.Keys.{is_this_fund, is_this_defund, refers, is_fund_repeat, is_defund_repeat, has_reference}
use Rattle.inst_journal.specs.Sound.{Fits, IsSound}
use Rattle.inst_journal.proofs.OneMoreElement.{first_some_push, list_any_push, or-false, or_else-none}
use Rattle.inst_journal.proofs.Soundness.{sound_induction}
use Rattle.inst_ledger.specs.declared.references.KeptFunding.{KeptFunding}
use Rattle.inst_ledger.specs.Kept.{IsTable}
use Rattle.inst_ledger.specs.Beside.{funding_of}
use Rattle.inst_ledger.specs.inner.Beside.{is_funding_of, is_funding_repeat}
use Rattle.inst_ledger.proofs.Tables.{table_put}
use Rattle.inst_statement.proofs.AmountAndTermsInHistory.{some_cond, none_of, any_first}

refers_funding : (reference : List ℕ) (event : Event) → refers reference event ≡ is_some (funding_of reference event)
refers_funding reference (Funded funding) = some_cond {A = KeptFunding} (same_text funding.reference reference) (record { is_defunding = false; cents = funding.cents })
refers_funding reference (Defunded funding) = some_cond {A = KeptFunding} (same_text funding.reference reference) (record { is_defunding = true; cents = funding.cents })
refers_funding reference (Taken id to cents stamp) = refl
refers_funding reference (Forwarded from id cents deadline) = refl
refers_funding reference (Booked from id outcome) = refl
refers_funding reference (Fetched count) = refl
refers_funding reference Opened = refl

-- a reference is kept where a funding is found
pub reference_found : (reference : List ℕ) (J : List Event) → has_reference reference J ≡ is_some (first_some (funding_of reference) J)
reference_found reference J = any_first (refers reference) (funding_of reference) (refers_funding reference) J

pub funding_absent : (reference q : List ℕ) (J : List Event) → has_reference reference J ≡ false → same_text reference q ≡ true → first_some (funding_of q) J ≡ None
funding_absent reference q J new same = none_of _ (sym (reference_found q J) ∙ sym (ap (λ (r : List ℕ). has_reference r J) (text_same reference q (sym same))) ∙ new)

either_new : (reference other : List ℕ) (J : List Event) (f : KeptFunding) → has_reference other J ≡ false → (cond (same_text other reference) (Some f) None ≡ None) ⊎ (first_some (funding_of reference) J ≡ None)
either_new reference other J f new = by (same_text other reference) refl
  where
    by : (b : Bool) → same_text other reference ≡ b → (cond (same_text other reference) (Some f) None ≡ None) ⊎ (first_some (funding_of reference) J ≡ None)
    by true same = inr (funding_absent other reference J new same)
    by false same = inl (ap (λ b. cond {A = Option KeptFunding} b (Some f) None) same)

once_new : (s : HubSettings) (who : ℕ) (reference : List ℕ) (J : List Event) (event : Event) → Fits s who J event → (funding_of reference event ≡ None) ⊎ (first_some (funding_of reference) J ≡ None)
once_new s who reference J (Funded funding) fits = either_new reference funding.reference J (record { is_defunding = false; cents = funding.cents }) fits.new
once_new s who reference J (Defunded funding) fits = either_new reference funding.reference J (record { is_defunding = true; cents = funding.cents }) fits.funding.new
once_new s who reference J (Taken id to cents stamp) fits = inl refl
once_new s who reference J (Forwarded from id cents deadline) fits = inl refl
once_new s who reference J (Booked from id outcome) fits = inl refl
once_new s who reference J (Fetched count) fits = inl refl
once_new s who reference J Opened fits = inl refl

repeat_or : (is_defunding : Bool) (cents : ℕ) (o p : Option KeptFunding) → (p ≡ None) ⊎ (o ≡ None) → (is_funding_of is_defunding cents o || is_funding_of is_defunding cents p) ≡ is_funding_of is_defunding cents (or_else o p)
repeat_or is_defunding cents o p either = elim either [
  | inl none ↦ ap (λ p'. is_funding_of is_defunding cents o || is_funding_of is_defunding cents p') none ∙ or-false (is_funding_of is_defunding cents o)
      ∙ sym (ap (λ p'. is_funding_of is_defunding cents (or_else o p')) none ∙ ap (is_funding_of is_defunding cents) (or_else-none o))
  | inr none ↦ ap (λ o'. is_funding_of is_defunding cents o' || is_funding_of is_defunding cents p) none ∙ sym (ap (λ o'. is_funding_of is_defunding cents (or_else o' p)) none)
]

fund_this : (funding : Funding) (event : Event) → is_this_fund funding event ≡ is_funding_of false funding.cents (funding_of funding.reference event)
fund_this f (Funded funding) = by (same_text funding.reference f.reference)
  where
    by : (b : Bool) → (b && (funding.cents == f.cents)) ≡ is_funding_of false f.cents (cond b (Some (record { is_defunding = false; cents = funding.cents })) None)
    by true = refl
    by false = refl
fund_this f (Defunded funding) = by (same_text funding.reference f.reference)
  where
    by : (b : Bool) → false ≡ is_funding_of false f.cents (cond b (Some (record { is_defunding = true; cents = funding.cents })) None)
    by true = refl
    by false = refl
fund_this funding (Taken id to other stamp) = refl
fund_this funding (Forwarded from id other deadline) = refl
fund_this funding (Booked from id outcome) = refl
fund_this funding (Fetched count) = refl
fund_this funding Opened = refl

defund_this : (funding : Funding) (event : Event) → is_this_defund funding event ≡ is_funding_of true funding.cents (funding_of funding.reference event)
defund_this f (Defunded funding) = by (same_text funding.reference f.reference)
  where
    by : (b : Bool) → (b && (funding.cents == f.cents)) ≡ is_funding_of true f.cents (cond b (Some (record { is_defunding = true; cents = funding.cents })) None)
    by true = refl
    by false = refl
defund_this f (Funded funding) = by (same_text funding.reference f.reference)
  where
    by : (b : Bool) → false ≡ is_funding_of true f.cents (cond b (Some (record { is_defunding = false; cents = funding.cents })) None)
    by true = refl
    by false = refl
defund_this funding (Taken id to other stamp) = refl
defund_this funding (Forwarded from id other deadline) = refl
defund_this funding (Booked from id outcome) = refl
defund_this funding (Fetched count) = refl
defund_this funding Opened = refl

-- a fund or defund command is a repeat where its very funding is found
fund_found : (s : HubSettings) (who : ℕ) (funding : Funding) (J : List Event) → IsSound s who J → is_fund_repeat funding J ≡ is_funding_of false funding.cents (first_some (funding_of funding.reference) J)
fund_found s who funding = sound_induction s who (λ J. is_fund_repeat funding J ≡ is_funding_of false funding.cents (first_some (funding_of funding.reference) J)) refl
    (λ J event sound fits before.
    list_any_push (is_this_fund funding) J event ∙ ap (λ b. b || is_this_fund funding event) before
    ∙ ap (λ b. is_funding_of false funding.cents (first_some (funding_of funding.reference) J) || b) (fund_this funding event)
    ∙ repeat_or false funding.cents (first_some (funding_of funding.reference) J) (funding_of funding.reference event) (once_new s who funding.reference J event fits)
    ∙ ap (is_funding_of false funding.cents) (sym (first_some_push (funding_of funding.reference) J event)))

defund_found : (s : HubSettings) (who : ℕ) (funding : Funding) (J : List Event) → IsSound s who J → is_defund_repeat funding J ≡ is_funding_of true funding.cents (first_some (funding_of funding.reference) J)
defund_found s who funding = sound_induction s who (λ J. is_defund_repeat funding J ≡ is_funding_of true funding.cents (first_some (funding_of funding.reference) J)) refl
    (λ J event sound fits before.
    list_any_push (is_this_defund funding) J event ∙ ap (λ b. b || is_this_defund funding event) before
    ∙ ap (λ b. is_funding_of true funding.cents (first_some (funding_of funding.reference) J) || b) (defund_this funding event)
    ∙ repeat_or true funding.cents (first_some (funding_of funding.reference) J) (funding_of funding.reference event) (once_new s who funding.reference J event fits)
    ∙ ap (is_funding_of true funding.cents) (sym (first_some_push (funding_of funding.reference) J event)))

pub funding_found : (s : HubSettings) (who : ℕ) (is_defunding : Bool) (funding : Funding) (J : List Event) → IsSound s who J → is_funding_repeat is_defunding funding J ≡ is_funding_of is_defunding funding.cents (first_some (funding_of funding.reference) J)
funding_found s who false funding J sound = fund_found s who funding J sound
funding_found s who true funding J sound = defund_found s who funding J sound

-- a funding of a new reference
pub funded_put : (J : List Event) (funding : Funding) (old new : List ℕ → Option KeptFunding) → has_reference funding.reference J ≡ false → IsTable funding_of J old
    → ((q : List ℕ) → new q ≡ cond (same_text funding.reference q) (Some (record { is_defunding = false; cents = funding.cents })) (old q)) → IsTable funding_of (J ++ Funded funding ∷ []) new
funded_put J funding old new is_new before put = table_put same_text funding_of J (Funded funding) funding.reference (record { is_defunding = false; cents = funding.cents }) old new before put (λ _. refl)
    (λ q same. funding_absent funding.reference q J is_new same)

pub defunded_put : (J : List Event) (funding : Funding) (old new : List ℕ → Option KeptFunding) → has_reference funding.reference J ≡ false → IsTable funding_of J old
    → ((q : List ℕ) → new q ≡ cond (same_text funding.reference q) (Some (record { is_defunding = true; cents = funding.cents })) (old q)) → IsTable funding_of (J ++ Defunded funding ∷ []) new
defunded_put J funding old new is_new before put = table_put same_text funding_of J (Defunded funding) funding.reference (record { is_defunding = true; cents = funding.cents }) old new before put (λ _. refl)
    (λ q same. funding_absent funding.reference q J is_new same)
