-- A sound history keeps each funding reference and each identifier of its own in one event at most.
use Rattle.std.proofs.Common.{◌≡◌, ℕ, ◌+◌, ◌≤◌, Bool, true, false, ◌||◌, ◌==◌, cond, List, [], ◌∷◌, inl, inr, count_by, refl, sym, ap, ◌∙◌, arith}
use Rattle.std.specs.List.{list_any}
use Rattle.std.specs.Cmp.Lexicographic.{same_text as text_same}
use Rattle.std.proofs.lemmas.Bool.{cases_Bool, and_parts, eqb-true}
use Rattle.std.proofs.lemmas.List.Sums.{sum_by-cons}
use Rattle.inst_settings.specs.Settings.{HubSettings, same_text}
use Rattle.inst_journal.specs.declared.event.Event.{Event}
use Rattle.inst_journal.specs.declared.event.Event.TheVariants.{Funded, Defunded, Taken, Forwarded, Booked, Fetched, Opened}
use Rattle.inst_journal.specs.Booked.{takes, is_taken, forwards, is_forwarded}
use Rattle.inst_journal.specs.Keys.{refers, has_reference}
use Rattle.inst_journal.specs.Repeats.{KeepsAKeyOnce}
use Rattle.inst_journal.specs.Sound.{Fits, IsSound}
use Rattle.inst_journal.proofs.CountsOfEvents.{count_push, first_false, cond_le}
use Rattle.inst_journal.proofs.Soundness.{sound_induction}

second_false : (a b : Bool) → (a || b) ≡ false → b ≡ false
second_false true b e = absurd (cc)
second_false false b e = e

-- a test that nothing passes counts nothing
pub none_counted : (p : Event → Bool) (J : List Event) → list_any p J ≡ false → count_by p J ≡ 0
none_counted p [] none = refl
none_counted p (event ∷ J) none =
    omega (
      arith,
      sum_by-cons (λ e. cond (p e) 1 0) event J,
      none_counted p J (second_false (p event) (list_any p J) none),
      ap {B = ℕ} (λ b. cond b 1 0) (first_false (p event) (list_any p J) none),
    )

-- one more event with a key that wasn't there
counted : (p : Event → Bool) (J : List Event) (event : Event) → (p event ≡ true → list_any p J ≡ false) → count_by p J ≤ 1 → count_by p J + cond (p event) 1 0 ≤ 1
counted p J event new before = elim (cases_Bool (p event)) [
  | inl same ↦ omega (arith, none_counted p J (new same), cond_le (p event))
  | inr other ↦ omega (arith, before, ap {B = ℕ} (λ b. cond b 1 0) other)
]

new_reference : (s : HubSettings) (who : ℕ) (J : List Event) (reference : List ℕ) (event : Event) → Fits s who J event → refers reference event ≡ true → has_reference reference J ≡ false
new_reference s who J reference (Funded funding) fits same = ap (λ r. has_reference r J) (sym (text_same funding.reference reference (sym same))) ∙ fits.new
new_reference s who J reference (Defunded funding) fits same = ap (λ r. has_reference r J) (sym (text_same funding.reference reference (sym same))) ∙ fits.funding.new
new_reference s who J reference (Taken id to cents stamp) fits same = absurd (cc)
new_reference s who J reference (Forwarded from id cents deadline) fits same = absurd (cc)
new_reference s who J reference (Booked from id outcome) fits same = absurd (cc)
new_reference s who J reference (Fetched count) fits same = absurd (cc)
new_reference s who J reference Opened fits same = absurd (cc)

new_identifier : (s : HubSettings) (who : ℕ) (J : List Event) (id : List ℕ) (event : Event) → Fits s who J event → takes id event ≡ true → is_taken id J ≡ false
new_identifier s who J id (Taken other to cents stamp) fits same = ap (λ i. is_taken i J) (sym (text_same other id (sym same))) ∙ fits.new
new_identifier s who J id (Funded funding) fits same = absurd (cc)
new_identifier s who J id (Defunded funding) fits same = absurd (cc)
new_identifier s who J id (Forwarded from other cents deadline) fits same = absurd (cc)
new_identifier s who J id (Booked from other outcome) fits same = absurd (cc)
new_identifier s who J id (Fetched count) fits same = absurd (cc)
new_identifier s who J id Opened fits same = absurd (cc)

-- what is new at each event that passes is counted once
once : (s : HubSettings) (who : ℕ) (p : Event → Bool) → ((J : List Event) (event : Event) → Fits s who J event → p event ≡ true → list_any p J ≡ false)
    → (J : List Event) → IsSound s who J → count_by p J ≤ 1
once s who p new = sound_induction s who (λ J. count_by p J ≤ 1) (omega arith)
    (λ J event sound fits before. omega (arith, count_push p J event, counted p J event (new J event fits) before))

new_forwarding : (s : HubSettings) (who : ℕ) (J : List Event) (from : ℕ) (id : List ℕ) (event : Event) → Fits s who J event → forwards from id event ≡ true → is_forwarded from id J ≡ false
new_forwarding s who J from id (Forwarded other_from other cents deadline) fits same =
    let key = and_parts (other_from == from) (same_text other id) same in
    ap (λ f. is_forwarded f id J) (sym (eqb-true other_from from key.0)) ∙ ap (λ i. is_forwarded other_from i J) (sym (text_same other id (sym key.1))) ∙ fits.new
new_forwarding s who J from id (Taken other to cents stamp) fits same = absurd (cc)
new_forwarding s who J from id (Funded funding) fits same = absurd (cc)
new_forwarding s who J from id (Defunded funding) fits same = absurd (cc)
new_forwarding s who J from id (Booked other_from other outcome) fits same = absurd (cc)
new_forwarding s who J from id (Fetched count) fits same = absurd (cc)
new_forwarding s who J from id Opened fits same = absurd (cc)

pub forwarded_once : (s : HubSettings) (who from : ℕ) (id : List ℕ) (J : List Event) → IsSound s who J → count_by (forwards from id) J ≤ 1
forwarded_once s who from id = once s who (forwards from id) (λ J event fits same. new_forwarding s who J from id event fits same)

pub taken_once : (s : HubSettings) (who : ℕ) (id : List ℕ) (J : List Event) → IsSound s who J → count_by (takes id) J ≤ 1
taken_once s who id = once s who (takes id) (λ J event fits same. new_identifier s who J id event fits same)

-- a sound history keeps a key once
pub keeps_a_key_once : (s : HubSettings) (who : ℕ) (J : List Event) → IsSound s who J → KeepsAKeyOnce J
keeps_a_key_once s who J sound = record {
  references = λ reference. once s who (refers reference) (λ K event fits same. new_reference s who K reference event fits same) J sound;
  identifiers = λ id. taken_once s who id J sound;
}
