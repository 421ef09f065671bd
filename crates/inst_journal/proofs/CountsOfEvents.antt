-- How many events of each kind a sound history has at most.
use Rattle.std.proofs.Common.{◌≡◌, ℕ, ◌+◌, ◌*◌, ◌^◌, ◌<◌, ◌≤◌, Bool, true, false, ◌==◌, cond, zero, suc, nat_lt, List, [], ◌∷◌, ◌++◌, Option, Some, None, is_some, is_none, ◌||◌, ◌&&◌, add-zero, sum_by, count_by, refl, sym, ap, ◌∙◌, arith, inl, inr}
use Rattle.std.proofs.lemmas.Bool.{false≢true, le-ltb, eq-eqb, ne_eqb, cases_eq, eqb-true, cases_Bool, and_parts}
use Rattle.std.proofs.lemmas.Bool.Decides.{nat_tests}
use Rattle.std.proofs.lemmas.List.Sums.{sum_by-cons, sum_by-le-sum_by}
use Rattle.std.proofs.Math.Nat.{mul-le-mul}
use Rattle.std.specs.Cmp.Lexicographic.{same_text as text_same}
use Rattle.inst_base.specs.declared.cents.TheConstants.{MOST_CENTS}
use Rattle.inst_settings.specs.Settings.{HubSettings, participants, same_text}
use Rattle.inst_settings.specs.Lawful.{IsSettings}
use Rattle.inst_journal.specs.declared.event.Event.{Event}
use Rattle.inst_journal.specs.declared.event.Event.TheVariants.{Funded, Defunded, Taken, Forwarded, Booked, Fetched, Opened}
use Rattle.inst_journal.specs.Booked.{or_else, is_taken, takes, is_forwarded, forwards, books, booked, same_transfer, is_forwarding}
use Rattle.inst_journal.specs.Opened.{current}
use Rattle.inst_journal.specs.Keys.{is_funding, fundings}
use Rattle.inst_journal.specs.Sound.{Fits, IsSound}
use Rattle.inst_journal.specs.Opened.{is_opening, openings, carried, takes_live, live_submissions, forwards_live, live_forwarded}
use Rattle.inst_command.specs.declared.outcome.Outcome.{Outcome}
use Rattle.inst_journal.proofs.OwnBookings.{own_unforwarded}
use Rattle.inst_journal.proofs.EventsCarriedOverOpening.{carried_push, carried_opened, current_push, current_opened, carried_booked, carried_unbooked}
use Rattle.inst_journal.proofs.OneMoreElement.{sum_by_push, sum_by-both, list_any_push, first_some_push}
use Rattle.inst_journal.proofs.Soundness.{sound_induction}
use Rattle.inst_journal.specs.declared.opened.TheConstants.{MOST_OPENINGS}

-- whether the event is a taken submission
abbrev pub is_submission : Event → Bool
is_submission (Taken id to cents stamp) = true
is_submission _ = false

-- how many submissions are taken
abbrev pub submissions : List Event → ℕ
submissions J = count_by is_submission J

-- whether the event forwards a transfer of this originator
abbrev pub forwards_from : ℕ → Event → Bool
forwards_from from (Forwarded other id cents deadline) = other == from
forwards_from from _ = false

-- how many transfers of this originator were forwarded
abbrev pub forwarded_from : ℕ → List Event → ℕ
forwarded_from from J = count_by (forwards_from from) J

pub count_push : (p : Event → Bool) (J : List Event) (event : Event) → count_by p (J ++ event ∷ []) ≡ count_by p J + cond (p event) 1 0
count_push p J event = sum_by_push (λ e. cond (p e) 1 0) J event

most_openings : (s : HubSettings) (who : ℕ) (J : List Event) (event : Event) → Fits s who J event → openings J ≤ MOST_OPENINGS → openings J + cond (is_opening event) 1 0 ≤ MOST_OPENINGS
most_openings s who J (Funded funding) fits before = omega arith
most_openings s who J (Defunded funding) fits before = omega arith
most_openings s who J (Taken id to cents stamp) fits before = omega arith
most_openings s who J (Forwarded other id cents deadline) fits before = omega arith
most_openings s who J (Booked other id outcome) fits before = omega arith
most_openings s who J (Fetched count) fits before = omega arith
most_openings s who J Opened fits before = omega (arith, fits.few)

-- at most 500 openings
pub openings_within : (s : HubSettings) (who : ℕ) (J : List Event) → IsSound s who J → openings J ≤ MOST_OPENINGS
openings_within s who = sound_induction s who (λ J. openings J ≤ MOST_OPENINGS) (omega arith)
    (λ J event sound fits before. omega (arith, count_push is_opening J event, most_openings s who J event fits before))

pub fundings_step : (J : List Event) (event : Event) → is_opening event ≡ false → fundings (J ++ event ∷ []) ≡ fundings J + cond (is_funding event) 1 0
fundings_step J event other = ap (count_by is_funding) (current_push J event other) ∙ count_push is_funding (current J) event

pub fundings_opened : (J : List Event) → fundings (J ++ Opened ∷ []) ≡ 0
fundings_opened J = ap (count_by is_funding) (current_opened J)

fundings_push : (s : HubSettings) (who : ℕ) (J : List Event) (event : Event) → Fits s who J event → fundings J ≤ s.fundings → fundings (J ++ event ∷ []) ≤ s.fundings
fundings_push s who J (Funded funding) fits before = omega (arith, fits.place, fundings_step J (Funded funding) refl)
fundings_push s who J (Defunded funding) fits before = omega (arith, fits.funding.place, fundings_step J (Defunded funding) refl)
fundings_push s who J (Taken id to cents stamp) fits before = omega (arith, fundings_step J (Taken id to cents stamp) refl)
fundings_push s who J (Forwarded other id cents deadline) fits before = omega (arith, fundings_step J (Forwarded other id cents deadline) refl)
fundings_push s who J (Booked other id outcome) fits before = omega (arith, fundings_step J (Booked other id outcome) refl)
fundings_push s who J (Fetched count) fits before = omega (arith, fundings_step J (Fetched count) refl)
fundings_push s who J Opened fits before = omega (arith, fundings_opened J)

-- no more fundings than the settings have
pub fundings_within : (s : HubSettings) (who : ℕ) (J : List Event) → IsSound s who J → fundings J ≤ s.fundings
fundings_within s who = sound_induction s who (λ J. fundings J ≤ s.fundings) (omega arith) (λ J event sound fits before. fundings_push s who J event fits before)

pub one_more : (n m : ℕ) → (n + 1) * m ≡ n * m + m
one_more n m = grind arith

-- another event within an opening, and another opening
same_opening : (total n m live one : ℕ) (more : ℕ) → total ≤ n * m + live → more ≤ one → total + more ≤ (n + 0) * m + (live + one)
same_opening total n m live one more before le = rw (add-zero n) (omega arith)

next_opening : (total n m live after : ℕ) → total ≤ n * m + live → live ≤ m → total + 0 ≤ (n + 1) * m + after
next_opening total n m live after before le = omega (arith, one_more n m)

-- all fundings, those of the openings before too
abbrev FundingsFew : HubSettings → List Event → Type 0
FundingsFew s J = count_by is_funding J ≤ openings J * s.fundings + fundings J

fundings_few_push : (s : HubSettings) (J : List Event) (event : Event) → fundings J ≤ s.fundings → FundingsFew s J → FundingsFew s (J ++ event ∷ [])
fundings_few_push s J event within few = elim (cases_Bool (is_opening event)) [
  | inl opened ↦
      let now : openings (J ++ event ∷ []) ≡ openings J + 1 = count_push is_opening J event ∙ ap (λ b. openings J + cond b 1 0) opened in
      let none : is_funding event ≡ false = no_funding event opened in
      let same : count_by is_funding (J ++ event ∷ []) ≡ count_by is_funding J + 0 = count_push is_funding J event ∙ ap (λ b. count_by is_funding J + cond b 1 0) none in
      rw (now, same) (next_opening (count_by is_funding J) (openings J) s.fundings (fundings J) (fundings (J ++ event ∷ [])) few within)
  | inr other ↦
      let now : openings (J ++ event ∷ []) ≡ openings J + 0 = count_push is_opening J event ∙ ap (λ b. openings J + cond b 1 0) other in
      rw (now, count_push is_funding J event, fundings_step J event other) (same_opening (count_by is_funding J) (openings J) s.fundings (fundings J) (cond (is_funding event) 1 0) (cond (is_funding event) 1 0) few (omega arith))
]
  where
    no_funding : (event : Event) → is_opening event ≡ true → is_funding event ≡ false
    no_funding (Funded funding) e = absurd (false≢true e)
    no_funding (Defunded funding) e = absurd (false≢true e)
    no_funding (Taken id to cents stamp) e = refl
    no_funding (Forwarded other id cents deadline) e = refl
    no_funding (Booked other id outcome) e = refl
    no_funding (Fetched count) e = refl
    no_funding Opened e = refl

pub all_fundings_few : (s : HubSettings) (who : ℕ) (J : List Event) → IsSound s who J → FundingsFew s J
all_fundings_few s who = sound_induction s who (FundingsFew s) (omega arith) (λ J event sound fits before. fundings_few_push s J event (fundings_within s who J sound) before)

-- a transfer that is none of the participant's isn't booked
pub first_false : (a b : Bool) → (a || b) ≡ false → a ≡ false
first_false true b e = e
first_false false b e = refl

books_none : (s : HubSettings) (who from : ℕ) (id : List ℕ) (K : List Event) (event : Event) → Fits s who K event → (from ≡ who → is_taken id K ≡ false) → is_forwarded from id K ≡ false → books from id event ≡ None
books_none s who from id K (Booked other_from other outcome) fits untaken unforwarded = elim (cases_Bool (same_transfer from id other_from other)) [
  | inl same ↦
      let key = and_parts (other_from == from) (same_text other id) same in
      let from_is : other_from ≡ from = eqb-true other_from from key.0 in
      let id_is : id ≡ other = sym (text_same other id (sym key.1)) in
      elim fits.party [
        | inl own ↦ absurd (false≢true (sym (untaken (sym from_is ∙ own.0)) ∙ ap (λ (i : List ℕ). is_taken i K) id_is ∙ own.1))
        | inr there ↦ absurd (false≢true (sym unforwarded ∙ ap (λ f. is_forwarded f id K) (sym from_is) ∙ ap (λ (i : List ℕ). is_forwarded other_from i K) id_is ∙ there))
      ]
  | inr another ↦ rw (another) refl
]
books_none s who from id K (Funded funding) fits untaken unforwarded = refl
books_none s who from id K (Defunded funding) fits untaken unforwarded = refl
books_none s who from id K (Taken other to cents stamp) fits untaken unforwarded = refl
books_none s who from id K (Forwarded other_from other cents deadline) fits untaken unforwarded = refl
books_none s who from id K (Fetched count) fits untaken unforwarded = refl
books_none s who from id K Opened fits untaken unforwarded = refl

pub stranger_unbooked : (s : HubSettings) (who from : ℕ) (id : List ℕ) (J : List Event) → IsSound s who J → (from ≡ who → is_taken id J ≡ false) → is_forwarded from id J ≡ false → booked from id J ≡ None
stranger_unbooked s who from id = sound_induction s who (λ K. (from ≡ who → is_taken id K ≡ false) → is_forwarded from id K ≡ false → booked from id K ≡ None) (λ untaken unforwarded. refl)
    (λ K event sound fits before untaken unforwarded.
    let untaken_before : from ≡ who → is_taken id K ≡ false = λ own. first_false (is_taken id K) (takes id event) (sym (list_any_push (takes id) K event) ∙ untaken own) in
    let unforwarded_before : is_forwarded from id K ≡ false = first_false (is_forwarded from id K) (forwards from id event) (sym (list_any_push (forwards from id) K event) ∙ unforwarded) in
    first_some_push (books from id) K event ∙ ap (λ o. or_else o (books from id event)) (before untaken_before unforwarded_before) ∙ books_none s who from id K event fits untaken_before unforwarded_before)

-- another event leaves as many live or fewer, but for one that it takes itself
unbooked_le : (before now : Option Outcome) → ((o : Outcome) → before ≡ Some o → now ≡ Some o) → cond (is_none now) 1 0 ≤ cond (is_none before) 1 0
unbooked_le None None kept = omega arith
unbooked_le None (Some o) kept = omega arith
unbooked_le (Some o) now kept = rw (kept o refl) (omega arith)

booked_after : (from : ℕ) (id : List ℕ) (J : List Event) (o : Outcome) → booked from id (carried J) ≡ Some o → booked from id (J ++ Opened ∷ []) ≡ Some o
booked_after from id J o e = first_some_push (books from id) J Opened ∙ ap (λ b. or_else b (books from id Opened)) (carried_booked from id J o e)

submissions_step : (who : ℕ) (J : List Event) (event : Event) → is_opening event ≡ false → live_submissions who (J ++ event ∷ []) ≡ live_submissions who J + cond (takes_live who (carried J) event) 1 0
submissions_step who J event other = ap (λ C. count_by (takes_live who C) (J ++ event ∷ [])) (carried_push J event other) ∙ count_push (takes_live who (carried J)) J event

live_le : (who : ℕ) (J : List Event) (event : Event) → cond (takes_live who (J ++ Opened ∷ []) event) 1 0 ≤ cond (takes_live who (carried J) event) 1 0
live_le who J (Taken other to cents stamp) = unbooked_le (booked who other (carried J)) (booked who other (J ++ Opened ∷ [])) (booked_after who other J)
live_le who J (Funded funding) = omega arith
live_le who J (Defunded funding) = omega arith
live_le who J (Forwarded other_from other cents deadline) = omega arith
live_le who J (Booked other_from other outcome) = omega arith
live_le who J (Fetched count) = omega arith
live_le who J Opened = omega arith

submissions_opened : (who : ℕ) (J : List Event) → live_submissions who (J ++ Opened ∷ []) ≤ live_submissions who J
submissions_opened who J =
    let opened : live_submissions who (J ++ Opened ∷ []) ≡ count_by (takes_live who (J ++ Opened ∷ [])) J + 0 =
    ap (λ C. count_by (takes_live who C) (J ++ Opened ∷ [])) (carried_opened J) ∙ count_push (takes_live who (J ++ Opened ∷ [])) J Opened in
    let fewer : count_by (takes_live who (J ++ Opened ∷ [])) J ≤ live_submissions who J = sum_by-le-sum_by _ _ J (live_le who J) in
    omega (arith, opened, fewer)

pub cond_le : (b : Bool) → cond b 1 0 ≤ 1
cond_le true = omega arith
cond_le false = omega arith

submissions_push : (s : HubSettings) (who : ℕ) (J : List Event) (event : Event) → Fits s who J event → live_submissions who J ≤ s.places → live_submissions who (J ++ event ∷ []) ≤ s.places
submissions_push s who J (Taken other to cents stamp) fits before = omega (arith, fits.place, submissions_step who J (Taken other to cents stamp) refl, cond_le (takes_live who (carried J) (Taken other to cents stamp)))
submissions_push s who J (Funded funding) fits before = omega (arith, submissions_step who J (Funded funding) refl)
submissions_push s who J (Defunded funding) fits before = omega (arith, submissions_step who J (Defunded funding) refl)
submissions_push s who J (Forwarded other_from other cents deadline) fits before = omega (arith, submissions_step who J (Forwarded other_from other cents deadline) refl)
submissions_push s who J (Booked other_from other outcome) fits before = omega (arith, submissions_step who J (Booked other_from other outcome) refl)
submissions_push s who J (Fetched count) fits before = omega (arith, submissions_step who J (Fetched count) refl)
submissions_push s who J Opened fits before = omega (arith, submissions_opened who J)

-- no more live submissions than the settings have places
pub submissions_within : (s : HubSettings) (who : ℕ) (J : List Event) → IsSound s who J → live_submissions who J ≤ s.places
submissions_within s who = sound_induction s who (λ J. live_submissions who J ≤ s.places) (omega arith) (λ J event sound fits before. submissions_push s who J event fits before)

-- all submissions, those of the openings before too
abbrev SubmissionsFew : HubSettings → ℕ → List Event → Type 0
SubmissionsFew s who J = submissions J ≤ openings J * s.places + live_submissions who J

new_is_live : (s : HubSettings) (who : ℕ) (J : List Event) (event : Event) → IsSound s who J → Fits s who J event → cond (is_submission event) 1 0 ≤ cond (takes_live who (carried J) event) 1 0
new_is_live s who J (Taken other to cents stamp) sound fits =
    rw (carried_unbooked who other J (stranger_unbooked s who who other J sound (λ own. fits.new) (own_unforwarded s who other J sound))) (omega arith)
new_is_live s who J (Funded funding) sound fits = omega arith
new_is_live s who J (Defunded funding) sound fits = omega arith
new_is_live s who J (Forwarded other_from other cents deadline) sound fits = omega arith
new_is_live s who J (Booked other_from other outcome) sound fits = omega arith
new_is_live s who J (Fetched count) sound fits = omega arith
new_is_live s who J Opened sound fits = omega arith

submissions_few_push : (s : HubSettings) (who : ℕ) (J : List Event) (event : Event) → IsSound s who J → Fits s who J event → SubmissionsFew s who J → (b : Bool) → is_opening event ≡ b → SubmissionsFew s who (J ++ event ∷ [])
submissions_few_push s who J event sound fits few false other =
    let now : openings (J ++ event ∷ []) ≡ openings J + 0 = count_push is_opening J event ∙ ap (λ b. openings J + cond b 1 0) other in
    rw (now, count_push is_submission J event, submissions_step who J event other)
    (same_opening (submissions J) (openings J) s.places (live_submissions who J) (cond (takes_live who (carried J) event) 1 0) (cond (is_submission event) 1 0) few (new_is_live s who J event sound fits))
submissions_few_push s who J event sound fits few true opened =
    let now : openings (J ++ event ∷ []) ≡ openings J + 1 = count_push is_opening J event ∙ ap (λ b. openings J + cond b 1 0) opened in
    let same : submissions (J ++ event ∷ []) ≡ submissions J + 0 = count_push is_submission J event ∙ ap (λ b. submissions J + cond b 1 0) (no_submission event opened) in
    rw (now, same) (next_opening (submissions J) (openings J) s.places (live_submissions who J) (live_submissions who (J ++ event ∷ [])) few (submissions_within s who J sound))
  where
    no_submission : (event : Event) → is_opening event ≡ true → is_submission event ≡ false
    no_submission (Taken other to cents stamp) e = absurd (false≢true e)
    no_submission (Funded funding) e = refl
    no_submission (Defunded funding) e = refl
    no_submission (Forwarded other_from other cents deadline) e = refl
    no_submission (Booked other_from other outcome) e = refl
    no_submission (Fetched count) e = refl
    no_submission Opened e = refl

pub all_submissions_few : (s : HubSettings) (who : ℕ) (J : List Event) → IsSound s who J → SubmissionsFew s who J
all_submissions_few s who = sound_induction s who (SubmissionsFew s who) (omega arith) (λ J event sound fits before. submissions_few_push s who J event sound fits before (is_opening event) refl)

pub forwarded_step : (from : ℕ) (J : List Event) (event : Event) → is_opening event ≡ false → live_forwarded from (J ++ event ∷ []) ≡ live_forwarded from J + cond (forwards_live from (carried J) event) 1 0
forwarded_step from J event other = ap (λ C. count_by (forwards_live from C) (J ++ event ∷ [])) (carried_push J event other) ∙ count_push (forwards_live from (carried J)) J event

and_le : (b before now : Bool) → cond now 1 0 ≤ cond before 1 0 → cond (b && now) 1 0 ≤ cond (b && before) 1 0
and_le true before now le = le
and_le false before now le = omega arith

forwarded_le : (from : ℕ) (J : List Event) (event : Event) → cond (forwards_live from (J ++ Opened ∷ []) event) 1 0 ≤ cond (forwards_live from (carried J) event) 1 0
forwarded_le from J (Forwarded other_from other cents deadline) =
    and_le (other_from == from) (is_none (booked from other (carried J))) (is_none (booked from other (J ++ Opened ∷ [])))
    (unbooked_le (booked from other (carried J)) (booked from other (J ++ Opened ∷ [])) (booked_after from other J))
forwarded_le from J (Funded funding) = omega arith
forwarded_le from J (Defunded funding) = omega arith
forwarded_le from J (Taken other to cents stamp) = omega arith
forwarded_le from J (Booked other_from other outcome) = omega arith
forwarded_le from J (Fetched count) = omega arith
forwarded_le from J Opened = omega arith

forwarded_opened : (from : ℕ) (J : List Event) → live_forwarded from (J ++ Opened ∷ []) ≤ live_forwarded from J
forwarded_opened from J =
    let opened : live_forwarded from (J ++ Opened ∷ []) ≡ count_by (forwards_live from (J ++ Opened ∷ [])) J + 0 =
    ap (λ C. count_by (forwards_live from C) (J ++ Opened ∷ [])) (carried_opened J) ∙ count_push (forwards_live from (J ++ Opened ∷ [])) J Opened in
    let fewer : count_by (forwards_live from (J ++ Opened ∷ [])) J ≤ live_forwarded from J = sum_by-le-sum_by _ _ J (forwarded_le from J) in
    omega (arith, opened, fewer)

forwarded_push : (s : HubSettings) (who from : ℕ) (J : List Event) (event : Event) → Fits s who J event → live_forwarded from J ≤ s.places → live_forwarded from (J ++ event ∷ []) ≤ s.places
forwarded_push s who from J (Forwarded other_from other cents deadline) fits before = elim (cases_eq other_from from) [
  | inl same ↦
      let place : live_forwarded from J < s.places = rw same at fits.place in
      omega (arith, place, forwarded_step from J (Forwarded other_from other cents deadline) refl, cond_le (forwards_live from (carried J) (Forwarded other_from other cents deadline)))
  | inr another ↦
      let none : forwards_live from (carried J) (Forwarded other_from other cents deadline) ≡ false = ap (λ b. b && is_none (booked from other (carried J))) (ne_eqb other_from from another) in
      omega (arith, forwarded_step from J (Forwarded other_from other cents deadline) refl, ap {B = ℕ} (λ b. cond b 1 0) none)
]
forwarded_push s who from J (Funded funding) fits before = omega (arith, forwarded_step from J (Funded funding) refl)
forwarded_push s who from J (Defunded funding) fits before = omega (arith, forwarded_step from J (Defunded funding) refl)
forwarded_push s who from J (Taken other to cents stamp) fits before = omega (arith, forwarded_step from J (Taken other to cents stamp) refl)
forwarded_push s who from J (Booked other_from other outcome) fits before = omega (arith, forwarded_step from J (Booked other_from other outcome) refl)
forwarded_push s who from J (Fetched count) fits before = omega (arith, forwarded_step from J (Fetched count) refl)
forwarded_push s who from J Opened fits before = omega (arith, forwarded_opened from J)

-- no more live transfers of an originator than it has places
pub forwarded_within : (s : HubSettings) (who from : ℕ) (J : List Event) → IsSound s who J → live_forwarded from J ≤ s.places
forwarded_within s who from = sound_induction s who (λ J. live_forwarded from J ≤ s.places) (omega arith) (λ J event sound fits before. forwarded_push s who from J event fits before)

-- all transfers of an originator, those of the openings before too
abbrev ForwardedFew : HubSettings → ℕ → List Event → Type 0
ForwardedFew s from J = forwarded_from from J ≤ openings J * s.places + live_forwarded from J

come_is_live : (s : HubSettings) (who from : ℕ) (J : List Event) (event : Event) → IsSound s who J → Fits s who J event → cond (forwards_from from event) 1 0 ≤ cond (forwards_live from (carried J) event) 1 0
come_is_live s who from J (Forwarded other_from other cents deadline) sound fits = elim (cases_eq other_from from) [
  | inl same ↦
      let none : booked from other (carried J) ≡ None =
      carried_unbooked from other J (ap (λ f. booked f other J) (sym same) ∙ stranger_unbooked s who other_from other J sound (λ own. absurd (fits.another own)) fits.new) in
      rw (none, eq-eqb other_from from same) (omega arith)
  | inr another ↦ rw (ne_eqb other_from from another) (omega arith)
]
come_is_live s who from J (Funded funding) sound fits = omega arith
come_is_live s who from J (Defunded funding) sound fits = omega arith
come_is_live s who from J (Taken other to cents stamp) sound fits = omega arith
come_is_live s who from J (Booked other_from other outcome) sound fits = omega arith
come_is_live s who from J (Fetched count) sound fits = omega arith
come_is_live s who from J Opened sound fits = omega arith

forwarded_few_push : (s : HubSettings) (who from : ℕ) (J : List Event) (event : Event) → IsSound s who J → Fits s who J event → ForwardedFew s from J → (b : Bool) → is_opening event ≡ b → ForwardedFew s from (J ++ event ∷ [])
forwarded_few_push s who from J event sound fits few false other =
    let now : openings (J ++ event ∷ []) ≡ openings J + 0 = count_push is_opening J event ∙ ap (λ b. openings J + cond b 1 0) other in
    rw (now, count_push (forwards_from from) J event, forwarded_step from J event other)
    (same_opening (forwarded_from from J) (openings J) s.places (live_forwarded from J) (cond (forwards_live from (carried J) event) 1 0) (cond (forwards_from from event) 1 0) few (come_is_live s who from J event sound fits))
forwarded_few_push s who from J event sound fits few true opened =
    let now : openings (J ++ event ∷ []) ≡ openings J + 1 = count_push is_opening J event ∙ ap (λ b. openings J + cond b 1 0) opened in
    let same : forwarded_from from (J ++ event ∷ []) ≡ forwarded_from from J + 0 = count_push (forwards_from from) J event ∙ ap (λ b. forwarded_from from J + cond b 1 0) (no_forwarding event opened) in
    rw (now, same) (next_opening (forwarded_from from J) (openings J) s.places (live_forwarded from J) (live_forwarded from (J ++ event ∷ [])) few (forwarded_within s who from J sound))
  where
    no_forwarding : (event : Event) → is_opening event ≡ true → forwards_from from event ≡ false
    no_forwarding (Forwarded other_from other cents deadline) e = absurd (false≢true e)
    no_forwarding (Funded funding) e = refl
    no_forwarding (Defunded funding) e = refl
    no_forwarding (Taken other to cents stamp) e = refl
    no_forwarding (Booked other_from other outcome) e = refl
    no_forwarding (Fetched count) e = refl
    no_forwarding Opened e = refl

pub all_forwarded_few : (s : HubSettings) (who from : ℕ) (J : List Event) → IsSound s who J → ForwardedFew s from J
all_forwarded_few s who from = sound_induction s who (ForwardedFew s from) (omega arith) (λ J event sound fits before. forwarded_few_push s who from J event sound fits before (is_opening event) refl)

-- all of an originator's are at most so many
few_times : (total n m live : ℕ) → total ≤ n * m + live → n ≤ MOST_OPENINGS → live ≤ m → total ≤ 501 * m
few_times total n m live few openings within =
    let most : n * m ≤ MOST_OPENINGS * m = mul-le-mul openings (le-self m) in
    omega (arith, few, most, within)
  where
    le-self : (m : ℕ) → m ≤ m
    le-self m = omega arith

pub forwarded_at_most : (s : HubSettings) (who from : ℕ) (J : List Event) → IsSound s who J → forwarded_from from J ≤ 501 * s.places
forwarded_at_most s who from J sound = few_times (forwarded_from from J) (openings J) s.places (live_forwarded from J) (all_forwarded_few s who from J sound) (openings_within s who J sound) (forwarded_within s who from J sound)

pub submissions_at_most : (s : HubSettings) (who : ℕ) (J : List Event) → IsSound s who J → submissions J ≤ 501 * s.places
submissions_at_most s who J sound = few_times (submissions J) (openings J) s.places (live_submissions who J) (all_submissions_few s who J sound) (openings_within s who J sound) (submissions_within s who J sound)

pub fundings_at_most : (s : HubSettings) (who : ℕ) (J : List Event) → IsSound s who J → count_by is_funding J ≤ 501 * s.fundings
fundings_at_most s who J sound = few_times (count_by is_funding J) (openings J) s.fundings (fundings J) (all_fundings_few s who J sound) (openings_within s who J sound) (fundings_within s who J sound)

-- whether the event forwards a transfer of one of the first n originators
abbrev pub forwards_below : ℕ → Event → Bool
forwards_below n (Forwarded from id cents deadline) = nat_lt from n
forwards_below n _ = false

below_more : (n : ℕ) (event : Event) → cond (forwards_below (suc n) event) 1 0 ≤ cond (forwards_below n event) 1 0 + cond (forwards_from n event) 1 0
below_more n (Forwarded from id cents deadline) = grind (arith, nat_tests)
below_more n (Taken id to cents stamp) = omega arith
below_more n (Funded funding) = omega arith
below_more n (Defunded funding) = omega arith
below_more n (Booked from id outcome) = omega arith
below_more n (Fetched count) = omega arith
below_more n Opened = omega arith

no_forwarding : (event : Event) → forwards_below 0 event ≡ false
no_forwarding (Forwarded from id cents deadline) = le-ltb from 0 (omega arith)
no_forwarding (Taken id to cents stamp) = refl
no_forwarding (Funded funding) = refl
no_forwarding (Defunded funding) = refl
no_forwarding (Booked from id outcome) = refl
no_forwarding (Fetched count) = refl
no_forwarding Opened = refl

none_below : (J : List Event) → count_by (forwards_below 0) J ≡ 0
none_below [] = refl
none_below (event ∷ events) =
    let none : ℕ = 0 in
    let first : cond (forwards_below 0 event) 1 0 ≡ none = ap (λ b. cond b 1 0) (no_forwarding event) in
    omega (arith, sum_by-cons (λ e. cond (forwards_below 0 e) 1 0) event events, first, none_below events)

pub suc_times : (n m : ℕ) → suc n * m ≡ n * m + m
suc_times n m = grind arith

-- no more transfers of the first n originators than they have places
below_within : (s : HubSettings) (who : ℕ) (J : List Event) (n : ℕ) → IsSound s who J → count_by (forwards_below n) J ≤ n * (501 * s.places)
below_within s who J zero sound = rw (none_below J) (omega arith)
below_within s who J (suc n) sound =
    let more : count_by (forwards_below (suc n)) J ≤ sum_by (λ e. cond (forwards_below n e) 1 0 + cond (forwards_from n e) 1 0) J =
    sum_by-le-sum_by _ _ J (below_more n) in
    let parts : sum_by (λ e. cond (forwards_below n e) 1 0 + cond (forwards_from n e) 1 0) J ≡ count_by (forwards_below n) J + forwarded_from n J =
    sum_by-both (λ e. cond (forwards_below n e) 1 0) (λ e. cond (forwards_from n e) 1 0) J in
    omega (arith, below_within s who J n sound, forwarded_at_most s who n J sound, more, parts, suc_times n (501 * s.places))

forwarding_new : (s : HubSettings) (who : ℕ) (J : List Event) (event : Event) → Fits s who J event → cond (is_forwarding event) 1 0 ≤ cond (forwards_below (participants s) event) 1 0
forwarding_new s who J (Forwarded from id cents deadline) fits = rw fits.originator (omega arith)
forwarding_new s who J (Taken id to cents stamp) fits = omega arith
forwarding_new s who J (Funded funding) fits = omega arith
forwarding_new s who J (Defunded funding) fits = omega arith
forwarding_new s who J (Booked from id outcome) fits = omega arith
forwarding_new s who J (Fetched count) fits = omega arith
forwarding_new s who J Opened fits = omega arith

-- every forwarded transfer is one of a participant
all_below : (s : HubSettings) (who : ℕ) (J : List Event) → IsSound s who J → count_by is_forwarding J ≤ count_by (forwards_below (participants s)) J
all_below s who = sound_induction s who (λ J. count_by is_forwarding J ≤ count_by (forwards_below (participants s)) J) (omega arith)
    (λ J event sound fits before.
    omega (arith, count_push is_forwarding J event, count_push (forwards_below (participants s)) J event, forwarding_new s who J event fits))

-- no more transfers are forwarded than the participants have places in all openings
pub forwardings_within : (s : HubSettings) (who : ℕ) (J : List Event) → IsSound s who J → count_by is_forwarding J ≤ participants s * (501 * s.places)
forwardings_within s who J sound = omega (arith, all_below s who J sound, below_within s who J (participants s) sound)

-- whether the event books this transfer
abbrev booking : ℕ → List ℕ → Event → Bool
booking from id event = is_some (books from id event)

first_none : {A : Type 0} (a b : Option A) → or_else a b ≡ None → a ≡ None
first_none None b none = refl
first_none (Some x) b none = none

-- where nothing is booked, no event books
unbooked_none : (from : ℕ) (id : List ℕ) (J : List Event) → booked from id J ≡ None → count_by (booking from id) J ≡ 0
unbooked_none from id [] none = refl
unbooked_none from id (event ∷ events) none =
    let first : books from id event ≡ None = first_none (books from id event) (booked from id events) none in
    let others : booked from id events ≡ None = ap (λ o. or_else o (booked from id events)) (sym first) ∙ none in
    omega (arith, sum_by-cons (λ e. cond (booking from id e) 1 0) event events, unbooked_none from id events others, ap {B = ℕ} (λ o. cond (is_some o) 1 0) first)

booked_push : (s : HubSettings) (who from : ℕ) (id : List ℕ) (J : List Event) (event : Event) → Fits s who J event → count_by (booking from id) J ≤ 1 → count_by (booking from id) J + cond (booking from id event) 1 0 ≤ 1
booked_push s who from id J (Booked other_from other outcome) fits before = elim (cases_Bool (same_transfer from id other_from other)) [
  | inl same ↦
      let key = and_parts (other_from == from) (same_text other id) same in
      let none : booked from id J ≡ None =
      ap (λ f. booked f id J) (sym (eqb-true other_from from key.0)) ∙ ap (λ i. booked other_from i J) (sym (text_same other id (sym key.1))) ∙ fits.new in
      omega (arith, unbooked_none from id J none, cond_le (booking from id (Booked other_from other outcome)))
  | inr another ↦ rw (another) (omega arith)
]
booked_push s who from id J (Taken other to cents stamp) fits before = omega arith
booked_push s who from id J (Funded funding) fits before = omega arith
booked_push s who from id J (Defunded funding) fits before = omega arith
booked_push s who from id J (Forwarded other_from other cents deadline) fits before = omega arith
booked_push s who from id J (Fetched count) fits before = omega arith
booked_push s who from id J Opened fits before = omega arith

-- a sound history books a transfer at most once
pub booked_once : (s : HubSettings) (who : ℕ) (J : List Event) → IsSound s who J → (from : ℕ) (id : List ℕ) → count_by (booking from id) J ≤ 1
booked_once s who J sound from id = sound_induction s who (λ K. count_by (booking from id) K ≤ 1) (omega arith)
    (λ K event before_sound fits before. omega (arith, count_push (booking from id) K event, booked_push s who from id K event fits before)) J sound

once : (b : Bool) (most n : ℕ) → cond b most 0 + n * most ≡ (cond b 1 0 + n) * most
once true most n = grind arith
once false most n = grind arith

-- so many times the most that one event moves
pub most_times : (p : Event → Bool) (most : ℕ) (J : List Event) → sum_by (λ event. cond (p event) most 0) J ≡ count_by p J * most
most_times p most [] = omega arith
most_times p most (event ∷ events) =
    sum_by-cons (λ e. cond (p e) most 0) event events ∙ ap (λ n. cond (p event) most 0 + n) (most_times p most events)
    ∙ once (p event) most (count_by p events) ∙ sym (ap (λ n. n * most) (sum_by-cons (λ e. cond (p e) 1 0) event events))

-- no position of a sound history is above 64 bits
pub position_fits : (s : HubSettings) (who : ℕ) (J : List Event) → IsSettings s → IsSound s who J
    → sum_by (λ event. cond (is_funding event) MOST_CENTS 0) J + sum_by (λ event. cond (is_forwarding event) MOST_CENTS 0) J < 2 ^ 64
position_fits s who J lawful sound =
    let all_fundings : count_by is_funding J ≤ 513024 = omega (arith, fundings_at_most s who J sound, lawful.fundings_most) in
    let most : 501 * s.places ≤ 513024 = omega (arith, lawful.places_most) in
    let places : participants s * (501 * s.places) ≤ 256 * 513024 = mul-le-mul lawful.participants_most most in
    let all_forwardings : count_by is_forwarding J ≤ 131334144 = omega (arith, forwardings_within s who J sound, places) in
    omega (arith, most_times is_funding MOST_CENTS J, most_times is_forwarding MOST_CENTS J, all_fundings, all_forwardings)
