-- A transfer's outcome is made from the steps on it alone.
use Rattle.std.proofs.Common.{◌≡◌, ℕ, Bool, true, false, cond, ◌||◌, is_none, List, [], ◌∷◌, ◌++◌, Option, Some, None, is_some, refl, sym, ap, subst, ◌∙◌, inl, inr, Contains}
use Rattle.std.proofs.lemmas.Option.{same_Some}
use Rattle.inst_model.specs.Opening.{Opening, IsOpening, beginning}
use Rattle.inst_base.specs.TimeLimit.{deadline_of}
use Rattle.inst_settings.specs.Settings.{HubSettings}
use Rattle.inst_command.specs.declared.outcome.Outcome.{Outcome}
use Rattle.inst_command.specs.declared.step.Step.{Step}
use Rattle.inst_journal.specs.declared.event.Event.{Event}
use Rattle.inst_journal.specs.declared.event.Event.TheVariants.{Taken, Forwarded}
use Rattle.inst_journal.specs.Sound.{IsSound}
use Rattle.inst_model.specs.Locality.Touch.{Delivers, Confirms, Rejects, Investigates, Expires}
use Rattle.inst_journal.specs.Booked.{or_else, is_taken, is_forwarded, forwards, booked}
use Rattle.inst_model.specs.Transfer.{Transfer, transfers, transfer}
use Rattle.inst_model.specs.Wants.{step_wants, taken_wants, wants}
use Rattle.inst_model.specs.Hub.{decided, outcome, history}
use Rattle.inst_model.specs.Interleaving.{IsInterleaving}
use Rattle.inst_model.specs.Locality.{undelivered, decisive, Touch, step_on, taken_on, steps_on, OutcomeIsLocal}
use Rattle.inst_model.proofs.Histories.{next, history_step, persists_step}
use Rattle.inst_model.proofs.Transfers.{transfer_kept, taken_transfer, transfer_id}
use Rattle.inst_model.proofs.Mirror.{taken_before}
use Rattle.inst_model.proofs.AllHistoriesTogether.{together}
use Rattle.inst_model.proofs.HistoriesBeginSoundAndClosed.{beginning_sound, beginning_closed, beginning_together, beginning_booked}
use Rattle.inst_model.proofs.HistoryKeepsWhatItHas.{is_none_of}
use Rattle.inst_model.proofs.BookingsAreOfParties.{booked_party, booked_found}
use Rattle.inst_model.proofs.Events.{taken_event, each_there, stands_somewhere}
use Rattle.inst_model.proofs.TextsTestsAndFirstThings.{Each, Each_at, Each_contains, Each_weaker, same_transfer_refl, or_else_kept}
use Rattle.inst_journal.proofs.OwnBookings.{own_unforwarded}
use Rattle.std.proofs.lemmas.Bool.{true≢false, or_left, or_right}
use Rattle.std.specs.List.{list_any}
use Rattle.inst_model.proofs.Progress.{Progress, Says, after_touch, progress, progress-append}
use Rattle.inst_model.proofs.ProgressAfterOneStep.{one_step}

-- a transfer that isn't taken yet
pub record Untouched (s : HubSettings) (O : Opening) (L : List Step) (p : ℕ) (id : List ℕ) : Type 0 where
  pub no_steps : steps_on s O L p id ≡ []
  pub no_outcome : outcome s O L p id ≡ None
  pub unbegun : (q : ℕ) → is_forwarded p id (beginning O q) ≡ false
  pub undecided : booked p id (beginning O p) ≡ None
  pub nowhere : (q : ℕ) → is_forwarded p id (history s O L q) ≡ false

-- how far the transfer x has come at the beginning
abbrev begun : Opening → ℕ → List ℕ → Transfer → Progress
begun O p id x = record { forwarded = is_forwarded p id (beginning O x.to); decided = booked p id (beginning O p) }

unforwarded : (s : HubSettings) (J : ℕ → List Event) (q p : ℕ) (id : List ℕ) (b : Bool) → transfer id (J p) ≡ None → (b ≡ true → (x : Transfer) × (transfer id (J p) ≡ Some x) × (x.to ≡ q)) → b ≡ false
unforwarded s J q p id false none taken = refl
unforwarded s J q p id true none taken = let was = taken refl in let e : None ≡ Some was.0 = sym none ∙ was.1 in absurd cc

untaken_unbooked : (s : HubSettings) (p : ℕ) (id : List ℕ) (J : List Event) → IsSound s p J → transfer id J ≡ None → booked p id J ≡ None
untaken_unbooked s p id J sound none = is_none_of (booked p id J) (λ o some. elim (booked_party s p p id o J sound some) [
  | inl ours ↦ let found = taken_transfer id J ours.1 in let e : None ≡ Some found.0 = sym none ∙ found.1 in absurd cc
  | inr there ↦ absurd (true≢false (sym there ∙ own_unforwarded s p id J sound))
])

untouched : (s : HubSettings) (O : Opening) → IsOpening s O → (L : List Step) (p : ℕ) (id : List ℕ) → IsInterleaving s L → transfer id (history s O L p) ≡ None → Untouched s O L p id
untouched s O opened [] p id steps none =
    let nowhere : (q : ℕ) → is_forwarded p id (beginning O q) ≡ false = λ q. unforwarded s (beginning O) q p id (is_forwarded p id (beginning O q)) none ((beginning_together s O opened).taken q p id) in
    let undecided : booked p id (beginning O p) ≡ None = untaken_unbooked s p id (beginning O p) (beginning_sound s O opened p) none in
    record { no_steps = refl; no_outcome = undecided; unbegun = nowhere; undecided = undecided; nowhere = nowhere }
untouched s O opened (step ∷ past) p id steps none = go (untouched s O opened past p id steps.1) (transfer id (history s O past p)) refl
  where
    go : (transfer id (history s O past p) ≡ None → Untouched s O past p id) → (o : Option Transfer) → transfer id (history s O past p) ≡ o → Untouched s O (step ∷ past) p id
    go earlier (Some x) was = let e : None ≡ Some x = sym none ∙ persists_step s O step past p (λ K. transfer id K ≡ Some x) (λ K event. transfer_kept id K event x) was in absurd cc
    go earlier None was =
        let before : Untouched s O past p id = earlier was in
        record {
          no_steps = ap (λ ts. ts ++ taken_on (history s O past) step p id (transfer id (history s O past p))) before.no_steps ∙ ap (taken_on (history s O past) step p id) was;
          no_outcome = ap (λ o. or_else o (wants s (history s O past) step p id)) before.no_outcome ∙ ap (taken_wants s (history s O past) step p id) was;
          unbegun = before.unbegun;
          undecided = before.undecided;
          nowhere = λ q. unforwarded s (history s O (step ∷ past)) q p id (is_forwarded p id (history s O (step ∷ past) q)) none ((together s O opened (step ∷ past) steps).taken q p id);
        }

same_progress : (g : Progress) (there : Bool) (decided : Option Outcome) → there ≡ g.forwarded → decided ≡ g.decided → record { forwarded = there; decided = decided } ≡ g
same_progress g there decided e f = ap (λ b. record { forwarded = b; decided = decided }) e ∙ ap (λ o. record { forwarded = g.forwarded; decided = o }) f

-- how far a taken transfer has come is told by the steps on it
pub by_steps : (s : HubSettings) (O : Opening) → IsOpening s O → (L : List Step) (p : ℕ) (id : List ℕ) (x : Transfer) → IsInterleaving s L → transfer id (history s O L p) ≡ Some x → Says s (is_forwarded p id (history s O L x.to)) (outcome s O L p id) (progress s x (begun O p id x) (steps_on s O L p id))
by_steps s O opened [] p id x steps found = record { forwarded_is = refl; decided_is = refl }
by_steps s O opened (step ∷ past) p id x steps found = go (by_steps s O opened past p id x steps.1) (transfer id (history s O past p)) refl
  where
    go : (transfer id (history s O past p) ≡ Some x → Says s (is_forwarded p id (history s O past x.to)) (outcome s O past p id) (progress s x (begun O p id x) (steps_on s O past p id))) →
        (o : Option Transfer) → transfer id (history s O past p) ≡ o → Says s (is_forwarded p id (history s O (step ∷ past) x.to)) (outcome s O (step ∷ past) p id) (progress s x (begun O p id x) (steps_on s O (step ∷ past) p id))
    go earlier None was =
        let before : Untouched s O past p id = untouched s O opened past p id steps.1 was in
        let none_on : steps_on s O (step ∷ past) p id ≡ [] = ap (λ ts. ts ++ taken_on (history s O past) step p id (transfer id (history s O past p))) before.no_steps ∙ ap (taken_on (history s O past) step p id) was in
        let now : is_forwarded p id (history s O (step ∷ past) x.to) ≡ false =
        ap (is_forwarded p id) (history_step s O step past x.to)
        ∙ unforwarded s (history s O past) x.to p id (is_forwarded p id (next s (history s O past) (outcome s O past) step x.to)) was (taken_before s (history s O past) (outcome s O past) step (together s O opened past steps.1) x.to p id) in
        let undecided : outcome s O (step ∷ past) p id ≡ None = ap (λ o. or_else o (wants s (history s O past) step p id)) before.no_outcome ∙ ap (taken_wants s (history s O past) step p id) was in
        record {
          forwarded_is = now ∙ sym (before.unbegun x.to) ∙ sym (ap (λ ts. (progress s x (begun O p id x) ts).forwarded) none_on);
          decided_is = undecided ∙ sym before.undecided ∙ sym (ap (λ ts. (progress s x (begun O p id x) ts).decided) none_on);
        }
    go earlier (Some y) was =
        let itself : y ≡ x = same_Some y x (sym (persists_step s O step past p (λ K. transfer id K ≡ Some y) (λ K event. transfer_kept id K event y) was) ∙ found) in
        let was_x : transfer id (history s O past p) ≡ Some x = was ∙ ap Some itself in
        let before : Says s (is_forwarded p id (history s O past x.to)) (outcome s O past p id) (progress s x (begun O p id x) (steps_on s O past p id)) = earlier was_x in
        let g : Progress = progress s x (begun O p id x) (steps_on s O past p id) in
        let one : Says s (is_forwarded p id (next s (history s O past) (outcome s O past) step x.to)) (or_else (outcome s O past p id) (step_wants s (history s O past) step p id x)) (progress s x (record { forwarded = is_forwarded p id (history s O past x.to); decided = outcome s O past p id }) (step_on (history s O past) step p id x)) =
        one_step s (history s O past) (outcome s O past) step p id x (together s O opened past steps.1) was_x in
        let end : progress s x (begun O p id x) (steps_on s O (step ∷ past) p id) ≡ progress s x (record { forwarded = is_forwarded p id (history s O past x.to); decided = outcome s O past p id }) (step_on (history s O past) step p id x) =
        ap (λ o. progress s x (begun O p id x) (steps_on s O past p id ++ taken_on (history s O past) step p id o)) was_x
        ∙ progress-append s x (begun O p id x) (steps_on s O past p id) (step_on (history s O past) step p id x)
        ∙ ap (λ h. progress s x h (step_on (history s O past) step p id x)) (sym (same_progress g (is_forwarded p id (history s O past x.to)) (outcome s O past p id) before.forwarded_is before.decided_is)) in
        record {
          forwarded_is = ap (is_forwarded p id) (history_step s O step past x.to) ∙ one.forwarded_is ∙ sym (ap (λ (h : Progress). h.forwarded) end);
          decided_is = ap (λ o. or_else (outcome s O past p id) (taken_wants s (history s O past) step p id o)) was_x ∙ one.decided_is ∙ sym (ap (λ (h : Progress). h.decided) end);
        }

-- what is decided stays so
stays_decided : (s : HubSettings) (x : Transfer) (o : Outcome) (ts : List Touch) (g : Progress) → g.decided ≡ Some o → (progress s x g ts).decided ≡ Some o
stays_decided s x o [] g e = e
stays_decided s x o (t ∷ ts) g e = stays_decided s x o ts (after_touch s x g t) (one t)
  where
    one : (t : Touch) → (after_touch s x g t).decided ≡ Some o
    one Delivers = e
    one (Confirms at) = or_else_kept g.decided _ o e
    one (Rejects reason at) = or_else_kept g.decided _ o e
    one (Investigates at) = or_else_kept g.decided _ o e
    one (Expires at) = or_else_kept g.decided _ o e

each_any : (f : Event → Bool) (J : List Event) → Each (λ event. f event ≡ true → list_any f J ≡ true) J
each_any f [] = tt
each_any f (event ∷ J) = (
  λ e. or_left (f event) (list_any f J) e,
  Each_weaker (λ other. f other ≡ true → list_any f J ≡ true) (λ other. f other ≡ true → list_any f (event ∷ J) ≡ true) J (λ other h e. or_right (f event) (list_any f J) (h e)) (each_any f J),
)

forwarded_found : (from : ℕ) (id : List ℕ) (J : List Event) (cents d : ℕ) → Contains J (Forwarded from id cents d) → is_forwarded from id J ≡ true
forwarded_found from id J cents d there =
    Each_contains (λ event. forwards from id event ≡ true → is_forwarded from id J ≡ true) J (Forwarded from id cents d) (each_any (forwards from id) J) there (same_transfer_refl from id)

-- a transfer that the books have taken and not booked is forwarded
begun_forwarded : (s : HubSettings) (O : Opening) → IsOpening s O → (p : ℕ) (id : List ℕ) (x : Transfer) → transfer id (beginning O p) ≡ Some x → booked p id (beginning O p) ≡ None → is_forwarded p id (beginning O x.to) ≡ true
begun_forwarded s O opened p id x found none =
    let J : List Event = beginning O p in
    let index = stands_somewhere id J x found in
    let event : Contains J (taken_event x) = Each_at (λ (t : Transfer). Contains J (taken_event t)) (transfers J) index.0 x (each_there J) index.1 in
    let named : Contains J (Taken id x.to x.cents x.stamp) = subst (λ (i : List ℕ). Contains J (Taken i x.to x.cents x.stamp)) (transfer_id id J x found) event in
    forwarded_found p id (beginning O x.to) x.cents (deadline_of s.limit x.stamp)
    ((beginning_closed s O opened).pending_is_forwarded p id x.to x.cents x.stamp named
    (λ q o there.
    let e : None ≡ Some o = sym none ∙ beginning_booked s O opened q p id o (booked_found s q (beginning O q) p id o (beginning_sound s O opened q) there) in absurd cc))

begun_stays : (s : HubSettings) (O : Opening) (L : List Step) (p : ℕ) (id : List ℕ) (x : Transfer) → transfer id (beginning O p) ≡ Some x → transfer id (history s O L p) ≡ Some x
begun_stays s O [] p id x e = e
begun_stays s O (step ∷ past) p id x e = persists_step s O step past p (λ K. transfer id K ≡ Some x) (λ K event. transfer_kept id K event x) (begun_stays s O past p id x e)

-- a transfer that begins undecided is forwarded at the beginning exactly if it is there
undecided_begun : (s : HubSettings) (O : Opening) → IsOpening s O → (L : List Step) (p : ℕ) (id : List ℕ) (x : Transfer) → transfer id (history s O L p) ≡ Some x → booked p id (beginning O p) ≡ None →
    (o : Option Transfer) → transfer id (beginning O p) ≡ o → is_forwarded p id (beginning O x.to) ≡ is_some o
undecided_begun s O opened L p id x found none None there = unforwarded s (beginning O) x.to p id (is_forwarded p id (beginning O x.to)) there ((beginning_together s O opened).taken x.to p id)
undecided_begun s O opened L p id x found none (Some y) there =
    let same : y ≡ x = same_Some y x (sym (begun_stays s O L p id y there) ∙ found) in
    begun_forwarded s O opened p id x (there ∙ ap Some same) none

-- of a forwarded transfer the deliveries add nothing
undelivered_same : (s : HubSettings) (x : Transfer) (ts : List Touch) (g : Progress) → g.forwarded ≡ true → (progress s x g (undelivered ts)).decided ≡ (progress s x g ts).decided
undelivered_same s x [] g e = refl
undelivered_same s x (Delivers ∷ ts) g e =
    undelivered_same s x ts g e
    ∙ sym (ap (λ (h : Progress). (progress s x h ts).decided) (same_progress g (g.forwarded || is_none g.decided) g.decided (ap (λ b. b || is_none g.decided) e ∙ sym e) refl))
undelivered_same s x (Confirms at ∷ ts) g e = undelivered_same s x ts (after_touch s x g (Confirms at)) e
undelivered_same s x (Rejects reason at ∷ ts) g e = undelivered_same s x ts (after_touch s x g (Rejects reason at)) e
undelivered_same s x (Investigates at ∷ ts) g e = undelivered_same s x ts (after_touch s x g (Investigates at)) e
undelivered_same s x (Expires at ∷ ts) g e = undelivered_same s x ts (after_touch s x g (Expires at)) e

decisive_same : (s : HubSettings) (O : Opening) → IsOpening s O → (L : List Step) (p : ℕ) (id : List ℕ) (x : Transfer) → transfer id (history s O L p) ≡ Some x → (ts : List Touch) →
    (progress s x (begun O p id x) (decisive O p id ts)).decided ≡ (progress s x (begun O p id x) ts).decided
decisive_same s O opened L p id x found ts = go (is_taken id (beginning O p)) refl (booked p id (beginning O p)) refl
  where
    go : (b : Bool) → is_taken id (beginning O p) ≡ b → (o : Option Outcome) → booked p id (beginning O p) ≡ o →
        (progress s x (begun O p id x) (cond b (undelivered ts) ts)).decided ≡ (progress s x (begun O p id x) ts).decided
    go false taken o e = refl
    go true taken (Some o) e = stays_decided s x o (undelivered ts) (begun O p id x) e ∙ sym (stays_decided s x o ts (begun O p id x) e)
    go true taken None e =
        let there = taken_transfer id (beginning O p) taken in
        undelivered_same s x ts (begun O p id x) (undecided_begun s O opened L p id x found e (Some there.0) there.1)

pub outcome_is_local : OutcomeIsLocal
outcome_is_local s O P L M p id x opened reopened fits_L fits_M alike in_L in_M same =
    (by_steps s O opened L p id x fits_L in_L).decided_is ∙ sym (decisive_same s O opened L p id x in_L (steps_on s O L p id)) ∙ ap (λ ts. (progress s x (begun O p id x) ts).decided) same
    ∙ from_there (decisive P p id (steps_on s P M p id)) (booked p id (beginning O p)) refl ∙ decisive_same s P reopened M p id x in_M (steps_on s P M p id) ∙ sym (by_steps s P reopened M p id x fits_M in_M).decided_is
  where
    from_there : (ts : List Touch) (o : Option Outcome) → booked p id (beginning O p) ≡ o → (progress s x (begun O p id x) ts).decided ≡ (progress s x (begun P p id x) ts).decided
    from_there ts (Some o) e = stays_decided s x o ts (begun O p id x) e ∙ sym (stays_decided s x o ts (begun P p id x) (sym alike.outcome ∙ e))
    from_there ts None e =
        let forwarded : is_forwarded p id (beginning O x.to) ≡ is_forwarded p id (beginning P x.to) =
        undecided_begun s O opened L p id x in_L e (transfer id (beginning O p)) refl
        ∙ sym (undecided_begun s P reopened M p id x in_M (sym alike.outcome ∙ e) (transfer id (beginning O p)) (sym alike.terms)) in
        ap (λ (g : Progress). (progress s x g ts).decided) (same_progress (begun P p id x) (is_forwarded p id (beginning O x.to)) (booked p id (beginning O p)) forwarded alike.outcome)
