-- What is known of all histories together, kept through every step.
use Rattle.std.proofs.Common.{◌≡◌, ℕ, zero, true, false, ◌&&◌, cond, List, [], ◌∷◌, ◌++◌, Option, Some, None, is_none, refl, sym, ap, subst, ◌∙◌, inl, inr, append-nil, arith, sum_by}
use Rattle.std.specs.List.{cons_option}
use Rattle.std.proofs.lemmas.List.Sums.{sum_by_push}
use Rattle.std.proofs.lemmas.Bool.{cases_Bool, cases_eq, and_parts, ne_eqb, true≢false}
use Rattle.inst_model.specs.Opening.{Opening, IsOpening}
use Rattle.inst_settings.specs.Settings.{HubSettings, same_text, is_participant}
use Rattle.inst_command.specs.Ask.{command_fits}
use Rattle.inst_command.specs.Step.{step_fits}
use Rattle.inst_command.specs.declared.outcome.Outcome.{Outcome}
use Rattle.inst_command.specs.declared.step.Step.{Step}
use Rattle.inst_journal.specs.declared.event.Event.{Event}
use Rattle.inst_journal.specs.declared.event.Event.TheVariants.{Funded, Defunded, Taken, Forwarded, Booked, Fetched}
use Rattle.inst_journal.specs.Booked.{booked, is_forwarded}
use Rattle.inst_journal.specs.Opened.{carried}
use Rattle.inst_journal.specs.Sound.{IsSound}
use Rattle.inst_journal.proofs.KeptEventsFit.{history_after_sound}
use Rattle.inst_journal.proofs.Soundness.{sound_push}
use Rattle.inst_model.specs.Transfer.{Transfer, terms, transfers, at_place, transfer, deadline}
use Rattle.inst_model.specs.Found.{found}
use Rattle.inst_model.specs.Kept.{with_entries}
use Rattle.inst_model.specs.Hub.{decided, outcome, history}
use Rattle.inst_model.specs.Interleaving.{IsInterleaving}
use Rattle.inst_model.proofs.Steps.{sees_cases}
use Rattle.inst_model.proofs.Histories.{next, grows, persists, history_step, at_place_taken}
use Rattle.inst_model.proofs.Transfers.{as_transfer, transfers_push, transfer_kept, transfer_taken, place_found, place_to_another}
use Rattle.inst_model.proofs.HistoriesBeginSoundAndClosed.{beginning_together, beginning_living}
use Rattle.inst_model.proofs.LiveForwardedTransfers.{Living, place_left, living_next}
use Rattle.inst_model.proofs.Mirror.{Mirrors, Together, weighed, weighed_there, mirrors_other, mirrors_coming, measure_of, single, taken_before}

-- the forwarded transfers of q after a step measure as the transfers taken before it
mirrors_before : (s : HubSettings) (J : ℕ → List Event) (before : ℕ → List ℕ → Option Outcome) (step : Step) → Together s J → (q from : ℕ) → Mirrors from (next s J before step q) (transfers (J from))
mirrors_before s J before step t q from =
    let T : List Transfer = transfers (J from) in
    let old : Mirrors from (J q) T = t.mirror q from in
    grows s J before step q (λ K. Mirrors from K T) (record {
      nothing = old;
      funds = λ ask funding is command why. mirrors_other from (J q) T (Funded funding) (λ id. refl) (λ g. refl) old;
      defunds = λ ask funding is command why cover. mirrors_other from (J q) T (Defunded funding) (λ id. refl) (λ g. refl) old;
      takes = λ ask id to cents stamp is command why. mirrors_other from (J q) T (Taken id to cents stamp) (λ id. refl) (λ g. refl) old;
      forwards = λ o index x is why. elim (cases_eq o from) [
        | inl same ↦
            let found : transfer x.id (J from) ≡ Some x = ap (λ p. transfer x.id (J p)) (sym same) ∙ place_found s o (J o) index x (t.sound o) why.there in
            let new : is_forwarded from x.id (J q) ≡ false = ap (λ p. is_forwarded p x.id (J q)) (sym same) ∙ why.new in
            let P : ℕ → Type 0 = λ p. Mirrors from (J q ++ Forwarded p x.id x.cents (deadline s x) ∷ []) T in
            subst P (sym same) (mirrors_coming from (J q) T x (deadline s x) new (λ h. single s from h x.id (J from) (t.sound from) ∙ ap (measure_of h) found) old)
        | inr another ↦
            mirrors_other from (J q) T (Forwarded o x.id x.cents (deadline s x))
            (λ id. ap (λ b. b && same_text x.id id) (ne_eqb o from another)) (λ g. ap (λ b. cond b (g x.id x.cents) 0) (ne_eqb o from another)) old
      ];
      books = λ o id outcome why. mirrors_other from (J q) T (Booked o id outcome) (λ id. refl) (λ g. refl) old;
      hands_out = λ ask max entry entries is command some. mirrors_other from (J q) T (Fetched _) (λ id. refl) (λ g. refl) old;
    })

-- one more event of the originator
mirrors_later : (from : ℕ) (K : List Event) (J : List Event) (event : Event) → terms event ≡ None → Mirrors from K (transfers J) → Mirrors from K (transfers (J ++ event ∷ []))
mirrors_later from K J event none m = subst (Mirrors from K) (sym (transfers_push J event ∙ ap (λ o. transfers J ++ cons_option o []) none ∙ append-nil (transfers J))) m

mirrors_after : (s : HubSettings) (J : ℕ → List Event) (before : ℕ → List ℕ → Option Outcome) (step : Step) → Together s J → (q from : ℕ) → Mirrors from (next s J before step q) (transfers (next s J before step from))
mirrors_after s J before step t q from =
    let K : List Event = next s J before step q in
    let m : Mirrors from K (transfers (J from)) = mirrors_before s J before step t q from in
    let R : List Event → Type 0 = λ H. Mirrors from K (transfers H) in
    grows s J before step from R (record {
      nothing = m;
      funds = λ ask funding is command why. mirrors_later from K (J from) (Funded funding) refl m;
      defunds = λ ask funding is command why cover. mirrors_later from K (J from) (Defunded funding) refl m;
      takes = λ ask id to cents stamp is command why.
          let x : Transfer = as_transfer id to cents stamp in
          let unforwarded : is_forwarded from id K ≡ false = elim (cases_Bool (is_forwarded from id K)) [
            | inl yes' ↦
                let was = taken_before s J before step t q from id yes' in
                absurd (true≢false (sym (transfer_taken id (J from) was.0 was.1) ∙ why.new))
            | inr no' ↦ no'
          ] in
          let longer : Mirrors from K (transfers (J from) ++ x ∷ []) = λ g.
          let nothing : weighed_there g from K x ≡ zero = ap (λ b. cond b (g id cents) 0) unforwarded in
          omega (arith, m g, sum_by_push (weighed_there g from K) (transfers (J from)) x, nothing) in
          subst (Mirrors from K) (sym (transfers_push (J from) (Taken id to cents stamp))) longer;
      forwards = λ o index x is why. mirrors_later from K (J from) _ refl m;
      books = λ o id outcome why. mirrors_later from K (J from) (Booked o id outcome) refl m;
      hands_out = λ ask max entry entries is command some. mirrors_later from K (J from) _ refl m;
    })

-- a taken transfer stays
pub transfer_next : (s : HubSettings) (J : ℕ → List Event) (before : ℕ → List ℕ → Option Outcome) (step : Step) (p : ℕ) (id : List ℕ) (x : Transfer) → transfer id (J p) ≡ Some x → transfer id (next s J before step p) ≡ Some x
transfer_next s J before step p id x e = persists s J before step p (λ K. transfer id K ≡ Some x) (λ K event. transfer_kept id K event x) e

sound_next : (s : HubSettings) (J : ℕ → List Event) (before : ℕ → List ℕ → Option Outcome) (step : Step) → Together s J → Living J → step_fits s step ≡ true → (p : ℕ) → IsSound s p (next s J before step p)
sound_next s J before step t living fits p =
    sees_cases s J before step p (λ v. IsSound s p (with_entries s p (J p) v)) (record {
      nothing = t.sound p;
      asked = λ ask is who.
          let parts : (is_participant s ask.who ≡ true) × (command_fits s ask.command ≡ true) = and_parts (is_participant s ask.who) (command_fits s ask.command) (ap (step_fits s) (sym is) ∙ fits) in
          history_after_sound s p (J p) ask.command ask.at (found (decided s J before step) p (J p) ask.command) (t.sound p) parts.1;
      came = λ from index x is why.
          let parts : (is_participant s from ≡ true) × (is_participant s p ≡ true) = and_parts (is_participant s from) (is_participant s p) (ap (step_fits s) (sym is) ∙ fits) in
          sound_push s p (J p) (Forwarded from x.id x.cents (deadline s x)) (t.sound p) (record {
            originator = parts.0;
            another = λ same. place_to_another s from (J from) index x (t.sound from) why.there (why.addressed ∙ sym same);
            new = why.new;
            place = place_left s J p from index x t living why.there why.new;
          });
      told = λ from index x o why.
          sound_push s p (J p) (Booked from x.id o) (t.sound p) (record {
            party = elim why.party [
              | inl same ↦ inl (sym same, at_place_taken p (J p) index x (subst (λ (q : ℕ). at_place q (J q) index ≡ Some x) (sym same) why.there))
              | inr there ↦ inr there
            ];
            new = why.new;
          });
    })

together_next : (s : HubSettings) (J : ℕ → List Event) (before : ℕ → List ℕ → Option Outcome) (step : Step) → Together s J → Living J → step_fits s step ≡ true → Together s (next s J before step)
together_next s J before step t living fits = record {
  sound = sound_next s J before step t living fits;
  taken = λ q from id e.
      let was = taken_before s J before step t q from id e in
      (was.0, transfer_next s J before step from id was.0 was.1, was.2);
  mirror = mirrors_after s J before step t;
}

pub living : (s : HubSettings) (O : Opening) → IsOpening s O → (L : List Step) → Together s (history s O L) → Living (history s O L) → (step : Step) → Living (history s O (step ∷ L))
living s O opened past t now step q from id e =
    let next_is : Living (next s (history s O past) (outcome s O past) step) = living_next s (history s O past) (outcome s O past) step t now in
    ap (λ K. is_none (booked from id (carried K))) (history_step s O step past q)
    ∙ next_is q from id (sym (ap (is_forwarded from id) (history_step s O step past q)) ∙ e)
    ∙ sym (ap (λ K. is_none (booked from id (carried K))) (history_step s O step past from))

both : (s : HubSettings) (O : Opening) → IsOpening s O → (L : List Step) → IsInterleaving s L → Together s (history s O L) × Living (history s O L)
both s O opened [] steps = (beginning_together s O opened, beginning_living s O opened)
both s O opened (step ∷ past) steps =
    let earlier = both s O opened past steps.1 in
    let t : Together s (next s (history s O past) (outcome s O past) step) = together_next s (history s O past) (outcome s O past) step earlier.0 earlier.1 steps.0 in (
      record {
        sound = λ p. subst (IsSound s p) (sym (history_step s O step past p)) (t.sound p);
        taken = λ q from id e.
            let was = t.taken q from id (sym (ap (is_forwarded from id) (history_step s O step past q)) ∙ e) in
            (was.0, ap (transfer id) (history_step s O step past from) ∙ was.1, was.2);
        mirror = λ q from g.
            ap (sum_by (weighed g from)) (history_step s O step past q) ∙ t.mirror q from g
            ∙ sym (ap (λ K. sum_by (weighed_there g from K) (transfers (history s O (step ∷ past) from))) (history_step s O step past q)
            ∙ ap (λ K. sum_by (weighed_there g from (next s (history s O past) (outcome s O past) step q)) (transfers K)) (history_step s O step past from));
      },
      living s O opened past earlier.0 earlier.1 step,
    )

pub together : (s : HubSettings) (O : Opening) → IsOpening s O → (L : List Step) → IsInterleaving s L → Together s (history s O L)
together s O opened L steps = (both s O opened L steps).0

-- what is forwarded is live on both sides or on neither
pub live_together : (s : HubSettings) (O : Opening) → IsOpening s O → (L : List Step) → IsInterleaving s L → Living (history s O L)
live_together s O opened L steps = (both s O opened L steps).1
