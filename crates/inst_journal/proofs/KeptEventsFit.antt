-- What a command keeps fits the history before it.
use Rattle.std.proofs.Common.{◌≡◌, ℕ, ◌+◌, ◌≤◌, Bool, true, false, ◌==◌, cond, nat_le, nat_lt, List, [], ◌∷◌, length, take, ◌⊎◌, inl, inr, Option, Some, None, Result, Ok, Err, refl, sym, ap, ◌∙◌, ◌<◌, arith, min, ◌&&◌}
use Rattle.std.proofs.lemmas.Bool.{and_parts, leb-true, leb-false, ltb-false, eqb-false}
use Rattle.std.proofs.lemmas.List.{length-take}
use Rattle.std.proofs.lemmas.Bool.Decides.{nat_tests}
use Rattle.inst_base.specs.Moment.{is_moment}
use Rattle.inst_base.specs.TimeLimit.{deadline_of, is_due, is_ahead}
use Rattle.inst_base.specs.declared.fault.Fault.{Fault}
use Rattle.inst_base.specs.declared.fault.Fault.TheVariants.{Expired, Duplicate, Full}
use Rattle.inst_settings.specs.Settings.{HubSettings, is_participant, is_within_ceiling}
use Rattle.inst_command.specs.Ask.{is_count, command_fits}
use Rattle.inst_command.specs.declared.command.Command.{Command}
use Rattle.inst_command.specs.declared.command.Command.TheVariants.{Fund, Defund, Submit, Confirm, Reject, Investigate, Fetch, Query}
use Rattle.inst_command.specs.declared.entry.Entry.{Entry}
use Rattle.inst_command.specs.declared.funding.Funding.{Funding}
use Rattle.inst_command.specs.declared.submission.Submission.{Submission}
use Rattle.inst_command.specs.declared.outcome.Outcome.{Outcome}
use Rattle.inst_journal.specs.declared.event.Event.{Event}
use Rattle.inst_journal.specs.declared.handle.Handled.{Handled}
use Rattle.inst_journal.specs.Booked.{is_taken, is_forwarded, booked}
use Rattle.inst_journal.specs.Opened.{live_submissions}
use Rattle.inst_journal.specs.Money.{available}
use Rattle.inst_journal.specs.Keys.{is_fund_repeat, is_defund_repeat, is_submission_repeat, has_reference, fundings}
use Rattle.inst_journal.specs.Reply.{is_new_funding, funding, fund, defund, submit, state_reply, still_pending, answer_forwarded, investigate, unread, hand_out, handle, kept_events, history_after}
use Rattle.inst_journal.specs.Sound.{FitAfter, IsSound}
use Rattle.inst_journal.proofs.Soundness.{sound_with}

-- what is kept fits
abbrev KeptFits : HubSettings → ℕ → List Event → Result Handled Fault → Type 0
KeptFits s who J h = FitAfter s who J (kept_events h)

-- of one of two, chosen by a test
chosen : (s : HubSettings) (who : ℕ) (J : List Event) (b : Bool) (x y : Result Handled Fault) → (b ≡ true → KeptFits s who J x) → (b ≡ false → KeptFits s who J y) → KeptFits s who J (cond b x y)
chosen s who J true x y first second = first refl
chosen s who J false x y first second = second refl

-- what is kept of a new fund or defund command fits, and nothing is kept of others
funding_kept : (s : HubSettings) (who : ℕ) (J : List Event) (reference : List ℕ) (is_repeat : Bool) (new : Result Handled Fault)
    → (has_reference reference J ≡ false → fundings J < s.fundings → KeptFits s who J new)
    → KeptFits s who J (funding reference new (is_new_funding s J reference is_repeat))
funding_kept s who J reference true new keeps = tt
funding_kept s who J reference false new keeps =
    elim (has_reference reference J) as (λ (b : Bool). has_reference reference J ≡ b →
    KeptFits s who J (funding reference new (cond b (Err Duplicate) (cond (nat_le s.fundings (fundings J)) (Err Full) (Ok true))))) [
      | true ↦ λ _. tt
      | false ↦ λ none.
          elim (nat_le s.fundings (fundings J)) as (λ (b : Bool). nat_le s.fundings (fundings J) ≡ b →
          KeptFits s who J (funding reference new (cond b (Err Full) (Ok true)))) [
            | true ↦ λ _. tt
            | false ↦ λ room. keeps none (leb-false s.fundings (fundings J) room)
          ] refl
    ] refl

fund_kept : (s : HubSettings) (who : ℕ) (J : List Event) (funding : Funding) → is_within_ceiling s funding.cents ≡ true → KeptFits s who J (fund s J funding)
fund_kept s who J funding amount =
    funding_kept s who J funding.reference (is_fund_repeat funding J) _ (λ new place. (record { new = new; place = place; amount = amount }, tt))

defund_kept : (s : HubSettings) (who : ℕ) (J : List Event) (funding : Funding) → is_within_ceiling s funding.cents ≡ true → KeptFits s who J (defund s J funding)
defund_kept s who J funding amount =
    funding_kept s who J funding.reference (is_defund_repeat funding J) _ (λ new place.
    chosen s who J (nat_lt (available J) funding.cents) _ _ (λ _. tt) (λ cover. (
      record {
        funding = record { new = new; place = place; amount = amount };
        cover = ltb-false (available J) funding.cents cover;
      },
      tt,
    )))

submit_kept : (s : HubSettings) (who : ℕ) (J : List Event) (at : ℕ) (x : Submission) → command_fits s (Submit x) ≡ true → KeptFits s who J (submit s who J at x)
submit_kept s who J at x h =
    let deadline = deadline_of s.limit x.stamp in
    let last = and_parts (is_participant s x.to && is_within_ceiling s x.cents) (is_moment deadline) h in
    let first = and_parts (is_participant s x.to) (is_within_ceiling s x.cents) last.0 in
    chosen s who J (x.to == who) _ _ (λ _. tt) (λ another.
    chosen s who J (is_submission_repeat x J) _ _ (λ _. tt) (λ _.
    chosen s who J (is_taken x.id J) _ _ (λ _. tt) (λ new.
    chosen s who J (is_ahead s.ahead x.stamp at) _ _ (λ _. tt) (λ _.
    chosen s who J (is_due deadline at) _ _ (λ _. tt) (λ _.
    chosen s who J (nat_le s.places (live_submissions who J)) _ _ (λ _. tt) (λ room.
    chosen s who J (nat_lt (available J) x.cents) _ _ (λ _. tt) (λ cover. (
      record {
        beneficiary = first.0;
        another = eqb-false x.to who another;
        deadline = last.1;
        new = new;
        place = leb-false s.places (live_submissions who J) room;
        amount = first.1;
        cover = ltb-false (available J) x.cents cover;
      },
      tt,
    ))))))))

standing_kept : (s : HubSettings) (who : ℕ) (J : List Event) (from : ℕ) (id : List ℕ) (pending : Result Handled Fault) (found : Option Outcome)
    → KeptFits s who J pending
    → ((from ≡ who) × (is_taken id J ≡ true)) ⊎ (is_forwarded from id J ≡ true)
    → (known : Option Outcome) → booked from id J ≡ known → KeptFits s who J (state_reply from id pending known found)
standing_kept s who J from id pending found none party (Some outcome) same = tt
standing_kept s who J from id pending None none party None same = none
standing_kept s who J from id pending (Some outcome) none party None same = (record { party = party; new = same }, tt)

answer_kept : (s : HubSettings) (who : ℕ) (J : List Event) (from : ℕ) (id : List ℕ) (pending : Result Handled Fault) (found : Option Outcome)
    → KeptFits s who J pending → KeptFits s who J (answer_forwarded J from id pending found)
answer_kept s who J from id pending found none =
    chosen s who J (is_forwarded from id J) _ _ (λ forwarded. standing_kept s who J from id pending found none (inr forwarded) (booked from id J) refl) (λ _. tt)

investigate_kept : (s : HubSettings) (who : ℕ) (J : List Event) (id : List ℕ) (found : Option Outcome) → KeptFits s who J (investigate who J id found)
investigate_kept s who J id found =
    chosen s who J (is_taken id J) _ _ (λ taken. standing_kept s who J who id (still_pending who id) found tt (inl (refl, taken)) (booked who id J) refl) (λ _. tt)

handed_kept : (s : HubSettings) (who : ℕ) (J : List Event) (max : ℕ) → is_count max ≡ true → (entries : List Entry) → entries ≡ take max (unread J) → KeptFits s who J (hand_out entries)
handed_kept s who J max count [] same = tt
handed_kept s who J max count (entry ∷ entries) same =
    let parts = and_parts (nat_le 1 max) (nat_le max 100) count in
    let long : length (entry ∷ entries) ≡ min max (length (unread J)) = ap length same ∙ length-take max (unread J) in
    let one : length (entry ∷ entries) ≡ length entries + 1 = omega arith in
    let most : max ≤ 100 = leb-true max 100 parts.1 in
    let counts : is_count (length (entry ∷ entries)) ≡ true = let few : length entries + 1 ≤ 100 = omega (arith, long, one, most) in grind (arith, nat_tests) in
    (record { number = counts; there = omega (arith, long) }, tt)

-- what a command of a participant keeps fits the history before it
pub handled_kept : (s : HubSettings) (who : ℕ) (J : List Event) (command : Command) (at : ℕ) (found : Option Outcome) → command_fits s command ≡ true → KeptFits s who J (handle s who J command at found)
handled_kept s who J (Fund funding) at found fits = fund_kept s who J funding fits
handled_kept s who J (Defund funding) at found fits = defund_kept s who J funding fits
handled_kept s who J (Submit submission) at found fits = submit_kept s who J at submission fits
handled_kept s who J (Confirm from id) at found fits = answer_kept s who J from id (Err Expired) found tt
handled_kept s who J (Reject from id reason) at found fits = answer_kept s who J from id (still_pending from id) found tt
handled_kept s who J (Investigate id) at found fits = investigate_kept s who J id found
handled_kept s who J (Fetch max) at found fits = handed_kept s who J max fits (take max (unread J)) refl
handled_kept s who J (Query query) at found fits = tt

-- what a command of a participant leaves is a sound history
pub history_after_sound : (s : HubSettings) (who : ℕ) (J : List Event) (command : Command) (at : ℕ) (found : Option Outcome) → IsSound s who J → command_fits s command ≡ true → IsSound s who (history_after s who J command at found)
history_after_sound s who J command at found sound fits = sound_with s who J (kept_events (handle s who J command at found)) sound (handled_kept s who J command at found fits)

-- what answers a command as it was matched answers it
pub handled_as : (s : HubSettings) (who : ℕ) (J : List Event) (at : ℕ) (found : Option Outcome) (command matched : Command) (r : Result Handled Fault)
    → command ≡ matched → r ≡ handle s who J matched at found → r ≡ handle s who J command at found
handled_as s who J at found command matched r same is = is ∙ ap (λ (c : Command). handle s who J c at found) (sym same)
