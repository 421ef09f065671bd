-- The event that a command leaves in a history, case by case, with what the reply has tested.
use Rattle.std.proofs.Common.{◌≡◌, ℕ, Bool, true, false, eqb, ltb, leb, List, [], ◌∷◌, length, take, Option, Some, None, Result, Ok, Err, refl, inl, inr, ◌⊎◌}
use Rattle.std.proofs.lemmas.Bool.{cond-true}
use Rattle.std.specs.Prelude.{if◌then◌else◌}
use Rattle.inst_base.specs.TimeLimit.{deadline_of, is_ahead, is_due}
use Rattle.inst_base.specs.declared.fault.Fault.{Fault}
use Rattle.inst_base.specs.declared.fault.Fault.TheVariants.{SelfTransfer, UnknownTransfer, Duplicate, StampAhead, Expired, Full, Shortage}
use Rattle.inst_settings.specs.Settings.{HubSettings}
use Rattle.inst_command.specs.declared.command.Command.{Command}
use Rattle.inst_command.specs.declared.command.Command.TheVariants.{Fund, Defund, Submit, Confirm, Reject, Investigate, Fetch, Query}
use Rattle.inst_command.specs.declared.funding.Funding.{Funding}
use Rattle.inst_command.specs.declared.submission.Submission.{Submission}
use Rattle.inst_command.specs.declared.entry.Entry.{Entry}
use Rattle.inst_command.specs.declared.outcome.Outcome.{Outcome}
use Rattle.inst_command.specs.declared.reply.Reply.{Reply}
use Rattle.inst_command.specs.declared.reply.Reply.TheVariants.{Done, Taken as TakenReply}
use Rattle.inst_journal.specs.declared.event.Event.{Event}
use Rattle.inst_journal.specs.declared.handle.Handled.{Handled}
use Rattle.inst_journal.specs.declared.event.Event.TheVariants.{Funded, Defunded, Taken, Booked, Fetched}
use Rattle.inst_journal.specs.Booked.{is_taken, is_forwarded, booked}
use Rattle.inst_journal.specs.Money.{available}
use Rattle.inst_journal.specs.Opened.{live_submissions}
use Rattle.inst_journal.specs.Keys.{is_fund_repeat, is_defund_repeat, is_submission_repeat, has_reference, fundings}
use Rattle.inst_journal.specs.Reply.{reply_without_event, reply_with_event, funding, kept_events, handle, state_reply, still_pending, answer_forwarded, hand_out, unread}
use Rattle.inst_model.specs.Found.{found}

-- why a funding or defunding is kept
pub record FundKept (s : HubSettings) (J : List Event) (reference : List ℕ) : Type 0 where
  pub new : has_reference reference J ≡ false
  pub place : leb s.fundings (fundings J) ≡ false

-- why a submission is kept
pub record TakenKept (s : HubSettings) (who : ℕ) (J : List Event) (id : List ℕ) (to cents : ℕ) : Type 0 where
  pub another : eqb to who ≡ false
  pub new : is_taken id J ≡ false
  pub place : leb s.places (live_submissions who J) ≡ false
  pub cover : ltb (available J) cents ≡ false

-- why an outcome is booked
pub record BookedKept (who : ℕ) (J : List Event) (command : Command) (o : Option Outcome) (from : ℕ) (id : List ℕ) (outcome : Outcome) : Type 0 where
  pub found_here : o ≡ Some outcome
  pub new : booked from id J ≡ None
  pub party : ((from ≡ who) × (is_taken id J ≡ true)) ⊎ (is_forwarded from id J ≡ true)
  pub named : (after : ℕ → List ℕ → Option Outcome) → found after who J command ≡ after from id

pub record KeptCases (s : HubSettings) (who : ℕ) (J : List Event) (command : Command) (o : Option Outcome) (P : List Event → Type 0) : Type 0 where
  pub nothing : P []
  pub funds : (funding : Funding) → command ≡ Fund funding → FundKept s J funding.reference → P (Funded funding ∷ [])
  pub defunds : (funding : Funding) → command ≡ Defund funding → FundKept s J funding.reference → ltb (available J) funding.cents ≡ false → P (Defunded funding ∷ [])
  pub takes : (x : Submission) → command ≡ Submit x → TakenKept s who J x.id x.to x.cents → P (Taken x.id x.to x.cents x.stamp ∷ [])
  pub books : (from : ℕ) (id : List ℕ) (outcome : Outcome) → BookedKept who J command o from id outcome → P (Booked from id outcome ∷ [])
  pub hands_out : (max : ℕ) (entry : Entry) (entries : List Entry) → command ≡ Fetch max → take max (unread J) ≡ entry ∷ entries → P (Fetched (length (entry ∷ entries)) ∷ [])

standing_cases : (from : ℕ) (id : List ℕ) (pending : Result Handled Fault) (before o : Option Outcome) (P : List Event → Type 0)
    → P [] → P (kept_events pending) → ((outcome : Outcome) → o ≡ Some outcome → before ≡ None → P (Booked from id outcome ∷ []))
    → P (kept_events (state_reply from id pending before o))
standing_cases from id pending (Some before) o P nothing none books = nothing
standing_cases from id pending None (Some outcome) P nothing none books = books outcome refl refl
standing_cases from id pending None None P nothing none books = none

hand_out_cases : (entries : List Entry) (P : List Event → Type 0) → P [] → ((entry : Entry) (rest : List Entry) → entries ≡ entry ∷ rest → P (Fetched (length (entry ∷ rest)) ∷ [])) → P (kept_events (hand_out entries))
hand_out_cases [] P nothing hands = nothing
hand_out_cases (entry ∷ rest) P nothing hands = hands entry rest refl

funding_shape : (a b c : Bool) (reference : List ℕ) (new : Result Handled Fault) (P : List Event → Type 0) → P []
    → (b ≡ false → c ≡ false → P (kept_events new))
    → P (kept_events (funding reference new (if a then Ok false else (if b then Err Duplicate else (if c then Err Full else Ok true)))))
funding_shape true b c reference new P nothing keeps = nothing
funding_shape false true c reference new P nothing keeps = nothing
funding_shape false false true reference new P nothing keeps = nothing
funding_shape false false false reference new P nothing keeps = keeps refl refl

covered_shape : (d : Bool) (reply : Reply) (event : Event) (P : List Event → Type 0) → P [] → (d ≡ false → P (event ∷ []))
    → P (kept_events (if d then Err Shortage else reply_with_event event reply))
covered_shape true reply event P nothing keeps = nothing
covered_shape false reply event P nothing keeps = keeps refl

submit_shape : (a b c d e f g : Bool) (reply : Reply) (event : Event) (P : List Event → Type 0) → P [] → (a ≡ false → c ≡ false → f ≡ false → g ≡ false → P (event ∷ [])) →
    P (kept_events (if a then Err SelfTransfer
    else (if b then reply_without_event reply
    else (if c then Err Duplicate
    else (if d then Err StampAhead
    else (if e then Err Expired
    else (if f then Err Full
    else (if g then Err Shortage
    else reply_with_event event reply))))))))
submit_shape true b c d e f g reply event P nothing keeps = nothing
submit_shape false true c d e f g reply event P nothing keeps = nothing
submit_shape false false true d e f g reply event P nothing keeps = nothing
submit_shape false false false true e f g reply event P nothing keeps = nothing
submit_shape false false false false true f g reply event P nothing keeps = nothing
submit_shape false false false false false true g reply event P nothing keeps = nothing
submit_shape false false false false false false true reply event P nothing keeps = nothing
submit_shape false false false false false false false reply event P nothing keeps = keeps refl refl refl refl

decide_shape : (a : Bool) (h : Result Handled Fault) (P : List Event → Type 0) → P [] → (a ≡ true → P (kept_events h))
    → P (kept_events (if a then h else Err UnknownTransfer))
decide_shape true h P nothing keeps = keeps refl
decide_shape false h P nothing keeps = nothing

answer_shape : (s : HubSettings) (who : ℕ) (J : List Event) (command : Command) (from : ℕ) (id : List ℕ) (pending : Result Handled Fault) (o : Option Outcome) (P : List Event → Type 0)
    → KeptCases s who J command o P → P (kept_events pending)
    → ((after : ℕ → List ℕ → Option Outcome) → is_forwarded from id J ≡ true → found after who J command ≡ after from id)
    → P (kept_events (answer_forwarded J from id pending o))
answer_shape s who J command from id pending o P c none named =
    decide_shape (is_forwarded from id J) (state_reply from id pending (booked from id J) o) P c.nothing
    (λ there. standing_cases from id pending (booked from id J) o P c.nothing none
    (λ outcome some new. c.books from id outcome (record { found_here = some; new = new; party = inr there; named = λ after. named after there })))

pub kept_cases : (s : HubSettings) (who : ℕ) (J : List Event) (command : Command) (at : ℕ) (o : Option Outcome) (P : List Event → Type 0)
    → KeptCases s who J command o P → P (kept_events (handle s who J command at o))
kept_cases s who J (Fund funding) at o P c =
    funding_shape (is_fund_repeat funding J) (has_reference funding.reference J) (leb s.fundings (fundings J)) funding.reference _ P c.nothing
    (λ new place. c.funds funding refl (record { new = new; place = place }))
kept_cases s who J (Defund funding) at o P c =
    funding_shape (is_defund_repeat funding J) (has_reference funding.reference J) (leb s.fundings (fundings J)) funding.reference _ P c.nothing
    (λ new place. covered_shape (ltb (available J) funding.cents) (Done funding.reference) (Defunded funding) P c.nothing
    (λ cover. c.defunds funding refl (record { new = new; place = place }) cover))
kept_cases s who J (Submit x) at o P c =
    let deadline = deadline_of s.limit x.stamp in
    submit_shape (eqb x.to who) (is_submission_repeat x J) (is_taken x.id J) (is_ahead s.ahead x.stamp at) (is_due deadline at)
    (leb s.places (live_submissions who J)) (ltb (available J) x.cents) (TakenReply x.id deadline) (Taken x.id x.to x.cents x.stamp) P c.nothing
    (λ another new place cover. c.takes x refl (record { another = another; new = new; place = place; cover = cover }))
kept_cases s who J (Confirm from id) at o P c =
    answer_shape s who J (Confirm from id) from id (Err Expired) o P c c.nothing (λ after there. cond-true (is_forwarded from id J) (after from id) None there)
kept_cases s who J (Reject from id reason) at o P c =
    answer_shape s who J (Reject from id reason) from id (still_pending from id) o P c c.nothing (λ after there. cond-true (is_forwarded from id J) (after from id) None there)
kept_cases s who J (Investigate id) at o P c =
    decide_shape (is_taken id J) (state_reply who id (still_pending who id) (booked who id J) o) P c.nothing
    (λ there. standing_cases who id (still_pending who id) (booked who id J) o P c.nothing c.nothing
    (λ outcome some none. c.books who id outcome (record { found_here = some; new = none; party = inl (refl, there); named = λ after. cond-true (is_taken id J) (after who id) None there })))
kept_cases s who J (Fetch max) at o P c =
    hand_out_cases (take max (unread J)) P c.nothing (λ entry entries is. c.hands_out max entry entries refl is)
kept_cases s who J (Query query) at o P c = c.nothing
