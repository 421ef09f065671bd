-- What a reply that names a transfer tells of the history: a submission that is told taken is kept, and a state is
-- told of a transfer that the participant took or that was forwarded to it.
use Rattle.std.proofs.Common.{◌≡◌, ℕ, Bool, true, false, ◌==◌, cond, List, [], ◌∷◌, ◌++◌, append-nil, inl, inr, ◌⊎◌, refl, sym, ap, ◌∙◌, Option, Some, None}
use Rattle.std.specs.Prelude.{Contains, take, nat_le, nat_lt, Result, Ok, Err}
use Rattle.std.proofs.lemmas.List.Elements.{Contains-append_left, Contains-push}
use Rattle.inst_base.specs.TimeLimit.{deadline_of, is_due, is_ahead}
use Rattle.inst_base.specs.declared.fault.Fault.{Fault}
use Rattle.inst_base.specs.declared.fault.Fault.TheVariants.{UnknownTransfer, Expired}
use Rattle.inst_settings.specs.Settings.{HubSettings}
use Rattle.inst_command.specs.declared.command.Command.{Command}
use Rattle.inst_command.specs.declared.command.Command.TheVariants.{Fund, Defund, Submit, Confirm, Reject, Investigate, Fetch, Query}
use Rattle.inst_command.specs.declared.entry.Entry.{Entry}
use Rattle.inst_command.specs.declared.funding.Funding.{Funding}
use Rattle.inst_command.specs.declared.outcome.Outcome.{Outcome}
use Rattle.inst_command.specs.declared.outcome.State.{State as StateValue}
use Rattle.inst_command.specs.declared.outcome.State.TheVariants.{Decided}
use Rattle.inst_command.specs.declared.reply.Reply.TheVariants.{Done}
use Rattle.inst_command.specs.declared.submission.Submission.{Submission}
use Rattle.inst_journal.specs.declared.event.Event.{Event}
use Rattle.inst_journal.specs.declared.event.Event.TheVariants.{Funded}
use Rattle.inst_journal.specs.declared.handle.Handled.{Handled}
use Rattle.inst_journal.specs.Booked.{is_taken, is_forwarded, booked}
use Rattle.inst_journal.specs.Keys.{is_fund_repeat, is_defund_repeat, is_submission_repeat}
use Rattle.inst_journal.specs.Money.{available}
use Rattle.inst_journal.specs.Opened.{live_submissions}
use Rattle.inst_journal.specs.Repeats.{taken_of}
use Rattle.inst_journal.specs.Reply.{reply_with_event, funding, is_new_funding, submit, state_reply, still_pending, unread, hand_out, handle, reply_result, kept_events}
use Rattle.inst_journal.proofs.RepeatIsAnsweredAgain.{the_very_same}
use Rattle.inst_model.specs.Trace.{as_reply}
use Rattle.inst_model.specs.TransferTold.{transfer_told, tells_taken, tells_state, tells_nothing}
use Rattle.inst_model.proofs.QueriesTellOfNoTransfer.{query_tells_nothing}
use Rattle.inst_slot.proofs.LiveTransfersAfterEvent.{newly_booked}

either : (P : Result Handled Fault → Type 0) (b : Bool) (x y : Result Handled Fault) → (b ≡ true → P x) → P y → P (cond b x y)
either P true x y first second = first refl
either P false x y first second = second

-- nothing of a transfer is replied
abbrev NamesNone : Result Handled Fault → Type 0
NamesNone r = transfer_told (as_reply (reply_result r)) ≡ tells_nothing

funding_none : (reference : List ℕ) (new : Result Handled Fault) (r : Result Bool Fault) → NamesNone new → NamesNone (funding reference new r)
funding_none reference new (Err fault) none = refl
funding_none reference new (Ok true) none = none
funding_none reference new (Ok false) none = refl

handed_none : (entries : List Entry) → NamesNone (hand_out entries)
handed_none [] = refl
handed_none (entry ∷ entries) = refl

fund_none : (s : HubSettings) (who : ℕ) (J : List Event) (funding : Funding) (at : ℕ) (found : Option Outcome) → NamesNone (handle s who J (Fund funding) at found)
fund_none s who J funding at found = funding_none funding.reference (reply_with_event (Funded funding) (Done funding.reference)) (is_new_funding s J funding.reference (is_fund_repeat funding J)) refl

defund_none : (s : HubSettings) (who : ℕ) (J : List Event) (funding : Funding) (at : ℕ) (found : Option Outcome) → NamesNone (handle s who J (Defund funding) at found)
defund_none s who J funding at found =
    funding_none funding.reference _ (is_new_funding s J funding.reference (is_defund_repeat funding J)) (either NamesNone (nat_lt (available J) funding.cents) _ _ (λ short. refl) refl)

not_taken : (r : Result Handled Fault) (id : List ℕ) (deadline : ℕ) → NamesNone r → tells_taken id deadline ≡ transfer_told (as_reply (reply_result r)) → ⊥
not_taken r id deadline none e = let never : tells_taken id deadline ≡ tells_nothing = e ∙ none in cc

not_state : (r : Result Handled Fault) (from : ℕ) (id : List ℕ) (state : StateValue) → NamesNone r → tells_state from id state ≡ transfer_told (as_reply (reply_result r)) → ⊥
not_state r from id state none e = let never : tells_state from id state ≡ tells_nothing = e ∙ none in cc

-- a submission is told taken where it is kept, and no state is told of it
record IsOfSubmission (J : List Event) (x : Submission) (r : Result Handled Fault) : Type 0 where
  pub taken : (id : List ℕ) (deadline : ℕ) → tells_taken id deadline ≡ transfer_told (as_reply (reply_result r)) → (x.id ≡ id) × Contains (J ++ kept_events r) (taken_of x)
  pub no_state : (from : ℕ) (id : List ℕ) (state : StateValue) → tells_state from id state ≡ transfer_told (as_reply (reply_result r)) → ⊥

refused_submission : (J : List Event) (x : Submission) (fault : Fault) → IsOfSubmission J x (Err fault)
refused_submission J x fault = record {
  taken = λ id deadline e. let never : ⊥ = cc in absurd never;
  no_state = λ from id state e. cc;
}

of_submission : (s : HubSettings) (who : ℕ) (J : List Event) (at : ℕ) (x : Submission) → IsOfSubmission J x (submit s who J at x)
of_submission s who J at x =
    let P : Result Handled Fault → Type 0 = IsOfSubmission J x in
    either P (x.to == who) _ _ (λ _. refused_submission J x _)
    (either P (is_submission_repeat x J) _ _
    (λ again. record {
      taken = λ id deadline e. let same : x.id ≡ id = cc in (same, Contains-append_left J [] (taken_of x) (((the_very_same J).submission x).0 again));
      no_state = λ from id state e. cc;
    })
    (either P (is_taken x.id J) _ _ (λ _. refused_submission J x _)
    (either P (is_ahead s.ahead x.stamp at) _ _ (λ _. refused_submission J x _)
    (either P (is_due (deadline_of s.limit x.stamp) at) _ _ (λ _. refused_submission J x _)
    (either P (nat_le s.places (live_submissions who J)) _ _ (λ _. refused_submission J x _)
    (either P (nat_lt (available J) x.cents) _ _ (λ _. refused_submission J x _)
    (record {
      taken = λ id deadline e. let same : x.id ≡ id = cc in (same, Contains-push J (taken_of x));
      no_state = λ from id state e. cc;
    })))))))

-- what is told of a transfer's state
record StandsSo (J : List Event) (other : ℕ) (name : List ℕ) (r : Result Handled Fault) (from : ℕ) (id : List ℕ) (state : StateValue) : Type 0 where
  pub from_is : other ≡ from
  pub id_is : name ≡ id
  pub outcome : (o : Outcome) → state ≡ Decided o → booked from id (J ++ kept_events r) ≡ Some o

-- the state of this transfer is told, and nothing taken
record IsOfState (J : List Event) (other : ℕ) (name : List ℕ) (r : Result Handled Fault) : Type 0 where
  pub state : (from : ℕ) (id : List ℕ) (state : StateValue) → tells_state from id state ≡ transfer_told (as_reply (reply_result r)) → StandsSo J other name r from id state
  pub not_taken : (id : List ℕ) (deadline : ℕ) → tells_taken id deadline ≡ transfer_told (as_reply (reply_result r)) → ⊥

refused_state : (J : List Event) (other : ℕ) (name : List ℕ) (fault : Fault) → IsOfState J other name (Err fault)
refused_state J other name fault = record {
  state = λ from id state e. let never : ⊥ = cc in absurd never;
  not_taken = λ id deadline e. cc;
}

pending_state : (J : List Event) (other : ℕ) (name : List ℕ) → IsOfState J other name (still_pending other name)
pending_state J other name = record {
  state = λ from id state e.
      let from_is : other ≡ from = cc in
      let id_is : name ≡ id = cc in
      record { from_is = from_is; id_is = id_is; outcome = λ o decided. let never : ⊥ = cc in absurd never };
  not_taken = λ id deadline e. cc;
}

same_booked : (K : List Event) (other from : ℕ) (name id : List ℕ) → other ≡ from → name ≡ id → booked from id K ≡ booked other name K
same_booked K other from name id from_is id_is = ap (λ (f : ℕ). booked f id K) (sym from_is) ∙ ap (λ (i : List ℕ). booked other i K) (sym id_is)

standing_state : (J : List Event) (other : ℕ) (name : List ℕ) (waiting : Result Handled Fault) (known found : Option Outcome) → booked other name J ≡ known → IsOfState J other name waiting
    → IsOfState J other name (state_reply other name waiting known found)
standing_state J other name waiting (Some z) found is so = record {
  state = λ from id state e.
      let from_is : other ≡ from = cc in
      let id_is : name ≡ id = cc in
      record {
        from_is = from_is;
        id_is = id_is;
        outcome = λ o decided.
            let same : z ≡ o = cc in
            same_booked (J ++ []) other from name id from_is id_is ∙ ap (booked other name) (append-nil J) ∙ is ∙ ap (λ (y : Outcome). Some y) same;
      };
  not_taken = λ id deadline e. cc;
}
standing_state J other name waiting None (Some z) is so = record {
  state = λ from id state e.
      let from_is : other ≡ from = cc in
      let id_is : name ≡ id = cc in
      record {
        from_is = from_is;
        id_is = id_is;
        outcome = λ o decided.
            let same : z ≡ o = cc in
            same_booked (J ++ kept_events (state_reply other name waiting None (Some z))) other from name id from_is id_is ∙ newly_booked other name J z is ∙ ap (λ (y : Outcome). Some y) same;
      };
  not_taken = λ id deadline e. cc;
}
standing_state J other name waiting None None is so = so

-- a state is told only where the transfer is known
guarded : (J : List Event) (other : ℕ) (name : List ℕ) (b : Bool) (r : Result Handled Fault) (from : ℕ) (id : List ℕ) (state : StateValue) → IsOfState J other name r → tells_state from id state ≡ transfer_told (as_reply (reply_result (cond b r (Err UnknownTransfer))))
    → (b ≡ true) × StandsSo J other name (cond b r (Err UnknownTransfer)) from id state
guarded J other name true r from id state so e = (refl, so.state from id state e)
guarded J other name false r from id state so e = let never : ⊥ = cc in absurd never

guarded_not_taken : (J : List Event) (other : ℕ) (name : List ℕ) (b : Bool) (r : Result Handled Fault) (id : List ℕ) (deadline : ℕ) → IsOfState J other name r → tells_taken id deadline ≡ transfer_told (as_reply (reply_result (cond b r (Err UnknownTransfer)))) → ⊥
guarded_not_taken J other name true r id deadline so e = so.not_taken id deadline e
guarded_not_taken J other name false r id deadline so e = cc

-- the history where a submission is told taken
pub record TellsTaken (J : List Event) (command : Command) (r : Result Handled Fault) (id : List ℕ) : Type 0 where
  pub x : Submission
  pub command_is : command ≡ Submit x
  pub id_is : x.id ≡ id
  pub kept : Contains (J ++ kept_events r) (taken_of x)

-- the history where a state is told
pub record TellsState (who : ℕ) (J : List Event) (r : Result Handled Fault) (from : ℕ) (id : List ℕ) (state : StateValue) : Type 0 where
  pub party : ((from ≡ who) × (is_taken id J ≡ true)) ⊎ (is_forwarded from id J ≡ true)
  pub outcome : (o : Outcome) → state ≡ Decided o → booked from id (J ++ kept_events r) ≡ Some o

confirmed_state : (J : List Event) (other : ℕ) (name : List ℕ) (found : Option Outcome) → IsOfState J other name (state_reply other name (Err Expired) (booked other name J) found)
confirmed_state J other name found = standing_state J other name (Err Expired) (booked other name J) found refl (refused_state J other name Expired)

other_state : (J : List Event) (other : ℕ) (name : List ℕ) (found : Option Outcome) → IsOfState J other name (state_reply other name (still_pending other name) (booked other name J) found)
other_state J other name found = standing_state J other name (still_pending other name) (booked other name J) found refl (pending_state J other name)

forwarded_state : (who : ℕ) (J : List Event) (other : ℕ) (name : List ℕ) (r : Result Handled Fault) (from : ℕ) (id : List ℕ) (state : StateValue) → is_forwarded other name J ≡ true → StandsSo J other name r from id state → TellsState who J r from id state
forwarded_state who J other name r from id state there so = record {
  party = inr (ap (λ (f : ℕ). is_forwarded f id J) (sym so.from_is) ∙ ap (λ (i : List ℕ). is_forwarded other i J) (sym so.id_is) ∙ there);
  outcome = so.outcome;
}

module _ (s : HubSettings) (who : ℕ) (J : List Event) where
  pub taken_told : (command : Command) (at : ℕ) (found : Option Outcome) (id : List ℕ) (deadline : ℕ) → tells_taken id deadline ≡ transfer_told (as_reply (reply_result (handle s who J command at found))) → TellsTaken J command (handle s who J command at found) id
  taken_told (Submit x) at found id deadline e =
      let t = (of_submission s who J at x).taken id deadline e in
      record { x = x; command_is = refl; id_is = t.0; kept = t.1 }
  taken_told (Confirm other name) at found id deadline e = absurd (guarded_not_taken J other name (is_forwarded other name J) _ id deadline (confirmed_state J other name found) e)
  taken_told (Reject other name reason) at found id deadline e = absurd (guarded_not_taken J other name (is_forwarded other name J) _ id deadline (other_state J other name found) e)
  taken_told (Investigate name) at found id deadline e = absurd (guarded_not_taken J who name (is_taken name J) _ id deadline (other_state J who name found) e)
  taken_told (Fund funding) at found id deadline e = absurd (not_taken (handle s who J (Fund funding) at found) id deadline (fund_none s who J funding at found) e)
  taken_told (Defund funding) at found id deadline e = absurd (not_taken (handle s who J (Defund funding) at found) id deadline (defund_none s who J funding at found) e)
  taken_told (Fetch max) at found id deadline e = absurd (not_taken (hand_out (take max (unread J))) id deadline (handed_none (take max (unread J))) e)
  taken_told (Query query) at found id deadline e = absurd (not_taken (handle s who J (Query query) at found) id deadline (query_tells_nothing J query) e)

  pub state_told : (command : Command) (at : ℕ) (found : Option Outcome) (from : ℕ) (id : List ℕ) (state : StateValue) → tells_state from id state ≡ transfer_told (as_reply (reply_result (handle s who J command at found)))
      → TellsState who J (handle s who J command at found) from id state
  state_told (Confirm other name) at found from id state e =
      let g = guarded J other name (is_forwarded other name J) _ from id state (confirmed_state J other name found) e in
      forwarded_state who J other name _ from id state g.0 g.1
  state_told (Reject other name reason) at found from id state e =
      let g = guarded J other name (is_forwarded other name J) _ from id state (other_state J other name found) e in
      forwarded_state who J other name _ from id state g.0 g.1
  state_told (Investigate name) at found from id state e =
      let g = guarded J who name (is_taken name J) _ from id state (other_state J who name found) e in
      record { party = inl (sym g.1.from_is, ap (λ (i : List ℕ). is_taken i J) (sym g.1.id_is) ∙ g.0); outcome = g.1.outcome }
  state_told (Submit x) at found from id state e = absurd ((of_submission s who J at x).no_state from id state e)
  state_told (Fund funding) at found from id state e = absurd (not_state (handle s who J (Fund funding) at found) from id state (fund_none s who J funding at found) e)
  state_told (Defund funding) at found from id state e = absurd (not_state (handle s who J (Defund funding) at found) from id state (defund_none s who J funding at found) e)
  state_told (Fetch max) at found from id state e = absurd (not_state (hand_out (take max (unread J))) from id state (handed_none (take max (unread J))) e)
  state_told (Query query) at found from id state e = absurd (not_state (handle s who J (Query query) at found) from id state (query_tells_nothing J query) e)
