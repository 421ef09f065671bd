-- How far a transfer has come, made from the steps on it: asks and expiries.
use Rattle.std.proofs.Common.{◌≡◌, ℕ, Bool, true, false, ◌||◌, ◌&&◌, cond, eqb, List, [], ◌∷◌, ◌++◌, Option, Some, None, is_none, refl, sym, ap, ◌∙◌}
use Rattle.std.proofs.lemmas.Bool.{and_parts, eqb-true}
use Rattle.inst_settings.specs.Settings.{HubSettings}
use Rattle.inst_command.specs.declared.command.Command.{Command}
use Rattle.inst_command.specs.declared.command.Command.TheVariants.{Fund, Defund, Submit, Confirm, Reject, Investigate, Fetch, Query}
use Rattle.inst_command.specs.declared.outcome.Outcome.{Outcome}
use Rattle.inst_command.specs.declared.outcome.Outcome.TheVariants.{Accepted, Rejected}
use Rattle.inst_command.specs.declared.step.Step.{Step}
use Rattle.inst_command.specs.declared.step.Step.TheVariants.{Deliver}
use Rattle.inst_journal.specs.declared.event.Event.{Event}
use Rattle.inst_journal.specs.declared.event.Event.TheVariants.{Funded, Defunded, Taken, Booked, Fetched}
use Rattle.inst_journal.specs.Booked.{or_else, is_forwarded, forwards, same_transfer}
use Rattle.inst_journal.proofs.OneMoreElement.{list_any_push, or-false, or_else-none}
use Rattle.inst_model.specs.Transfer.{Transfer, deadline}
use Rattle.inst_base.specs.TimeLimit.{is_in_time_to_accept}
use Rattle.inst_command.specs.Deciding.{timed_out_or, confirmed, rejected}
use Rattle.inst_model.specs.Wants.{ask_wants}
use Rattle.inst_model.specs.Hub.{decided}
use Rattle.inst_model.specs.Locality.{Touch, ask_on}
use Rattle.inst_model.specs.Locality.Touch.{Delivers, Confirms, Rejects, Investigates, Expires}
use Rattle.inst_model.proofs.Histories.{next, grows}

-- how far a transfer has come
pub record Progress : Type 0 where
  pub forwarded : Bool
  pub decided : Option Outcome

abbrev pub wanting : Progress → Option Outcome → Progress
wanting g o = record { forwarded = g.forwarded; decided = or_else g.decided o }

abbrev pub after_touch : HubSettings → Transfer → Progress → Touch → Progress
after_touch s x g Delivers = record { forwarded = g.forwarded || is_none g.decided; decided = g.decided }
after_touch s x g (Confirms at) = wanting g (cond g.forwarded (confirmed s.margin (deadline s x) at) None)
after_touch s x g (Rejects reason at) = wanting g (cond g.forwarded (rejected reason (deadline s x) at) None)
after_touch s x g (Investigates at) = wanting g (timed_out_or (deadline s x) at None)
after_touch s x g (Expires at) = wanting g (timed_out_or (deadline s x) at None)

abbrev pub progress : HubSettings → Transfer → Progress → List Touch → Progress
progress s x g [] = g
progress s x g (t ∷ ts) = progress s x (after_touch s x g t) ts

pub progress-append : (s : HubSettings) (x : Transfer) (g : Progress) (ts us : List Touch) → progress s x g (ts ++ us) ≡ progress s x (progress s x g ts) us
progress-append s x g [] us = refl
progress-append s x g (t ∷ ts) us = progress-append s x (after_touch s x g t) ts us

-- a step that delivers nothing forwards nothing
pub unforwarded_next : (s : HubSettings) (J : ℕ → List Event) (before : ℕ → List ℕ → Option Outcome) (step : Step) (q p : ℕ) (id : List ℕ) → ((from index : ℕ) → step ≡ Deliver from index q → ⊥) → is_forwarded p id (next s J before step q) ≡ is_forwarded p id (J q)
unforwarded_next s J before step q p id none =
    let other : (event : Event) → forwards p id event ≡ false → is_forwarded p id (J q ++ event ∷ []) ≡ is_forwarded p id (J q) = λ event not_this.
    list_any_push (forwards p id) (J q) event ∙ ap (λ b. is_forwarded p id (J q) || b) not_this ∙ or-false (is_forwarded p id (J q)) in
    grows s J before step q (λ K. is_forwarded p id K ≡ is_forwarded p id (J q)) (record {
      nothing = refl;
      funds = λ ask funding is command why. other (Funded funding) refl;
      defunds = λ ask funding is command why cover. other (Defunded funding) refl;
      takes = λ ask other_id to cents stamp is command why. other (Taken other_id to cents stamp) refl;
      forwards = λ from index x is why. absurd (none from index is);
      books = λ from other_id o why. other (Booked from other_id o) refl;
      hands_out = λ ask max entry entries is command some. other (Fetched _) refl;
    })

-- what g says of the transfer: whether it is forwarded, and its outcome
pub record Says (s : HubSettings) (forwarded : Bool) (decided : Option Outcome) (g : Progress) : Type 0 where
  pub forwarded_is : forwarded ≡ g.forwarded
  pub decided_is : decided ≡ g.decided

-- a confirmation or rejection
deciding : (s : HubSettings) (x : Transfer) (early : Option Outcome) (at : ℕ) (touch : Touch) (named here there : Bool) (before : Option Outcome)
    → ((g : Progress) → after_touch s x g touch ≡ wanting g (cond g.forwarded (timed_out_or (deadline s x) at early) None)) → (named ≡ true → here ≡ there)
    → Says s there (or_else before (cond (named && here) (timed_out_or (deadline s x) at early) None)) (progress s x (record { forwarded = there; decided = before }) (cond named (touch ∷ []) []))
deciding s x early at touch true here there before is same =
    let end : progress s x (record { forwarded = there; decided = before }) (touch ∷ []) ≡ wanting (record { forwarded = there; decided = before }) (cond there (timed_out_or (deadline s x) at early) None) = is (record { forwarded = there; decided = before }) in
    record {
      forwarded_is = sym (ap (λ (g : Progress). g.forwarded) end);
      decided_is = ap (λ b. or_else before (cond b (timed_out_or (deadline s x) at early) None)) (same refl) ∙ sym (ap (λ (g : Progress). g.decided) end);
    }
deciding s x early at touch false here there before is same = record { forwarded_is = refl; decided_is = or_else-none before }

-- an investigation or expiry
pub timing : (s : HubSettings) (x : Transfer) (at : ℕ) (touch : Touch) (named there : Bool) (before : Option Outcome)
    → ((g : Progress) → after_touch s x g touch ≡ wanting g (timed_out_or (deadline s x) at None))
    → Says s there (or_else before (cond named (timed_out_or (deadline s x) at None) None)) (progress s x (record { forwarded = there; decided = before }) (cond named (touch ∷ []) []))
timing s x at touch true there before is =
    let end : progress s x (record { forwarded = there; decided = before }) (touch ∷ []) ≡ wanting (record { forwarded = there; decided = before }) (timed_out_or (deadline s x) at None) = is (record { forwarded = there; decided = before }) in
    record { forwarded_is = sym (ap (λ (g : Progress). g.forwarded) end); decided_is = sym (ap (λ (g : Progress). g.decided) end) }
timing s x at touch false there before is = record { forwarded_is = refl; decided_is = or_else-none before }

pub silent : (s : HubSettings) (x : Transfer) (there : Bool) (before : Option Outcome) → Says s there (or_else before None) (progress s x (record { forwarded = there; decided = before }) [])
silent s x there before = record { forwarded_is = refl; decided_is = or_else-none before }

pub at_ask : (s : HubSettings) (J : ℕ → List Event) (who at p : ℕ) (id : List ℕ) (x : Transfer) (before : Option Outcome) (command : Command)
    → Says s (is_forwarded p id (J x.to)) (or_else before (ask_wants s J who command at p id x)) (progress s x (record { forwarded = is_forwarded p id (J x.to); decided = before }) (ask_on who command at p id x))
at_ask s J who at p id x before (Confirm from other) =
    deciding s x (cond (is_in_time_to_accept s.margin (deadline s x) at) (Some Accepted) None) at (Confirms at) (same_transfer p id from other && eqb who x.to) (is_forwarded p id (J who)) (is_forwarded p id (J x.to)) before (λ g. refl)
    (λ e. ap (λ q. is_forwarded p id (J q)) (eqb-true who x.to (and_parts (same_transfer p id from other) (eqb who x.to) e).1))
at_ask s J who at p id x before (Reject from other reason) =
    deciding s x (Some (Rejected reason)) at (Rejects reason at) (same_transfer p id from other && eqb who x.to) (is_forwarded p id (J who)) (is_forwarded p id (J x.to)) before (λ g. refl)
    (λ e. ap (λ q. is_forwarded p id (J q)) (eqb-true who x.to (and_parts (same_transfer p id from other) (eqb who x.to) e).1))
at_ask s J who at p id x before (Investigate other) = timing s x at (Investigates at) (same_transfer p id who other) (is_forwarded p id (J x.to)) before (λ g. refl)
at_ask s J who at p id x before (Fund funding) = silent s x (is_forwarded p id (J x.to)) before
at_ask s J who at p id x before (Defund funding) = silent s x (is_forwarded p id (J x.to)) before
at_ask s J who at p id x before (Submit submission) = silent s x (is_forwarded p id (J x.to)) before
at_ask s J who at p id x before (Fetch max) = silent s x (is_forwarded p id (J x.to)) before
at_ask s J who at p id x before (Query query) = silent s x (is_forwarded p id (J x.to)) before

pub with_forwarded : (s : HubSettings) (there now : Bool) (decided : Option Outcome) (g : Progress) → now ≡ there → Says s there decided g → Says s now decided g
with_forwarded s there now decided g e says = record { forwarded_is = e ∙ says.forwarded_is; decided_is = says.decided_is }
