-- An ask, over a board that has the model's outcomes, does what the model says.
use Rattle.std.proofs.Common.{◌≡◌, ◌≢◌, ℕ, Bool, true, false, cond, leb, ltb, ◌&&◌, ◌==◌, List, [], ◌∷◌, take, Option, Some, None, is_none, Result, Ok, Err, refl, sym, ap, ◌∙◌, inl, inr, ◌⊎◌}
use Rattle.std.proofs.lemmas.Bool.{cases_Bool, true≢false, false≢true, and_parts}
use Rattle.inst_base.specs.TimeLimit.{deadline_of, is_due, is_ahead}
use Rattle.inst_base.specs.declared.fault.Fault.{Fault}
use Rattle.inst_base.specs.declared.fault.Fault.TheVariants.{Memory, SelfTransfer, UnknownTransfer, Duplicate, StampAhead, Expired, Full, Shortage}
use Rattle.inst_settings.specs.Settings.{HubSettings}
use Rattle.inst_command.specs.Deciding.{confirmed, rejected, expired}
use Rattle.inst_command.specs.declared.ask.Ask.{Ask as AskValue}
use Rattle.inst_command.specs.declared.command.Command.{Command}
use Rattle.inst_command.specs.declared.command.Command.TheVariants.{Fund, Defund, Submit, Confirm, Reject, Investigate, Fetch, Query}
use Rattle.inst_command.specs.declared.entry.Entry.{Entry}
use Rattle.inst_command.specs.declared.outcome.Outcome.{Outcome}
use Rattle.inst_command.specs.declared.step.Step.{Step}
use Rattle.inst_command.specs.declared.step.Step.TheVariants.{Ask}
use Rattle.inst_journal.specs.declared.event.Event.{Event}
use Rattle.inst_journal.specs.declared.handle.Handled.{Handled}
use Rattle.inst_journal.specs.Booked.{is_taken, booked, is_forwarded, or_else, same_transfer}
use Rattle.inst_journal.specs.Keys.{is_fund_repeat, is_defund_repeat, is_submission_repeat, has_reference, fundings}
use Rattle.inst_journal.specs.Money.{available}
use Rattle.inst_journal.specs.Opened.{live_submissions}
use Rattle.inst_journal.specs.Reply.{handle, reply_result, funding, state_reply, still_pending, hand_out, unread}
use Rattle.inst_model.specs.Opening.{Opening, IsOpening}
use Rattle.inst_model.specs.Transfer.{Transfer, transfer, deadline}
use Rattle.inst_model.specs.Found.{found}
use Rattle.inst_model.specs.Wants.{is_addressed, ask_wants, taken_wants}
use Rattle.inst_model.specs.Hub.{outcome, history}
use Rattle.inst_model.proofs.TextsTestsAndFirstThings.{same_transfer-true, or_else_kept}
use Rattle.inst_model.proofs.Outcomes.{booked_outcome}
use Rattle.inst_model.proofs.Transfers.{transfer_taken}
use Rattle.inst_slot.specs.Book.{Book}
use Rattle.inst_slot.specs.Asking.{decides}
use Rattle.inst_journal.proofs.OneMoreElement.{or_else-none}

-- no command is refused for memory by the books' rules
abbrev NotMemory : Result Handled Fault → Type 0
NotMemory (Ok handled) = Unit {0}
NotMemory (Err fault) = fault ≢ Memory

either : (b : Bool) (x y : Result Handled Fault) → NotMemory x → NotMemory y → NotMemory (cond b x y)
either true x y p q = p
either false x y p q = q

is_duplicate : Duplicate ≢ Memory
is_duplicate e = let no : ⊥ = cc in no

is_full : Full ≢ Memory
is_full e = let no : ⊥ = cc in no

is_shortage : Shortage ≢ Memory
is_shortage e = let no : ⊥ = cc in no

is_unknown : UnknownTransfer ≢ Memory
is_unknown e = let no : ⊥ = cc in no

is_expired : Expired ≢ Memory
is_expired e = let no : ⊥ = cc in no

is_self : SelfTransfer ≢ Memory
is_self e = let no : ⊥ = cc in no

is_stamp : StampAhead ≢ Memory
is_stamp e = let no : ⊥ = cc in no

funded_not : (s : HubSettings) (reference : List ℕ) (new : Result Handled Fault) (again kept full : Bool) → NotMemory new
    → NotMemory (funding reference new (cond again (Ok false) (cond kept (Err Duplicate) (cond full (Err Full) (Ok true)))))
funded_not s reference new true kept full n = tt
funded_not s reference new false true full n = is_duplicate
funded_not s reference new false false true n = is_full
funded_not s reference new false false false n = n

standing_not : (from : ℕ) (id : List ℕ) (pending : Result Handled Fault) (before o : Option Outcome) → NotMemory pending → NotMemory (state_reply from id pending before o)
standing_not from id pending (Some z) o n = tt
standing_not from id pending None (Some z) n = tt
standing_not from id pending None None n = n

handed_not : (entries : List Entry) → NotMemory (hand_out entries)
handed_not [] = tt
handed_not (entry ∷ entries) = tt

handled_not : (s : HubSettings) (who : ℕ) (J : List Event) (command : Command) (at : ℕ) (o : Option Outcome) → NotMemory (handle s who J command at o)
handled_not s who J (Fund funding) at o = funded_not s funding.reference _ (is_fund_repeat funding J) (has_reference funding.reference J) (leb s.fundings (fundings J)) tt
handled_not s who J (Defund funding) at o =
    funded_not s funding.reference _ (is_defund_repeat funding J) (has_reference funding.reference J) (leb s.fundings (fundings J)) (either (ltb (available J) funding.cents) _ _ is_shortage tt)
handled_not s who J (Submit x) at o =
    either (x.to == who) _ _ is_self (either (is_submission_repeat x J) _ _ tt (either (is_taken x.id J) _ _ is_duplicate (either (is_ahead s.ahead x.stamp at) _ _ is_stamp
    (either (is_due (deadline_of s.limit x.stamp) at) _ _ is_expired (either (leb s.places (live_submissions who J)) _ _ is_full (either (ltb (available J) x.cents) _ _ is_shortage tt))))))
handled_not s who J (Confirm from id) at o = either (is_forwarded from id J) _ _ (standing_not from id (Err Expired) (booked from id J) o is_expired) is_unknown
handled_not s who J (Reject from id reason) at o = either (is_forwarded from id J) _ _ (standing_not from id (still_pending from id) (booked from id J) o tt) is_unknown
handled_not s who J (Investigate id) at o = either (is_taken id J) _ _ (standing_not who id (still_pending who id) (booked who id J) o tt) is_unknown
handled_not s who J (Fetch max) at o = handed_not (take max (unread J))
handled_not s who J (Query query) at o = tt

told_not : (r : Result Handled Fault) → NotMemory r → reply_result r ≢ Err Memory
told_not (Ok handled) n e = let no : ⊥ = cc in no
told_not (Err fault) n e = let same : fault ≡ Memory = cc in n same

pub never_memory : (s : HubSettings) (who : ℕ) (J : List Event) (command : Command) (at : ℕ) (o : Option Outcome) → reply_result (handle s who J command at o) ≢ Err Memory
never_memory s who J command at o = told_not (handle s who J command at o) (handled_not s who J command at o)

-- where the command decides nothing, it is answered the same, whatever is found
unfound_case : (party : Bool) (from : ℕ) (id : List ℕ) (pending : Result Handled Fault) (before o : Option Outcome) → (party && is_none before) ≡ false
    → cond party (state_reply from id pending before (cond party o None)) (Err UnknownTransfer) ≡ cond party (state_reply from id pending before None) (Err UnknownTransfer)
unfound_case true from id pending (Some z) o none = refl
unfound_case true from id pending None o none = absurd (true≢false none)
unfound_case false from id pending before o none = refl

pub unfound : (book : Book) (after : ℕ → List ℕ → Option Outcome) (command : Command) (at : ℕ) → decides book command ≡ false
    → handle book.settings book.who book.events command at (found after book.who book.events command) ≡ handle book.settings book.who book.events command at None
unfound book after (Fund funding) at none = refl
unfound book after (Defund funding) at none = refl
unfound book after (Submit x) at none = refl
unfound book after (Confirm from id) at none = unfound_case (is_forwarded from id book.events) from id (Err Expired) (booked from id book.events) (after from id) none
unfound book after (Reject from id reason) at none = unfound_case (is_forwarded from id book.events) from id (still_pending from id) (booked from id book.events) (after from id) none
unfound book after (Investigate id) at none = unfound_case (is_taken id book.events) book.who id (still_pending book.who id) (booked book.who id book.events) (after book.who id) none
unfound book after (Fetch max) at none = refl
unfound book after (Query query) at none = refl

some_of : (party : Bool) (before : Option Outcome) → party ≡ true → (party && is_none before) ≡ false → (z : Outcome) × (before ≡ Some z)
some_of true None is none = absurd (true≢false none)
some_of true (Some z) is none = (z, refl)
some_of false before is none = absurd (false≢true is)

module _ (s : HubSettings) (O : Opening) (opening : IsOpening s O) (L : List Step) where
  -- an ask of `who` that wants nothing of a transfer leaves its outcome
  pub unwanted : (ask : AskValue) (p : ℕ) (id : List ℕ) → ((x : Transfer) → transfer id (history s O L p) ≡ Some x → ask_wants s (history s O L) ask.who ask.command ask.at p id x ≡ None)
      → outcome s O (Ask ask ∷ L) p id ≡ outcome s O L p id
  unwanted ask p id wants = go (transfer id (history s O L p)) refl
    where
      go : (X : Option Transfer) → transfer id (history s O L p) ≡ X → or_else (outcome s O L p id) (taken_wants s (history s O L) (Ask ask) p id (transfer id (history s O L p))) ≡ outcome s O L p id
      go None is = ap (λ (Y : Option Transfer). or_else (outcome s O L p id) (taken_wants s (history s O L) (Ask ask) p id Y)) is ∙ or_else-none (outcome s O L p id)
      go (Some x) is =
          ap (λ (Y : Option Transfer). or_else (outcome s O L p id) (taken_wants s (history s O L) (Ask ask) p id Y)) is
          ∙ ap (or_else (outcome s O L p id)) (wants x is) ∙ or_else-none (outcome s O L p id)

  ended_already : (ask : AskValue) (p : ℕ) (id : List ℕ) (z : Outcome) → outcome s O L p id ≡ Some z → outcome s O (Ask ask ∷ L) p id ≡ outcome s O L p id
  ended_already ask p id z ended = or_else_kept (outcome s O L p id) (taken_wants s (history s O L) (Ask ask) p id (transfer id (history s O L p))) z ended ∙ sym ended

  module _ (who : ℕ) (book : Book) (who_is : book.who ≡ who) (events : book.events ≡ history s O L who) where
    booked_here : (from : ℕ) (id : List ℕ) (z : Outcome) → booked from id book.events ≡ Some z → outcome s O L from id ≡ Some z
    booked_here from id z e = booked_outcome s O opening L who from id z (ap (booked from id) (sym events) ∙ e)

    not_answered : (command : Command) (at from : ℕ) (other : List ℕ) (o : Transfer → Option Outcome) (p : ℕ) (id : List ℕ)
        → (is_forwarded from other book.events && is_none (booked from other book.events)) ≡ false
        → ((x : Transfer) → ask_wants s (history s O L) who command at p id x ≡ cond (is_addressed (history s O L) who from other p id x) (o x) None)
        → outcome s O (Ask (record { who = who; command = command; at = at }) ∷ L) p id ≡ outcome s O L p id
    not_answered command at from other o p id none wants = elim (cases_Bool (same_transfer p id from other && is_forwarded p id (history s O L who))) [
      | inl both ↦
          let parts = and_parts (same_transfer p id from other) (is_forwarded p id (history s O L who)) both in
          let same = same_transfer-true p id from other parts.0 in
          let came : is_forwarded from other book.events ≡ true =
          ap (is_forwarded from other) events ∙ ap (λ (q : ℕ). is_forwarded q other (history s O L who)) same.0 ∙ ap (λ (i : List ℕ). is_forwarded p i (history s O L who)) same.1 ∙ parts.1 in
          let z = some_of (is_forwarded from other book.events) (booked from other book.events) came none in
          let ended : outcome s O L p id ≡ Some z.0 = ap (λ (q : ℕ). outcome s O L q id) (sym same.0) ∙ ap (λ (i : List ℕ). outcome s O L from i) (sym same.1) ∙ booked_here from other z.0 z.1 in
          ended_already (record { who = who; command = command; at = at }) p id z.0 ended
      | inr not_both ↦ unwanted (record { who = who; command = command; at = at }) p id (λ x is. wants x ∙
          nothing (same_transfer p id from other) (who == x.to) (is_forwarded p id (history s O L who)) (o x) not_both)
    ]
      where
        nothing : (a c d : Bool) (r : Option Outcome) → (a && d) ≡ false → cond (a && c && d) r None ≡ None
        nothing true true true r none = absurd (true≢false none)
        nothing true true false r none = refl
        nothing true false d r none = refl
        nothing false true d r none = refl
        nothing false false d r none = refl

    not_investigated : (at : ℕ) (other : List ℕ) (p : ℕ) (id : List ℕ) → (is_taken other book.events && is_none (booked book.who other book.events)) ≡ false
        → outcome s O (Ask (record { who = who; command = Investigate other; at = at }) ∷ L) p id ≡ outcome s O L p id
    not_investigated at other p id none = go (transfer id (history s O L p)) refl (cases_Bool (same_transfer p id who other))
      where
        ask : AskValue
        ask = record { who = who; command = Investigate other; at = at }

        go : (X : Option Transfer) → transfer id (history s O L p) ≡ X → (same_transfer p id who other ≡ true) ⊎ (same_transfer p id who other ≡ false)
            → outcome s O (Ask (record { who = who; command = Investigate other; at = at }) ∷ L) p id ≡ outcome s O L p id
        go X is (inr differs) = unwanted (record { who = who; command = Investigate other; at = at }) p id (λ x found. ap (λ (c : Bool). cond c (expired (deadline s x) at) None) differs)
        go None is (inl named) = unwanted (record { who = who; command = Investigate other; at = at }) p id (λ x found. let e : None ≡ Some x = sym is ∙ found in absurd cc)
        go (Some x) is (inl named) =
            let same = same_transfer-true p id who other named in
            let taken : is_taken other book.events ≡ true =
            ap (is_taken other) events ∙ ap (λ (q : ℕ). is_taken other (history s O L q)) same.0 ∙ ap (λ (i : List ℕ). is_taken i (history s O L p)) same.1 ∙ transfer_taken id (history s O L p) x is in
            let z = some_of (is_taken other book.events) (booked book.who other book.events) taken none in
            let ended : outcome s O L p id ≡ Some z.0 =
            ap (λ (q : ℕ). outcome s O L q id) (sym same.0) ∙ ap (λ (i : List ℕ). outcome s O L who i) (sym same.1)
            ∙ booked_here who other z.0 (ap (λ (w : ℕ). booked w other book.events) (sym who_is) ∙ z.1) in
            ended_already (record { who = who; command = Investigate other; at = at }) p id z.0 ended

    -- where the command decides nothing, it leaves the outcomes
    pub undecided : (command : Command) (at p : ℕ) (id : List ℕ) → decides book command ≡ false → outcome s O (Ask (record { who = who; command = command; at = at }) ∷ L) p id ≡ outcome s O L p id
    undecided (Fund funding) at p id none = unwanted (record { who = who; command = Fund funding; at = at }) p id (λ x is. refl)
    undecided (Defund funding) at p id none = unwanted (record { who = who; command = Defund funding; at = at }) p id (λ x is. refl)
    undecided (Submit y) at p id none = unwanted (record { who = who; command = Submit y; at = at }) p id (λ x is. refl)
    undecided (Confirm from other) at p id none = not_answered (Confirm from other) at from other (λ x. confirmed s.margin (deadline s x) at) p id none (λ x. refl)
    undecided (Reject from other reason) at p id none = not_answered (Reject from other reason) at from other (λ x. rejected reason (deadline s x) at) p id none (λ x. refl)
    undecided (Investigate other) at p id none = not_investigated at other p id none
    undecided (Fetch max) at p id none = unwanted (record { who = who; command = Fetch max; at = at }) p id (λ x is. refl)
    undecided (Query query) at p id none = unwanted (record { who = who; command = Query query; at = at }) p id (λ x is. refl)
