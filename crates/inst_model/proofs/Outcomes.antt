-- What is answered and what is booked is the outcome, which stays.
use Rattle.std.proofs.Common.{◌≡◌, ℕ, Bool, true, false, cond, eqb, ltb, leb, List, [], ◌∷◌, ◌++◌, take, Option, Some, None, Result, Ok, Err, refl, sym, subst, Contains}
use Rattle.std.proofs.lemmas.Bool.{cond-true}
use Rattle.std.proofs.lemmas.Option.{cond_some}
use Rattle.inst_model.specs.Opening.{Opening, IsOpening, beginning}
use Rattle.inst_base.specs.TimeLimit.{deadline_of, is_ahead, is_due}
use Rattle.inst_base.specs.declared.fault.Fault.{Fault}
use Rattle.inst_base.specs.declared.fault.Fault.TheVariants.{Expired}
use Rattle.inst_settings.specs.Settings.{HubSettings}
use Rattle.inst_command.specs.declared.command.Command.{Command}
use Rattle.inst_command.specs.declared.command.Command.TheVariants.{Fund, Defund, Submit, Confirm, Reject, Investigate, Fetch, Query}
use Rattle.inst_command.specs.declared.entry.Entry.{Entry}
use Rattle.inst_command.specs.declared.outcome.Outcome.{Outcome}
use Rattle.inst_command.specs.declared.outcome.State.TheVariants.{Unused, Pending, Decided}
use Rattle.inst_command.specs.declared.step.Step.{Step}
use Rattle.inst_command.specs.declared.step.Step.TheVariants.{Ask}
use Rattle.inst_command.specs.declared.reply.Answer.{Answer}
use Rattle.inst_command.specs.declared.reply.Answer.TheVariants.{Reply, New}
use Rattle.inst_journal.specs.declared.event.Event.{Event}
use Rattle.inst_journal.specs.declared.handle.Handled.{Handled}
use Rattle.inst_journal.specs.declared.event.Event.TheVariants.{Funded, Defunded, Taken, Forwarded, Booked, Fetched, Opened}
use Rattle.inst_journal.specs.Booked.{is_taken, is_forwarded, books, booked, same_transfer}
use Rattle.inst_journal.specs.Money.{available}
use Rattle.inst_journal.specs.Opened.{live_submissions}
use Rattle.inst_journal.specs.Keys.{is_submission_repeat}
use Rattle.inst_journal.specs.Reply.{reply_result, is_new_funding, funding, handle, state_reply, still_pending, hand_out, unread}
use Rattle.inst_model.specs.Wants.{wants}
use Rattle.inst_model.specs.Found.{found}
use Rattle.inst_model.specs.Hub.{outcome, history}
use Rattle.inst_model.specs.Trace.{as_reply}
use Rattle.inst_model.specs.TransferTold.{TransferTold, transfer_told, tells_taken, tells_state, tells_nothing}
use Rattle.inst_model.specs.OneOutcome.{AnsweredIsTheOutcome, BookedIsTheOutcome, OutcomeStays}
use Rattle.inst_model.proofs.TextsTestsAndFirstThings.{or_else_kept, Each, Each_push, Each_weaker, Each_contains, first_some_each, same_transfer-true}
use Rattle.inst_model.proofs.Histories.{by_step}
use Rattle.inst_model.proofs.QueriesTellOfNoTransfer.{query_tells_nothing}
use Rattle.inst_model.proofs.MirrorOfFittingHistories.{each_contained}
use Rattle.inst_model.proofs.BookingsAreOfParties.{booked_found}
use Rattle.inst_model.proofs.HistoriesBeginSoundAndClosed.{beginning_sound, beginning_booked}

-- an outcome stays through a step
pub outcome_later : (s : HubSettings) (O : Opening) (step : Step) (past : List Step) (from : ℕ) (id : List ℕ) (o : Outcome) → outcome s O past from id ≡ Some o → outcome s O (step ∷ past) from id ≡ Some o
outcome_later s O step past from id o e = or_else_kept (outcome s O past from id) (wants s (history s O past) step from id) o e

pub outcome_stays : OutcomeStays
outcome_stays s O [] past from id o e = e
outcome_stays s O (step ∷ later) past from id o e = outcome_later s O step (later ++ past) from id o (outcome_stays s O later past from id o e)

-- what is booked is the outcome
abbrev pub BookedIs : (ℕ → List ℕ → Option Outcome) → Event → Type 0
BookedIs outcomes (Booked from id o) = outcomes from id ≡ Some o
BookedIs outcomes (Funded funding) = Unit {0}
BookedIs outcomes (Defunded funding) = Unit {0}
BookedIs outcomes (Taken id to cents stamp) = Unit {0}
BookedIs outcomes (Forwarded from id cents deadline) = Unit {0}
BookedIs outcomes (Fetched count) = Unit {0}
BookedIs outcomes Opened = Unit {0}

booked_later : (s : HubSettings) (O : Opening) (step : Step) (past : List Step) (event : Event) → BookedIs (outcome s O past) event → BookedIs (outcome s O (step ∷ past)) event
booked_later s O step past (Booked from id o) e = outcome_later s O step past from id o e
booked_later s O step past (Funded funding) e = tt
booked_later s O step past (Defunded funding) e = tt
booked_later s O step past (Taken id to cents stamp) e = tt
booked_later s O step past (Forwarded from id cents deadline) e = tt
booked_later s O step past (Fetched count) e = tt
booked_later s O step past Opened e = tt

begun : (s : HubSettings) (O : Opening) → IsOpening s O → (p : ℕ) (event : Event) → Contains (beginning O p) event → BookedIs (outcome s O []) event
begun s O opened p (Booked from id o) there = beginning_booked s O opened p from id o (booked_found s p (beginning O p) from id o (beginning_sound s O opened p) there)
begun s O opened p (Funded funding) there = tt
begun s O opened p (Defunded funding) there = tt
begun s O opened p (Taken id to cents stamp) there = tt
begun s O opened p (Forwarded from id cents deadline) there = tt
begun s O opened p (Fetched count) there = tt
begun s O opened p Opened there = tt

pub all_booked : (s : HubSettings) (O : Opening) → IsOpening s O → (L : List Step) (p : ℕ) → Each (BookedIs (outcome s O L)) (history s O L p)
all_booked s O opened [] p = each_contained (BookedIs (outcome s O [])) (beginning O p) (begun s O opened p)
all_booked s O opened (step ∷ past) p =
    let P : Event → Type 0 = BookedIs (outcome s O (step ∷ past)) in
    let before : Each P (history s O past p) = Each_weaker (BookedIs (outcome s O past)) P (history s O past p) (booked_later s O step past) (all_booked s O opened past p) in
    by_step s O step past p (λ J. Each P J) (record {
      nothing = before;
      funds = λ ask funding is command why. Each_push P (history s O past p) (Funded funding) before tt;
      defunds = λ ask funding is command why cover. Each_push P (history s O past p) (Defunded funding) before tt;
      takes = λ ask id to cents stamp is command why. Each_push P (history s O past p) (Taken id to cents stamp) before tt;
      forwards = λ from index x is why. Each_push P (history s O past p) _ before tt;
      books = λ from id o why. Each_push P (history s O past p) (Booked from id o) before why.outcome_is;
      hands_out = λ ask max entry entries is command some. Each_push P (history s O past p) _ before tt;
    })

pub booked_is_the_outcome : BookedIsTheOutcome
booked_is_the_outcome s O opened L p from id o there = Each_contains (BookedIs (outcome s O L)) (history s O L p) (Booked from id o) (all_booked s O opened L p) there

books_is : (outcomes : ℕ → List ℕ → Option Outcome) (from : ℕ) (id : List ℕ) (o : Outcome) (event : Event) → BookedIs outcomes event → books from id event ≡ Some o → outcomes from id ≡ Some o
books_is outcomes from id o (Booked other_from other p) is e =
    let parts : (same_transfer from id other_from other ≡ true) × (p ≡ o) = cond_some (same_transfer from id other_from other) p o e in
    let same : (other_from ≡ from) × (other ≡ id) = same_transfer-true from id other_from other parts.0 in
    cc
books_is outcomes from id o (Funded funding) is e = cc
books_is outcomes from id o (Defunded funding) is e = cc
books_is outcomes from id o (Taken other to cents stamp) is e = cc
books_is outcomes from id o (Forwarded other_from other cents deadline) is e = cc
books_is outcomes from id o (Fetched count) is e = cc
books_is outcomes from id o Opened is e = cc

-- what a side has booked for a transfer is its outcome
pub booked_outcome : (s : HubSettings) (O : Opening) → IsOpening s O → (L : List Step) (p from : ℕ) (id : List ℕ) (o : Outcome) → booked from id (history s O L p) ≡ Some o → outcome s O L from id ≡ Some o
booked_outcome s O opened L p from id o e =
    first_some_each (books from id) (BookedIs (outcome s O L)) (λ q. outcome s O L from id ≡ Some q) (history s O L p) o
    (λ event is here. books_is (outcome s O L) from id o event is here) (all_booked s O opened L p) e

-- a decided state in the reply is the outcome
abbrev IsRight : (ℕ → List ℕ → Option Outcome) → TransferTold → Type 0
IsRight outcomes (tells_state from id (Decided o)) = outcomes from id ≡ Some o
IsRight outcomes (tells_state from id Unused) = Unit {0}
IsRight outcomes (tells_state from id Pending) = Unit {0}
IsRight outcomes (tells_taken id deadline) = Unit {0}
IsRight outcomes tells_nothing = Unit {0}

abbrev Right : (ℕ → List ℕ → Option Outcome) → Result Handled Fault → Type 0
Right outcomes h = IsRight outcomes (transfer_told (as_reply (reply_result h)))

abbrev AnswerRight : (ℕ → List ℕ → Option Outcome) → Answer → Type 0
AnswerRight outcomes (Reply r) = IsRight outcomes (transfer_told r)
AnswerRight outcomes (New b) = Unit {0}

chosen : (outcomes : ℕ → List ℕ → Option Outcome) (b : Bool) (x y : Result Handled Fault) → (b ≡ true → Right outcomes x) → (b ≡ false → Right outcomes y) → Right outcomes (cond b x y)
chosen outcomes true x y first second = first refl
chosen outcomes false x y first second = second refl

standing_right : (outcomes : ℕ → List ℕ → Option Outcome) (from : ℕ) (id : List ℕ) (pending : Result Handled Fault) (before o : Option Outcome)
    → Right outcomes pending → ((x : Outcome) → before ≡ Some x → outcomes from id ≡ Some x) → o ≡ outcomes from id → Right outcomes (state_reply from id pending before o)
standing_right outcomes from id pending (Some x) o none known same = known x refl
standing_right outcomes from id pending None (Some x) none known same = sym same
standing_right outcomes from id pending None None none known same = none

funding_right : (outcomes : ℕ → List ℕ → Option Outcome) (reference : List ℕ) (new : Result Handled Fault) (is_new : Result Bool Fault) → Right outcomes new → Right outcomes (funding reference new is_new)
funding_right outcomes reference new (Err fault) right = tt
funding_right outcomes reference new (Ok false) right = tt
funding_right outcomes reference new (Ok true) right = right

hand_out_right : (outcomes : ℕ → List ℕ → Option Outcome) (entries : List Entry) → Right outcomes (hand_out entries)
hand_out_right outcomes [] = tt
hand_out_right outcomes (entry ∷ entries) = tt

handled_right : (s : HubSettings) (who : ℕ) (J : List Event) (command : Command) (at : ℕ) (outcomes : ℕ → List ℕ → Option Outcome)
    → ((from : ℕ) (id : List ℕ) (o : Outcome) → booked from id J ≡ Some o → outcomes from id ≡ Some o)
    → Right outcomes (handle s who J command at (found outcomes who J command))
handled_right s who J (Fund funding) at outcomes known = funding_right outcomes funding.reference _ (is_new_funding s J funding.reference _) tt
handled_right s who J (Defund funding) at outcomes known =
    funding_right outcomes funding.reference _ (is_new_funding s J funding.reference _) (chosen outcomes (ltb (available J) funding.cents) _ _ (λ _. tt) (λ _. tt))
handled_right s who J (Submit x) at outcomes known =
    chosen outcomes (eqb x.to who) _ _ (λ _. tt) (λ _.
    chosen outcomes (is_submission_repeat x J) _ _ (λ _. tt) (λ _.
    chosen outcomes (is_taken x.id J) _ _ (λ _. tt) (λ _.
    chosen outcomes (is_ahead s.ahead x.stamp at) _ _ (λ _. tt) (λ _.
    chosen outcomes (is_due (deadline_of s.limit x.stamp) at) _ _ (λ _. tt) (λ _.
    chosen outcomes (leb s.places (live_submissions who J)) _ _ (λ _. tt) (λ _.
    chosen outcomes (ltb (available J) x.cents) _ _ (λ _. tt) (λ _. tt)))))))
handled_right s who J (Confirm from id) at outcomes known =
    chosen outcomes (is_forwarded from id J) _ _
    (λ there. standing_right outcomes from id (Err Expired) (booked from id J) _ tt (known from id) (cond-true (is_forwarded from id J) (outcomes from id) None there)) (λ _. tt)
handled_right s who J (Reject from id reason) at outcomes known =
    chosen outcomes (is_forwarded from id J) _ _
    (λ there. standing_right outcomes from id (still_pending from id) (booked from id J) _ tt (known from id) (cond-true (is_forwarded from id J) (outcomes from id) None there)) (λ _. tt)
handled_right s who J (Investigate id) at outcomes known =
    chosen outcomes (is_taken id J) _ _
    (λ there. standing_right outcomes who id (still_pending who id) (booked who id J) _ tt (known who id) (cond-true (is_taken id J) (outcomes who id) None there)) (λ _. tt)
handled_right s who J (Fetch max) at outcomes known = hand_out_right outcomes (take max (unread J))
handled_right s who J (Query query) at outcomes known = subst (IsRight outcomes) (sym (query_tells_nothing J query)) tt

pub answered_is_the_outcome : AnsweredIsTheOutcome
answered_is_the_outcome s O opened past ask from id o e =
    let after : ℕ → List ℕ → Option Outcome = outcome s O (Ask ask ∷ past) in
    subst (AnswerRight after) e
    (handled_right s ask.who (history s O past ask.who) ask.command ask.at after
    (λ other_from other p known. outcome_later s O (Ask ask) past other_from other p (booked_outcome s O opened past ask.who other_from other p known)))
