-- What a hub answers can be written.
use Rattle.std.proofs.Common.{◌≡◌, ℕ, zero, suc, ◌<◌, ◌≤◌, Bool, true, false, cond, ◌==◌, nat_lt, nat_le, List, [], ◌∷◌, length, take, drop, Option, Some, None, Result, Ok, Err, IfOk, refl, ap, ◌∙◌, arith, sum_by}
use Rattle.std.specs.Prelude.{slice_get, Contains}
use Rattle.std.specs.List.{list_all}
use Rattle.std.proofs.lemmas.Bool.{and_parts, le-leb}
use Rattle.std.proofs.lemmas.List.Elements.{All-contains}
use Rattle.std.proofs.lemmas.List.Sums.{AllPass-from_list_all}
use Rattle.std.specs.declared.alloc.AllocError.{AllocError}
use Rattle.inst_base.specs.TimeLimit.{deadline_of, is_ahead, is_due}
use Rattle.inst_base.specs.declared.fault.Fault.{Fault}
use Rattle.inst_settings.specs.Settings.{HubSettings, is_participant}
use Rattle.inst_settings.specs.Lawful.{IsSettings}
use Rattle.inst_command.specs.Ask.{command_fits}
use Rattle.inst_command.specs.LineText.{line_fits, other_fits}
use Rattle.inst_command.specs.Step.{step_fits}
use Rattle.inst_command.specs.declared.command.Command.{Command}
use Rattle.inst_command.specs.declared.command.Command.TheVariants.{Fund, Defund, Submit, Confirm, Reject, Investigate, Fetch, Query}
use Rattle.inst_command.specs.declared.query.Query.TheVariants.{Position, Statement}
use Rattle.inst_command.specs.declared.entry.Entry.{Entry}
use Rattle.inst_command.specs.declared.line.Line.{Line}
use Rattle.inst_command.specs.declared.line.LineKind.{LineKind}
use Rattle.inst_command.specs.declared.line.LineKind.TheVariants.{Funded as FundedKind, Defunded as DefundedKind, Received, Paid}
use Rattle.inst_command.specs.declared.outcome.Outcome.{Outcome}
use Rattle.inst_command.specs.declared.reply.Answer.{Answer}
use Rattle.inst_command.specs.declared.step.Step.{Step}
use Rattle.inst_command.specs.declared.step.Step.TheVariants.{Ask, Deliver, Learn, Expire}
use Rattle.inst_command.specs.declared.submission.Submission.{Submission}
use Rattle.inst_journal.specs.declared.event.Event.{Event}
use Rattle.inst_journal.specs.declared.event.Event.TheVariants.{Funded, Defunded, Taken, Forwarded, Booked, Fetched, Opened}
use Rattle.inst_journal.specs.declared.handle.Handled.{Handled}
use Rattle.inst_journal.specs.Booked.{is_taken, is_forwarded, booked}
use Rattle.inst_journal.specs.Keys.{is_submission_repeat}
use Rattle.inst_journal.specs.Lines.{IsOf}
use Rattle.inst_journal.specs.Money.{available}
use Rattle.inst_journal.specs.Opened.{live_submissions}
use Rattle.inst_journal.specs.Reply.{reply_result, reply, is_new_funding, funding, submit, state_reply, inbox, unread, hand_out, handed_out}
use Rattle.inst_journal.specs.Sound.{IsSound}
use Rattle.inst_journal.specs.Statement.{statement}
use Rattle.inst_journal.proofs.StatementLeadsToPosition.{count_from_one}
use Rattle.inst_journal.proofs.LineTellsAnEvent.{line_tells}
use Rattle.inst_json.specs.Replies.{reply_can_be_written, answer_can_be_written}
use Rattle.inst_model.specs.Found.{found}
use Rattle.inst_model.specs.Hub.{outcome, history}
use Rattle.inst_model.specs.Interleaving.{IsInterleaving}
use Rattle.inst_model.specs.Opening.{Opening, IsOpening}
use Rattle.inst_model.specs.Trace.{as_reply, answer}
use Rattle.inst_model.proofs.AllHistoriesTogether.{together}
use Rattle.inst_world.specs.HasRun.{IsOfModel}
use Rattle.inst_world.proofs.NumbersOfStatementLines.{names, all_named, statement_short}

abbrev CanBeTold : HubSettings → Result Handled Fault → Type 0
CanBeTold s h = reply_can_be_written s (as_reply (reply_result h)) ≡ true

-- of one of two, chosen by a test
chosen : (s : HubSettings) (b : Bool) (x y : Result Handled Fault) → CanBeTold s x → CanBeTold s y → CanBeTold s (cond b x y)
chosen s true x y first second = first
chosen s false x y first second = second

funding_told : (s : HubSettings) (reference : List ℕ) (new : Result Handled Fault) (is_new : Result Bool Fault) → CanBeTold s new → CanBeTold s (funding reference new is_new)
funding_told s reference new (Err fault) can = refl
funding_told s reference new (Ok false) can = refl
funding_told s reference new (Ok true) can = can

submit_told : (s t : HubSettings) (who : ℕ) (J : List Event) (at : ℕ) (x : Submission) → CanBeTold t (submit s who J at x)
submit_told s t who J at x =
    chosen t (x.to == who) _ _ refl (chosen t (is_submission_repeat x J) _ _ refl (chosen t (is_taken x.id J) _ _ refl
    (chosen t (is_ahead s.ahead x.stamp at) _ _ refl (chosen t (is_due (deadline_of s.limit x.stamp) at) _ _ refl
    (chosen t (nat_le s.places (live_submissions who J)) _ _ refl (chosen t (nat_lt (available J) x.cents) _ _ refl refl))))))

standing_told : (s : HubSettings) (from : ℕ) (id : List ℕ) (pending : Result Handled Fault) (before found : Option Outcome) → is_participant s from ≡ true → CanBeTold s pending → CanBeTold s (state_reply from id pending before found)
standing_told s from id pending (Some o) found is can = rw is refl
standing_told s from id pending None (Some o) is can = rw is refl
standing_told s from id pending None None is can = can

-- all of a list, where each is
list_all_at : {A : Type 0} (p : A → Bool) (xs : List A) → ((k : ℕ) (x : A) → slice_get xs k ≡ Some x → p x ≡ true) → list_all p xs ≡ true
list_all_at p [] each = refl
list_all_at p (x ∷ xs) each = rw (each 0 x refl) (list_all_at p xs (λ k y e. each (suc k) y e))

all_of_take : {A : Type 0} (p : A → Bool) (n : ℕ) (xs : List A) → list_all p xs ≡ true → list_all p (take n xs) ≡ true
all_of_take p zero xs all = refl
all_of_take p (suc n) [] all = refl
all_of_take p (suc n) (x ∷ xs) all = let parts = and_parts (p x) (list_all p xs) all in rw parts.0 (all_of_take p n xs parts.1)

all_of_drop : {A : Type 0} (p : A → Bool) (n : ℕ) (xs : List A) → list_all p xs ≡ true → list_all p (drop n xs) ≡ true
all_of_drop p zero xs all = all
all_of_drop p (suc n) [] all = refl
all_of_drop p (suc n) (x ∷ xs) all = all_of_drop p n xs (and_parts (p x) (list_all p xs) all).1

-- each entry of the inbox came from a participant
inbox_named : (s : HubSettings) (J : List Event) → list_all (names s) J ≡ true → list_all (λ entry. is_participant s entry.from) (inbox J) ≡ true
inbox_named s [] named = refl
inbox_named s (Forwarded from id cents deadline ∷ J) named = let parts = and_parts (is_participant s from) (list_all (names s) J) named in rw parts.0 (inbox_named s J parts.1)
inbox_named s (Taken id to cents stamp ∷ J) named = inbox_named s J (and_parts (is_participant s to) (list_all (names s) J) named).1
inbox_named s (Funded funding ∷ J) named = inbox_named s J named
inbox_named s (Defunded funding ∷ J) named = inbox_named s J named
inbox_named s (Booked from id o ∷ J) named = inbox_named s J named
inbox_named s (Fetched count ∷ J) named = inbox_named s J named
inbox_named s (Opened ∷ J) named = inbox_named s J named

handed_told : (s : HubSettings) (entries : List Entry) → list_all (λ entry. is_participant s entry.from) entries ≡ true → CanBeTold s (hand_out entries)
handed_told s [] all = refl
handed_told s (entry ∷ entries) all = all

-- what a history contains names participants
contained : (p : Event → Bool) (J : List Event) (event : Event) → list_all p J ≡ true → Contains J event → p event ≡ true
contained p J event all there = All-contains (λ (e : Event). p e ≡ true) J event (AllPass-from_list_all p J all) there

line_named : (s : HubSettings) (J : List Event) (line : Line) → list_all (names s) J ≡ true → (kind : LineKind) → IsOf J kind line → other_fits s kind line.other ≡ true
line_named s J line named FundedKind of = rw of.0 refl
line_named s J line named DefundedKind of = rw of.0 refl
line_named s J line named Received of = rw of.2 (contained (names s) J (Forwarded of.0 line.id line.cents of.1) named of.3)
line_named s J line named Paid of = rw of.3 (contained (names s) J (Taken line.id of.1 line.cents of.2) named of.4)

get_below : {A : Type 0} (xs : List A) (k : ℕ) (x : A) → slice_get xs k ≡ Some x → k < length xs
get_below [] k x e = let no : ⊥ = cc in absurd no
get_below (y ∷ xs) zero x e = omega arith
get_below (y ∷ xs) (suc k) x e = omega (arith, get_below xs k x e)

statement_told : (s : HubSettings) (who : ℕ) (J : List Event) → IsSettings s → IsSound s who J → list_all (line_fits s) (statement J) ≡ true
statement_told s who J lawful sound = list_all_at (line_fits s) (statement J) (λ k line e.
    let below = get_below (statement J) k line e in
    let number : line.number ≤ 999999 = omega (arith, count_from_one J k line e, below, statement_short s who J lawful sound) in
    rw (le-leb line.number 999999 number) (line_named s J line (all_named s who J sound) line.kind (line_tells J k line e)))

-- a reply of the books can be written
pub reply_written : (s : HubSettings) (who : ℕ) (J : List Event) (command : Command) (at : ℕ) (found : Option Outcome) → IsSettings s → IsSound s who J → is_participant s who ≡ true → command_fits s command ≡ true
    → reply_can_be_written s (as_reply (reply s who J command at found)) ≡ true
reply_written s who J (Fund funding) at found lawful sound own fits = funding_told s funding.reference _ (is_new_funding s J funding.reference _) refl
reply_written s who J (Defund funding) at found lawful sound own fits = funding_told s funding.reference _ (is_new_funding s J funding.reference _) (chosen s (nat_lt (available J) funding.cents) _ _ refl refl)
reply_written s who J (Submit x) at found lawful sound own fits = submit_told s s who J at x
reply_written s who J (Confirm from id) at found lawful sound own fits = chosen s (is_forwarded from id J) _ _ (standing_told s from id _ (booked from id J) found fits refl) refl
reply_written s who J (Reject from id reason) at found lawful sound own fits = chosen s (is_forwarded from id J) _ _ (standing_told s from id _ (booked from id J) found fits (rw fits refl)) refl
reply_written s who J (Investigate id) at found lawful sound own fits = chosen s (is_taken id J) _ _ (standing_told s who id _ (booked who id J) found own (rw own refl)) refl
reply_written s who J (Fetch max) at found lawful sound own fits =
    handed_told s (take max (unread J)) (all_of_take _ max (unread J) (all_of_drop _ (sum_by handed_out J) (inbox J) (inbox_named s J (all_named s who J sound))))
reply_written s who J (Query Position) at found lawful sound own fits = refl
reply_written s who J (Query (Statement skip count)) at found lawful sound own fits =
    all_of_take (line_fits s) count (drop skip (statement J)) (all_of_drop (line_fits s) skip (statement J) (statement_told s who J lawful sound))

-- what the model answers can be written
pub answer_written : (s : HubSettings) (O : Opening) (L : List Step) (step : Step) → IsSettings s → IsOpening s O → IsInterleaving s L → step_fits s step ≡ true → answer_can_be_written s (answer s O L step) ≡ true
answer_written s O L (Ask ask) lawful opening steps fits =
    let parts = and_parts (is_participant s ask.who) (command_fits s ask.command) fits in
    reply_written s ask.who (history s O L ask.who) ask.command ask.at (found (outcome s O (Ask ask ∷ L)) ask.who (history s O L ask.who) ask.command) lawful
    ((together s O opening L steps).sound ask.who) parts.0 parts.1
answer_written s O L (Deliver from index to) lawful opening steps fits = refl
answer_written s O L (Learn who from index) lawful opening steps fits = refl
answer_written s O L (Expire who index at) lawful opening steps fits = refl

pub model_written : (s : HubSettings) (step : Step) (told : Answer) → step_fits s step ≡ true → IsOfModel s step told → answer_can_be_written s told ≡ true
model_written s step told fits of = ap (answer_can_be_written s) of.answer_is ∙ answer_written s of.opening of.steps step of.lawful of.is_opening of.is_interleaving fits

pub result_written : (s : HubSettings) (step : Step) (result : Result Answer AllocError) → step_fits s step ≡ true → IfOk result (IsOfModel s step) → IfOk result (λ told. answer_can_be_written s told ≡ true)
result_written s step (Ok told) fits of = model_written s step told fits of
result_written s step (Err fault) fits of = tt
