-- What a step that only tells does: it decides nothing and appends a booking or a forwarding, if anything.
use Rattle.std.proofs.Common.{◌≡◌, ℕ, true, false, List, [], ◌∷◌, ◌++◌, Option, Some, None, refl, sym, ap, ◌∙◌, inl, inr, append-nil, append_assoc}
use Rattle.std.specs.List.{cons_option, filter}
use Rattle.std.proofs.lemmas.Bool.{false≢true, or_cases}
use Rattle.inst_settings.specs.Settings.{HubSettings}
use Rattle.inst_command.specs.declared.ask.Ask.{Ask as AskValue}
use Rattle.inst_command.specs.declared.outcome.Outcome.{Outcome}
use Rattle.inst_command.specs.declared.step.Step.{Step}
use Rattle.inst_command.specs.declared.step.Step.TheVariants.{Ask, Deliver, Learn, Expire}
use Rattle.inst_journal.specs.declared.event.Event.{Event}
use Rattle.inst_journal.specs.declared.event.Event.TheVariants.{Forwarded, Booked}
use Rattle.inst_journal.specs.Booked.{or_else, is_forwarded, forwards, same_transfer}
use Rattle.inst_journal.specs.Opened.{is_opening, is_live}
use Rattle.inst_journal.proofs.OneMoreElement.{list_any_push, or-false, or_else-none}
use Rattle.inst_model.specs.Closing.{is_telling, is_told, OnlyTold}
use Rattle.inst_model.specs.Opening.{Opening}
use Rattle.inst_model.specs.Transfer.{Transfer, transfer, terms, live_transfers, deadline}
use Rattle.inst_model.specs.Wants.{taken_wants}
use Rattle.inst_model.specs.Hub.{outcome, history}
use Rattle.inst_model.proofs.TextsTestsAndFirstThings.{Each, Each_push, same_transfer-true}
use Rattle.inst_model.proofs.Histories.{Books, by_step}
use Rattle.inst_model.proofs.NamesOfTransfers.{live_grown}
use Rattle.inst_model.proofs.Steps.{Comes}

-- the steps only tell
abbrev pub OnlyTells : List Step → Type 0
OnlyTells M = Each (λ step. is_telling step ≡ true) M

nothing_wanted : (s : HubSettings) (J : ℕ → List Event) (step : Step) (p : ℕ) (id : List ℕ) (o : Option Transfer) → is_telling step ≡ true → taken_wants s J step p id o ≡ None
nothing_wanted s J step p id None tells = refl
nothing_wanted s J (Deliver from index to) p id (Some x) tells = refl
nothing_wanted s J (Learn who from index) p id (Some x) tells = refl
nothing_wanted s J (Ask ask) p id (Some x) tells = absurd (false≢true tells)
nothing_wanted s J (Expire who index at) p id (Some x) tells = absurd (false≢true tells)

pub same_outcome : (s : HubSettings) (O : Opening) (step : Step) (past : List Step) → is_telling step ≡ true → (p : ℕ) (id : List ℕ) → outcome s O (step ∷ past) p id ≡ outcome s O past p id
same_outcome s O step past tells p id =
    ap (or_else (outcome s O past p id)) (nothing_wanted s (history s O past) step p id (transfer id (history s O past p)) tells) ∙ or_else-none (outcome s O past p id)

pub same_outcomes : (s : HubSettings) (O : Opening) (L M : List Step) → OnlyTells M → (p : ℕ) (id : List ℕ) → outcome s O (M ++ L) p id ≡ outcome s O L p id
same_outcomes s O L [] tells p id = refl
same_outcomes s O L (step ∷ M) tells p id = same_outcome s O step (M ++ L) tells.0 p id ∙ same_outcomes s O L M tells.1 p id

is_no_ask : (step : Step) (ask : AskValue) → is_telling step ≡ true → step ≡ Ask ask → ⊥
is_no_ask step ask tells is = false≢true (sym (ap is_telling is) ∙ tells)

-- the history of p after a step that only tells, case by case
pub by_telling : (s : HubSettings) (O : Opening) (step : Step) (past : List Step) (p : ℕ) → is_telling step ≡ true → (Q : List Event → Type 0) → Q (history s O past p)
    → ((from index : ℕ) (x : Transfer) → step ≡ Deliver from index p → Comes s (outcome s O past) from p (history s O past from) (history s O past p) index x → Q (history s O past p ++ Forwarded from x.id x.cents (deadline s x) ∷ []))
    → ((from : ℕ) (id : List ℕ) (o : Outcome) → Books s (history s O past) (outcome s O past) step p from id o → Q (history s O past p ++ Booked from id o ∷ []))
    → Q (history s O (step ∷ past) p)
by_telling s O step past p tells Q nothing forwards books =
    by_step s O step past p Q (record {
      nothing = nothing;
      funds = λ ask funding is command why. absurd (is_no_ask step ask tells is);
      defunds = λ ask funding is command why cover. absurd (is_no_ask step ask tells is);
      takes = λ ask id to cents stamp is command why. absurd (is_no_ask step ask tells is);
      forwards = forwards;
      books = books;
      hands_out = λ ask max entry entries is command some. absurd (is_no_ask step ask tells is);
    })

-- an event that takes nothing leaves the live transfers
pub none_taken : (p : ℕ) (J : List Event) (event : Event) → is_opening event ≡ false → terms event ≡ None → live_transfers p (J ++ event ∷ []) ≡ live_transfers p J
none_taken p J event no_opening none =
    live_grown p J event no_opening
    ∙ ap (λ (o : Option Transfer). live_transfers p J ++ filter (λ (y : Transfer). is_live p y.id J) (cons_option o [])) none
    ∙ append-nil (live_transfers p J)

pub same_live : (s : HubSettings) (O : Opening) (step : Step) (past : List Step) → is_telling step ≡ true → (p : ℕ) → live_transfers p (history s O (step ∷ past) p) ≡ live_transfers p (history s O past p)
same_live s O step past tells p =
    let J : List Event = history s O past p in
    by_telling s O step past p tells (λ K. live_transfers p K ≡ live_transfers p J) refl
    (λ from index x is why. none_taken p J (Forwarded from x.id x.cents (deadline s x)) refl refl) (λ from id o why. none_taken p J (Booked from id o) refl refl)

-- nothing that is decided comes
pub came_before : (s : HubSettings) (O : Opening) (step : Step) (past : List Step) → is_telling step ≡ true → (who from : ℕ) (id : List ℕ) (o : Outcome) → outcome s O past from id ≡ Some o
    → is_forwarded from id (history s O (step ∷ past) who) ≡ true → is_forwarded from id (history s O past who) ≡ true
came_before s O step past tells who from id o is =
    let J : List Event = history s O past who in
    by_telling s O step past who tells (λ K. is_forwarded from id K ≡ true → is_forwarded from id J ≡ true) (λ e. e)
    (λ other index x deliver why e.
    elim (or_cases (is_forwarded from id J) (same_transfer from id other x.id) (sym (list_any_push (forwards from id) J (Forwarded other x.id x.cents (deadline s x))) ∙ e)) [
      | inl old ↦ old
      | inr new ↦
          let same : (other ≡ from) × (x.id ≡ id) = same_transfer-true from id other x.id new in
          let none : outcome s O past from id ≡ None = ap (λ p. outcome s O past p id) (sym same.0) ∙ ap (λ (i : List ℕ). outcome s O past other i) (sym same.1) ∙ why.undecided in
          let clash : None ≡ Some o = sym none ∙ is in cc
    ])
    (λ other other_id p why e. sym (list_any_push (forwards from id) J (Booked other other_id p) ∙ or-false (is_forwarded from id J)) ∙ e)

told_more : (J K : List Event) (event : Event) → is_told event ≡ true → OnlyTold J K → OnlyTold J (K ++ event ∷ [])
told_more J K event told so_far = record {
  events = so_far.events ++ event ∷ [];
  appended = ap (λ H. H ++ event ∷ []) so_far.appended ∙ append_assoc J so_far.events (event ∷ []);
  told = Each_push (λ e. is_told e ≡ true) so_far.events event so_far.told told;
}

pub only_told : (s : HubSettings) (O : Opening) (L M : List Step) → OnlyTells M → (p : ℕ) → OnlyTold (history s O L p) (history s O (M ++ L) p)
only_told s O L [] tells p = record { events = []; appended = sym (append-nil (history s O L p)); told = tt }
only_told s O L (step ∷ M) tells p =
    let J : List Event = history s O L p in
    let so_far : OnlyTold J (history s O (M ++ L) p) = only_told s O L M tells.1 p in
    by_telling s O step (M ++ L) p tells.0 (λ K. OnlyTold J K) so_far
    (λ from index x is why. told_more J (history s O (M ++ L) p) (Forwarded from x.id x.cents (deadline s x)) refl so_far)
    (λ from id o why. told_more J (history s O (M ++ L) p) (Booked from id o) refl so_far)
