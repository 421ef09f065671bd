-- A history grows by at most one event a step; which, and why.
use Rattle.std.proofs.Common.{◌≡◌, ℕ, true, false, ltb, List, [], ◌∷◌, ◌++◌, length, take, Option, Some, None, refl, sym, subst, ◌∙◌, inl, inr, ◌⊎◌, append-nil}
use Rattle.std.proofs.lemmas.Bool.{or_left, or_right}
use Rattle.inst_command.specs.declared.funding.Funding.{Funding}
use Rattle.inst_model.specs.Opening.{Opening, beginning}
use Rattle.inst_settings.specs.Settings.{HubSettings, same_text}
use Rattle.inst_command.specs.declared.ask.Ask.{Ask as AskValue}
use Rattle.inst_command.specs.declared.command.Command.TheVariants.{Fund, Defund, Submit, Fetch}
use Rattle.inst_command.specs.declared.entry.Entry.{Entry}
use Rattle.inst_command.specs.declared.outcome.Outcome.{Outcome}
use Rattle.inst_command.specs.declared.step.Step.{Step}
use Rattle.inst_command.specs.declared.step.Step.TheVariants.{Ask, Deliver}
use Rattle.inst_journal.specs.declared.event.Event.{Event}
use Rattle.inst_journal.specs.declared.event.Event.TheVariants.{Funded, Defunded, Taken, Forwarded, Booked, Fetched, Opened}
use Rattle.inst_journal.specs.Booked.{is_taken, is_forwarded, booked}
use Rattle.inst_journal.specs.Money.{available}
use Rattle.inst_journal.specs.Opened.{is_opening}
use Rattle.inst_journal.specs.Reply.{unread}
use Rattle.inst_model.specs.Transfer.{Transfer, transfers, at_place, deadline}
use Rattle.inst_model.specs.Found.{found}
use Rattle.inst_model.specs.View.{Seen, sees}
use Rattle.inst_model.specs.Kept.{events_of_entry, with_entries}
use Rattle.inst_model.specs.Hub.{decided, view, outcome, history}
use Rattle.inst_model.proofs.TextsTestsAndFirstThings.{Each, Each_weaker, Each_at, same_text_refl}
use Rattle.inst_model.proofs.KeptCases.{FundKept, TakenKept, kept_cases}
use Rattle.inst_model.proofs.Transfers.{place_there}
use Rattle.inst_model.proofs.Steps.{Comes, sees_cases}

pub with_entries-append : (s : HubSettings) (p : ℕ) (J : List Event) (v w : List Seen) → with_entries s p J (v ++ w) ≡ with_entries s p (with_entries s p J v) w
with_entries-append s p J [] w = refl
with_entries-append s p J (seen ∷ v) w = with_entries-append s p (J ++ events_of_entry s p J seen) v w

each_taken : (J : List Event) → Each (λ (x : Transfer). is_taken x.id J ≡ true) (transfers J)
each_taken [] = tt
each_taken (Taken id to cents stamp ∷ J) = (
  or_left (same_text id id) (is_taken id J) (same_text_refl id),
  Each_weaker (λ (x : Transfer). is_taken x.id J ≡ true) (λ (x : Transfer). is_taken x.id (Taken id to cents stamp ∷ J) ≡ true) (transfers J)
      (λ x e. or_right (same_text id x.id) (is_taken x.id J) e) (each_taken J),
)
each_taken (Funded funding ∷ J) = each_taken J
each_taken (Defunded funding ∷ J) = each_taken J
each_taken (Forwarded from id cents deadline ∷ J) = each_taken J
each_taken (Booked from id o ∷ J) = each_taken J
each_taken (Fetched count ∷ J) = each_taken J
each_taken (Opened ∷ J) = each_taken J

-- what stands at a place is taken
pub at_place_taken : (who : ℕ) (J : List Event) (k : ℕ) (x : Transfer) → at_place who J k ≡ Some x → is_taken x.id J ≡ true
at_place_taken who J k x e = let there = place_there who J k x e in Each_at (λ (x : Transfer). is_taken x.id J ≡ true) (transfers J) there.0 x (each_taken J) there.1

-- why an outcome is booked
pub record Books (s : HubSettings) (J : ℕ → List Event) (before : ℕ → List ℕ → Option Outcome) (step : Step) (p from : ℕ) (id : List ℕ) (o : Outcome) : Type 0 where
  pub outcome_is : decided s J before step from id ≡ Some o
  pub new : booked from id (J p) ≡ None
  pub party : ((from ≡ p) × (is_taken id (J p) ≡ true)) ⊎ (is_forwarded from id (J p) ≡ true)

-- the history of p after a step, case by case
pub record Grows (s : HubSettings) (J : ℕ → List Event) (before : ℕ → List ℕ → Option Outcome) (step : Step) (p : ℕ) (Q : List Event → Type 0) : Type 0 where
  pub nothing : Q (J p)
  pub funds : (ask : AskValue) (funding : Funding) → step ≡ Ask ask → ask.command ≡ Fund funding →
      FundKept s (J p) funding.reference → Q (J p ++ Funded funding ∷ [])
  pub defunds : (ask : AskValue) (funding : Funding) → step ≡ Ask ask → ask.command ≡ Defund funding →
      FundKept s (J p) funding.reference → ltb (available (J p)) funding.cents ≡ false → Q (J p ++ Defunded funding ∷ [])
  pub takes : (ask : AskValue) (id : List ℕ) (to cents stamp : ℕ) → step ≡ Ask ask → ask.command ≡ Submit (record { id = id; to = to; cents = cents; stamp = stamp }) →
      TakenKept s p (J p) id to cents → Q (J p ++ Taken id to cents stamp ∷ [])
  pub forwards : (from index : ℕ) (x : Transfer) → step ≡ Deliver from index p → Comes s before from p (J from) (J p) index x →
      Q (J p ++ Forwarded from x.id x.cents (deadline s x) ∷ [])
  pub books : (from : ℕ) (id : List ℕ) (o : Outcome) → Books s J before step p from id o → Q (J p ++ Booked from id o ∷ [])
  pub hands_out : (ask : AskValue) (max : ℕ) (entry : Entry) (entries : List Entry) → step ≡ Ask ask → ask.command ≡ Fetch max →
      take max (unread (J p)) ≡ entry ∷ entries → Q (J p ++ Fetched (length (entry ∷ entries)) ∷ [])

-- the history of p after a step
abbrev pub next : HubSettings → (ℕ → List Event) → (ℕ → List ℕ → Option Outcome) → Step → ℕ → List Event
next s J before step p = with_entries s p (J p) (sees s J before (decided s J before step) step p)

pub grows : (s : HubSettings) (J : ℕ → List Event) (before : ℕ → List ℕ → Option Outcome) (step : Step) (p : ℕ) (Q : List Event → Type 0) → Grows s J before step p Q → Q (next s J before step p)
grows s J before step p Q c =
    sees_cases s J before step p (λ v. Q (with_entries s p (J p) v)) (record {
      nothing = c.nothing;
      asked = λ ask is who. kept_cases s p (J p) ask.command ask.at (found (decided s J before step) p (J p) ask.command) (λ events. Q (J p ++ events)) (record {
        nothing = subst Q (sym (append-nil (J p))) c.nothing;
        funds = λ funding command why. c.funds ask funding is command why;
        defunds = λ funding command why cover. c.defunds ask funding is command why cover;
        takes = λ x command why. c.takes ask x.id x.to x.cents x.stamp is command why;
        books = λ from id o why. c.books from id o (record { outcome_is = sym (why.named (decided s J before step)) ∙ why.found_here; new = why.new; party = why.party });
        hands_out = λ max entry entries command some. c.hands_out ask max entry entries is command some;
      });
      came = λ from index x is why. c.forwards from index x is why;
      told = λ from index x o why. c.books from x.id o (record {
        outcome_is = why.outcome;
        new = why.new;
        party = elim why.party [
          | inl same ↦ inl (sym same, at_place_taken p (J p) index x (subst (λ (q : ℕ). at_place q (J q) index ≡ Some x) (sym same) why.there))
          | inr there ↦ inr there
        ];
      });
    })

pub history_step : (s : HubSettings) (O : Opening) (step : Step) (past : List Step) (p : ℕ) → history s O (step ∷ past) p ≡ next s (history s O past) (outcome s O past) step p
history_step s O step past p = with_entries-append s p (beginning O p) (view s O past p) (sees s (history s O past) (outcome s O past) (decided s (history s O past) (outcome s O past) step) step p)

-- what holds after a step, case by case
pub by_step : (s : HubSettings) (O : Opening) (step : Step) (past : List Step) (p : ℕ) (Q : List Event → Type 0) → Grows s (history s O past) (outcome s O past) step p Q → Q (history s O (step ∷ past) p)
by_step s O step past p Q c = subst Q (sym (history_step s O step past p)) (grows s (history s O past) (outcome s O past) step p Q c)

-- what one more event leaves true, a step leaves true
pub persists : (s : HubSettings) (J : ℕ → List Event) (before : ℕ → List ℕ → Option Outcome) (step : Step) (p : ℕ) (P : List Event → Type 0) → ((K : List Event) (event : Event) → P K → P (K ++ event ∷ [])) → P (J p) → P (next s J before step p)
persists s J before step p P more here =
    grows s J before step p P (record {
      nothing = here;
      funds = λ ask funding is command why. more (J p) (Funded funding) here;
      defunds = λ ask funding is command why cover. more (J p) (Defunded funding) here;
      takes = λ ask id to cents stamp is command why. more (J p) (Taken id to cents stamp) here;
      forwards = λ from index x is why. more (J p) (Forwarded from x.id x.cents (deadline s x)) here;
      books = λ from id o why. more (J p) (Booked from id o) here;
      hands_out = λ ask max entry entries is command some. more (J p) (Fetched (length (entry ∷ entries))) here;
    })

-- the same of an event that is no opening, as no step leaves one
pub persists_within : (s : HubSettings) (J : ℕ → List Event) (before : ℕ → List ℕ → Option Outcome) (step : Step) (p : ℕ) (P : List Event → Type 0) → ((K : List Event) (event : Event) → is_opening event ≡ false → P K → P (K ++ event ∷ [])) → P (J p) → P (next s J before step p)
persists_within s J before step p P more here =
    grows s J before step p P (record {
      nothing = here;
      funds = λ ask funding is command why. more (J p) (Funded funding) refl here;
      defunds = λ ask funding is command why cover. more (J p) (Defunded funding) refl here;
      takes = λ ask id to cents stamp is command why. more (J p) (Taken id to cents stamp) refl here;
      forwards = λ from index x is why. more (J p) (Forwarded from x.id x.cents (deadline s x)) refl here;
      books = λ from id o why. more (J p) (Booked from id o) refl here;
      hands_out = λ ask max entry entries is command some. more (J p) (Fetched (length (entry ∷ entries))) refl here;
    })

pub persists_step_within : (s : HubSettings) (O : Opening) (step : Step) (past : List Step) (p : ℕ) (P : List Event → Type 0) → ((K : List Event) (event : Event) → is_opening event ≡ false → P K → P (K ++ event ∷ [])) → P (history s O past p) → P (history s O (step ∷ past) p)
persists_step_within s O step past p P more here = subst P (sym (history_step s O step past p)) (persists_within s (history s O past) (outcome s O past) step p P more here)

pub persists_step : (s : HubSettings) (O : Opening) (step : Step) (past : List Step) (p : ℕ) (P : List Event → Type 0) → ((K : List Event) (event : Event) → P K → P (K ++ event ∷ [])) → P (history s O past p) → P (history s O (step ∷ past) p)
persists_step s O step past p P more here = subst P (sym (history_step s O step past p)) (persists s (history s O past) (outcome s O past) step p P more here)
