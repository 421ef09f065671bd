-- A party that learns of a decided transfer has it booked; what is pending is delivered, and nothing decided is.
use Rattle.std.proofs.Common.{◌≡◌, ℕ, Bool, true, false, ◌&&◌, ◌||◌, not, is_none, cond, eqb, List, [], ◌∷◌, ◌++◌, Option, Some, None, refl, ap, ◌∙◌, inl, inr, ◌⊎◌}
use Rattle.std.proofs.lemmas.Bool.{cond-true, or_left, or_right, eq-eqb}
use Rattle.inst_settings.specs.Settings.{HubSettings}
use Rattle.inst_command.specs.declared.outcome.Outcome.{Outcome}
use Rattle.inst_command.specs.declared.step.Step.{Step}
use Rattle.inst_command.specs.declared.step.Step.TheVariants.{Deliver, Learn, Expire}
use Rattle.inst_journal.specs.declared.event.Event.{Event}
use Rattle.inst_journal.specs.declared.event.Event.TheVariants.{Forwarded}
use Rattle.inst_journal.specs.Booked.{is_forwarded, forwards, booked}
use Rattle.inst_journal.proofs.OneMoreElement.{list_any_push}
use Rattle.inst_model.specs.Opening.{Opening}
use Rattle.inst_model.specs.Transfer.{Transfer, at_place, deadline}
use Rattle.inst_model.specs.View.{comes, news, tells, sees}
use Rattle.inst_model.specs.View.Seen.{Came}
use Rattle.inst_model.specs.Kept.{with_entries}
use Rattle.inst_model.specs.Hub.{decided, outcome, history}
use Rattle.inst_model.specs.Trace.{is_some_entry}
use Rattle.inst_model.specs.Learning.{LearningBooks, ExpiryBooks, DeliveryForwards, NothingDecidedIsDelivered}
use Rattle.inst_model.proofs.TextsTestsAndFirstThings.{eqb_refl, same_transfer_refl}
use Rattle.inst_model.proofs.HistoryKeepsWhatItHas.{booked_kept, booked_new}
use Rattle.inst_model.proofs.Histories.{history_step, persists_step}
use Rattle.inst_model.proofs.Outcomes.{booked_outcome}

-- the news of a transfer leaves its outcome booked
news_books : (s : HubSettings) (who p : ℕ) (id : List ℕ) (J : List Event) (o : Outcome) (known : Option Outcome) → booked p id J ≡ known → ((q : Outcome) → known ≡ Some q → q ≡ o) → booked p id (with_entries s who J (news p id (Some o) known)) ≡ Some o
news_books s who p id J o None is same = booked_new p id o J is
news_books s who p id J o (Some q) is same = is ∙ ap Some (same q refl)

-- what a party is told of the transfer that stands there
told_there : (outcomes : ℕ → List ℕ → Option Outcome) (who p : ℕ) (J : List Event) (there : Option Transfer) (x : Transfer) (o : Outcome) → there ≡ Some x → outcomes p x.id ≡ Some o
    → (who ≡ p) ⊎ (is_forwarded p x.id J ≡ true) → tells outcomes p who J there ≡ news p x.id (Some o) (booked p x.id J)
told_there outcomes who p J there x o stands is party =
    let is_party : (eqb who p || is_forwarded p x.id J) ≡ true = elim party [
      | inl own ↦ or_left (eqb who p) (is_forwarded p x.id J) (eq-eqb who p own)
      | inr forwarded ↦ or_right (eqb who p) (is_forwarded p x.id J) forwarded
    ] in
    ap (tells outcomes p who J) stands ∙ cond-true (eqb who p || is_forwarded p x.id J) (news p x.id (outcomes p x.id) (booked p x.id J)) [] is_party
    ∙ ap (λ out. news p x.id out (booked p x.id J)) is

booked_after : (s : HubSettings) (O : Opening) (past : List Step) (step : Step) (who p : ℕ) (x : Transfer) (o : Outcome)
    → sees s (history s O past) (outcome s O past) (decided s (history s O past) (outcome s O past) step) step who ≡ news p x.id (Some o) (booked p x.id (history s O past who))
    → ((q : Outcome) → booked p x.id (history s O past who) ≡ Some q → q ≡ o) → booked p x.id (history s O (step ∷ past) who) ≡ Some o
booked_after s O past step who p x o seen same =
    let J = history s O past in
    ap (booked p x.id) (history_step s O step past who ∙ ap (with_entries s who (J who)) seen)
    ∙ news_books s who p x.id (J who) o (booked p x.id (J who)) refl same

pub learning_books : LearningBooks
learning_books s O opened past who p index x o stands is party =
    let J = history s O past in
    booked_after s O past (Learn who p index) who p x o
    (ap (λ b. cond b (tells (outcome s O past) p who (J who) (at_place p (J p) index)) []) (eqb_refl who)
    ∙ told_there (outcome s O past) who p (J who) (at_place p (J p) index) x o stands is party)
    (λ q known. let was : outcome s O past p x.id ≡ Some q = booked_outcome s O opened past who p x.id q known in cc)

pub expiry_books : ExpiryBooks
expiry_books s O opened past p index at x o stands is =
    let J = history s O past in
    let after = decided s J (outcome s O past) (Expire p index at) in
    booked_after s O past (Expire p index at) p p x o
    (ap (λ b. cond b (tells after p p (J p) (at_place p (J p) index)) []) (eqb_refl p)
    ∙ told_there after p p (J p) (at_place p (J p) index) x o stands is (inl refl))
    (λ q known.
    let later : booked p x.id (history s O (Expire p index at ∷ past) p) ≡ Some q = booked_later s O past (Expire p index at) p p x.id q known in
    let was : outcome s O (Expire p index at ∷ past) p x.id ≡ Some q = booked_outcome s O opened (Expire p index at ∷ past) p p x.id q later in cc)
  where
    booked_later : (s : HubSettings) (O : Opening) (past : List Step) (step : Step) (who p : ℕ) (id : List ℕ) (q : Outcome) → booked p id (history s O past who) ≡ Some q → booked p id (history s O (step ∷ past) who) ≡ Some q
    booked_later s O past step who p id q known = persists_step s O step past who (λ K. booked p id K ≡ Some q) (booked_kept p id q) known

-- what comes of the transfer that stands there
comes_there : (s : HubSettings) (outcomes : ℕ → List ℕ → Option Outcome) (p who : ℕ) (J : List Event) (there : Option Transfer) (x : Transfer) → there ≡ Some x
    → comes s outcomes p who J there ≡ cond ((eqb x.to who && is_none (outcomes p x.id)) && not (is_forwarded p x.id J)) (Came p x.id x.cents (deadline s x) ∷ []) []
comes_there s outcomes p who J there x stands = ap (comes s outcomes p who J) stands

forwarded_new : (s : HubSettings) (p : ℕ) (J : List Event) (x : Transfer) → is_forwarded p x.id (J ++ Forwarded p x.id x.cents (deadline s x) ∷ []) ≡ true
forwarded_new s p J x =
    list_any_push (forwards p x.id) J (Forwarded p x.id x.cents (deadline s x))
    ∙ or_right (is_forwarded p x.id J) (forwards p x.id (Forwarded p x.id x.cents (deadline s x))) (same_transfer_refl p x.id)

pub delivery_forwards : DeliveryForwards
delivery_forwards s O past p index x stands none =
    let J = history s O past in
    let seen : sees s J (outcome s O past) (decided s J (outcome s O past) (Deliver p index x.to)) (Deliver p index x.to) x.to
    ≡ cond (not (is_forwarded p x.id (J x.to))) (Came p x.id x.cents (deadline s x) ∷ []) [] =
    ap (λ b. cond b (comes s (outcome s O past) p x.to (J x.to) (at_place p (J p) index)) []) (eqb_refl x.to)
    ∙ comes_there s (outcome s O past) p x.to (J x.to) (at_place p (J p) index) x stands
    ∙ ap (λ b. cond ((b && is_none (outcome s O past p x.id)) && not (is_forwarded p x.id (J x.to))) (Came p x.id x.cents (deadline s x) ∷ []) []) (eqb_refl x.to)
    ∙ ap (λ (out : Option Outcome). cond (is_none out && not (is_forwarded p x.id (J x.to))) (Came p x.id x.cents (deadline s x) ∷ []) []) none in
    ap (is_forwarded p x.id) (history_step s O (Deliver p index x.to) past x.to ∙ ap (with_entries s x.to (J x.to)) seen)
    ∙ cases (J x.to) (is_forwarded p x.id (J x.to)) refl
  where
    cases : (K : List Event) (b : Bool) → is_forwarded p x.id K ≡ b → is_forwarded p x.id (with_entries s x.to K (cond (not b) (Came p x.id x.cents (deadline s x) ∷ []) [])) ≡ true
    cases K true is = is
    cases K false is = forwarded_new s p K x

pub nothing_decided_is_delivered : NothingDecidedIsDelivered
nothing_decided_is_delivered s O past p index q x o stands is =
    let J = history s O past in
    let nothing : comes s (outcome s O past) p q (J q) (at_place p (J p) index) ≡ [] =
    comes_there s (outcome s O past) p q (J q) (at_place p (J p) index) x stands
    ∙ ap (λ (out : Option Outcome). cond ((eqb x.to q && is_none out) && not (is_forwarded p x.id (J q))) (Came p x.id x.cents (deadline s x) ∷ []) []) is
    ∙ never (eqb x.to q) (not (is_forwarded p x.id (J q))) in
    ap is_some_entry (ap (λ b. cond b (comes s (outcome s O past) p q (J q) (at_place p (J p) index)) []) (eqb_refl q) ∙ nothing)
  where
    never : (a b : Bool) → cond ((a && false) && b) (Came p x.id x.cents (deadline s x) ∷ []) [] ≡ []
    never true b = refl
    never false b = refl
