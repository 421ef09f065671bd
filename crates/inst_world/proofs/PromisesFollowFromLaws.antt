-- What the hub promises of each run follows from the laws of the model.
use Rattle.std.proofs.Common.{◌≡◌, ℕ, zero, suc, ◌+◌, ◌≤◌, ◌<◌, pos, ℤ, ◌+ℤ◌, true, List, [], ◌∷◌, ◌++◌, length, reverse, take, drop, Some, is_some, refl, sym, ap, subst, ◌∙◌, inl, inr, ◌⊎◌, ⊎_elim, arith, Contains}
use Rattle.std.specs.Prelude.{slice_get}
use Rattle.std.proofs.lemmas.Bool.{cases_Bool, ltb-true, ltb-false, lt-ltb}
use Rattle.std.proofs.lemmas.List.{reverse-append, reverse-reverse, length-reverse, take-append-drop}
use Rattle.std.proofs.lemmas.List.Elements.{Contains-append_left, Contains-append_right}
use Rattle.std.proofs.lemmas.Option.{slice_get_cases, slice_get_past, none-some}
use Rattle.inst_base.proofs.Lists.{snoc_cases}
use Rattle.inst_settings.specs.Settings.{HubSettings, participants, is_participant}
use Rattle.inst_command.specs.declared.outcome.Outcome.{Outcome}
use Rattle.inst_command.specs.declared.outcome.Outcome.TheVariants.{Accepted}
use Rattle.inst_command.specs.declared.outcome.State.TheVariants.{Decided}
use Rattle.inst_command.specs.declared.reply.Answer.{Answer}
use Rattle.inst_command.specs.declared.reply.Answer.TheVariants.{Reply}
use Rattle.inst_command.specs.declared.reply.Reply.TheVariants.{State}
use Rattle.inst_command.specs.declared.step.Step.{Step}
use Rattle.inst_command.specs.declared.step.Step.TheVariants.{Ask, Deliver, Learn, Expire}
use Rattle.inst_journal.specs.declared.event.Event.{Event}
use Rattle.inst_journal.specs.declared.event.Event.TheVariants.{Taken, Forwarded, Booked}
use Rattle.inst_journal.specs.Booked.{booked}
use Rattle.inst_journal.specs.Covered.{IsNeverOverdrawn}
use Rattle.inst_journal.specs.Money.{reserved, position, available}
use Rattle.inst_journal.specs.Sound.{Fits, IsSound}
use Rattle.inst_journal.specs.Statement.{statement}
use Rattle.inst_journal.specs.Sums.{net, reservation}
use Rattle.inst_model.specs.Conservation.{IsConserved}
use Rattle.inst_journal.proofs.Soundness.{sound_induction}
use Rattle.inst_model.specs.Fit.{BooksFit}
use Rattle.inst_model.specs.Hub.{outcome, history}
use Rattle.inst_model.specs.Interleaving.{IsInterleaving}
use Rattle.inst_model.specs.Isolation.{SameFor}
use Rattle.inst_model.specs.Once.{IsSettledOnce}
use Rattle.inst_model.specs.Opening.{Opening, IsOpening}
use Rattle.inst_model.specs.Trace.{answer, trace, own_answers, replies}
use Rattle.inst_model.specs.Transfer.{Transfer, transfer}
use Rattle.inst_model.specs.Untold.{signed_sum_below, sum_over_participants, if_untold, signed_total, untold_by, untold}
use Rattle.inst_model.proofs.HistoriesAgreeWithOutcomes.{nothing_untold}
use Rattle.inst_model.proofs.ConservationOfMoney.{money_is_conserved, plus_nothing}
use Rattle.inst_model.proofs.HistoriesFitOneAnother.{histories_are_sound, histories_fit}
use Rattle.inst_model.proofs.RepliesFromViewAlone.{isolated}
use Rattle.inst_model.proofs.OutcomeFromOwnSteps.{outcome_is_local}
use Rattle.inst_model.proofs.Histories.{persists_step}
use Rattle.inst_model.proofs.Outcomes.{answered_is_the_outcome, booked_is_the_outcome, outcome_stays}
use Rattle.inst_model.proofs.MoneySettledAtMostOnce.{money_is_settled_once}
use Rattle.inst_model.proofs.EntriesAndRepliesOfSteps.{replies_are_in_the_trace}
use Rattle.inst_model.proofs.Totals.{sum_below_same, sum_below_zero}
use Rattle.inst_slot.specs.Book.{events_of, Book}
use Rattle.inst_world.specs.HasRun.{World, world_settings, HasRun, IsWorld, journal_of}
use Rattle.inst_world.specs.Headline.{Run, run_of, IsRun, SeesTheSame, GotTheSame, IsIsolated, HasOneOutcome, SettlesOnce, AddsUp, BooksOfFit, IsLocal, KeepsTheHeadline}

module _ (s : HubSettings) (run : Run) (is : IsRun s run) where
  -- the replies among the answers are the model's
  own_are : (p : ℕ) → own_answers p run.steps run.answers ≡ replies s run.opening (reverse run.steps) p
  own_are p =
      ap (own_answers p run.steps) is.answers_are
      ∙ ap (λ (xs : List Step). own_answers p xs (trace s run.opening (reverse run.steps))) (sym (reverse-reverse run.steps))
      ∙ (replies_are_in_the_trace s run.opening (reverse run.steps) p).1

got : (s : HubSettings) (one other : Run) → IsRun s one → IsRun s other → (p : ℕ) → is_participant s p ≡ true → SeesTheSame s p one.opening other.opening one.steps other.steps → GotTheSame p one other
got s one other is_one is_other p number saw =
    let law : SameFor s one.opening other.opening (reverse one.steps) (reverse other.steps) p =
    isolated s one.opening other.opening (reverse one.steps) (reverse other.steps) p saw.same_beginning saw.same_view in
    let same : one.journals p ≡ other.journals p =
    is_one.journals_are p number ∙ law.same_history ∙ sym (is_other.journals_are p number) in
    record {
      same_replies = own_are s one is_one p ∙ law.same_replies ∙ sym (own_are s other is_other p);
      same_history = same;
      same_position = ap position same;
      same_reserved = ap reserved same;
      same_available = ap available same;
      same_statement = ap statement same;
    }

is_isolated : (s : HubSettings) (run : Run) → IsRun s run → IsIsolated s run
is_isolated s run is other is_other p one saw = got s run other is is_other p one saw

-- an answer of the trace is that to a step
pub record AnswersAt (s : HubSettings) (O : Opening) (L : List Step) (k : ℕ) (answered : Answer) : Type 0 where
  pub step : Step
  pub past : List Step
  pub later : List Step
  pub whole : L ≡ later ++ step ∷ past
  pub before : length past ≡ k
  pub is : answered ≡ answer s O past step

trace_at : (s : HubSettings) (O : Opening) (L : List Step) (k : ℕ) (answered : Answer) → slice_get (trace s O L) k ≡ Some answered → AnswersAt s O L k answered
trace_at s O [] k answered e = let no : ⊥ = cc in absurd no
trace_at s O (step ∷ past) k answered e = elim (snoc_cases (trace s O past) (answer s O past step) answered k e) [
  | inl old ↦
      let at : AnswersAt s O past k answered = trace_at s O past k answered old in
      record { step = at.step; past = at.past; later = step ∷ at.later; whole = ap (λ (xs : List Step). step ∷ xs) at.whole; before = at.before; is = at.is }
  | inr new ↦ record {
    step = step;
    past = past;
    later = [];
    whole = refl;
    before = sym ((replies_are_in_the_trace s O past 0).0) ∙ sym new.0;
    is = sym new.1;
  }
]

take_front : {A : Type 0} (xs ys : List A) → take (length xs) (xs ++ ys) ≡ xs
take_front [] ys = refl
take_front (x ∷ xs) ys = ap (λ l. x ∷ l) (take_front xs ys)

-- the steps up to one of them, the newest in front
steps_to : (steps later past : List Step) (step : Step) (k : ℕ) → reverse steps ≡ later ++ step ∷ past → length past ≡ k → reverse (take (k + 1) steps) ≡ step ∷ past
steps_to steps later past step k whole before =
    let L : List Step = step ∷ past in
    let are : steps ≡ reverse L ++ reverse later = sym (reverse-reverse steps) ∙ ap (λ (xs : List Step). reverse xs) whole ∙ reverse-append later L in
    let long : length (reverse L) ≡ k + 1 = omega (arith, length-reverse L, before) in
    ap (λ (xs : List Step). reverse (take (k + 1) xs)) are
    ∙ ap (λ (n : ℕ). reverse (take n (reverse L ++ reverse later))) (sym long)
    ∙ ap (λ (xs : List Step). reverse xs) (take_front (reverse L) (reverse later))
    ∙ reverse-reverse L

answered_state : (s : HubSettings) (O : Opening) → IsOpening s O → (past : List Step) (step : Step) (from : ℕ) (id : List ℕ) (o : Outcome) → Reply (State from id (Decided o)) ≡ answer s O past step → outcome s O (step ∷ past) from id ≡ Some o
answered_state s O begun past (Ask ask) from id o e = answered_is_the_outcome s O begun past ask from id o (sym e)
answered_state s O begun past (Deliver owner index to) from id o e = let no : ⊥ = cc in absurd no
answered_state s O begun past (Learn who owner index) from id o e = let no : ⊥ = cc in absurd no
answered_state s O begun past (Expire who index at) from id o e = let no : ⊥ = cc in absurd no

-- what a journal has it keeps, whatever steps follow
stays_there : (s : HubSettings) (O : Opening) (later past : List Step) (p : ℕ) (event : Event) → Contains (history s O past p) event → Contains (history s O (later ++ past) p) event
stays_there s O [] past p event held = held
stays_there s O (step ∷ later) past p event held =
    persists_step s O step (later ++ past) p (λ (J : List Event). Contains J event) (λ J last there. Contains-append_left J (last ∷ []) event there)
    (stays_there s O later past p event held)

-- the first k steps and the others
front_and_rest : (steps : List Step) (k : ℕ) → reverse steps ≡ reverse (drop k steps) ++ reverse (take k steps)
front_and_rest steps k = ap (λ (xs : List Step). reverse xs) (sym (take-append-drop k steps)) ∙ reverse-append (take k steps) (drop k steps)

has_one_outcome : (s : HubSettings) (run : Run) → IsRun s run → HasOneOutcome s run
has_one_outcome s run is = record {
  answered = λ k from id o e.
      let at : AnswersAt s run.opening (reverse run.steps) k (Reply (State from id (Decided o))) =
      trace_at s run.opening (reverse run.steps) k (Reply (State from id (Decided o))) (ap (λ (xs : List Answer). slice_get xs k) (sym is.answers_are) ∙ e) in
      ap (λ (L : List Step). outcome s run.opening L from id) (steps_to run.steps at.later at.past at.step k at.whole at.before)
      ∙ answered_state s run.opening is.opens at.past at.step from id o at.is;
  booked_then = λ k p from id o held. booked_is_the_outcome s run.opening is.opens (reverse (take k run.steps)) p from id o held;
  booked_for_good = λ k p from id o one held.
      let there : Contains (history s run.opening (reverse (drop k run.steps) ++ reverse (take k run.steps)) p) (Booked from id o) =
      stays_there s run.opening (reverse (drop k run.steps)) (reverse (take k run.steps)) p (Booked from id o) held in
      let in_the_end : Contains (history s run.opening (reverse run.steps) p) (Booked from id o) =
      subst (λ (L : List Step). Contains (history s run.opening L p) (Booked from id o)) (sym (front_and_rest run.steps k)) there in
      subst (λ (J : List Event). Contains J (Booked from id o)) (sym (is.journals_are p one)) in_the_end;
  booked_is = λ p from id o one held.
      booked_is_the_outcome s run.opening is.opens (reverse run.steps) p from id o
      (subst (λ (J : List Event). Contains J (Booked from id o)) (is.journals_are p one) held);
  for_good = λ k from id o e more.
      ap (λ (L : List Step). outcome s run.opening L from id) (reverse-append (take k run.steps) more)
      ∙ outcome_stays s run.opening (reverse more) (reverse (take k run.steps)) from id o e;
}

-- what has an event is a participant's
held_by : (s : HubSettings) (run : Run) → IsRun s run → (p : ℕ) (event : Event) → Contains (run.journals p) event → is_participant s p ≡ true
held_by s run is p event held = elim (cases_Bool (is_participant s p)) [
  | inl one ↦ one
  | inr none ↦
      absurd (none_there event (subst (λ (J : List Event). Contains J event) (is.nobody_else p none) held))
]
  where
    none_there : (event : Event) → Contains [] event → ⊥
    none_there event there = omega (arith, there.1)

settles_once : (s : HubSettings) (run : Run) → IsRun s run → SettlesOnce s run
settles_once s run is p one =
    subst (λ (J : List Event). IsSettledOnce p J) (sym (is.journals_are p one))
    (money_is_settled_once s run.opening is.opens (reverse run.steps) is.fits p)

signed_same : (n : ℕ) (f g : ℕ → ℤ) → ((k : ℕ) → k < n → f k ≡ g k) → signed_sum_below n f ≡ signed_sum_below n g
signed_same zero f g same = refl
signed_same (suc n) f g same =
    ap (λ (z : ℤ). z +ℤ f n) (signed_same n f g (λ k below. same k (omega arith))) ∙ ap (λ (z : ℤ). signed_sum_below n g +ℤ z) (same n (omega arith))

adds_up : (s : HubSettings) (run : Run) → IsRun s run → AddsUp s run
adds_up s run is = record {
  sum = summed;
  all_told = λ told. summed ∙ plus_nothing (signed_total s (λ p. net (run.journals p))) (untold s O L)
      (sum_below_zero (participants s) (untold_by s O L) (λ p below. nothing_untold (history s O L) (outcome s O L) p
      (λ id o e. subst (λ (J : List Event). is_some (booked p id J) ≡ true) (same p below) (told p id o (lt-ltb p (participants s) below) e))));
  untold_is_reserved = λ p one. subst (λ (J : List Event). untold_by s O L p ≤ reserved J) (sym (is.journals_are p one)) (law.untold_is_reserved p);
  each_untold_is_reserved = λ p id to cents stamp held.
      let event : Event = Taken id to cents stamp in
      let one : is_participant s p ≡ true = held_by s run is p event held in
      let at : List Event → Type 0 = λ J. Contains J event → if_untold (outcome s O L p id) (booked p id J) cents ≤ reservation J event in
      subst at (sym (is.journals_are p one)) (law.each_untold_is_reserved p id to cents stamp) held;
  never_overdrawn = λ p one. subst (λ (J : List Event). IsNeverOverdrawn J) (sym (is.journals_are p one)) (law.never_overdrawn p);
}
  where
    O : Opening
    O = run.opening

    L : List Step
    L = reverse run.steps

    law : IsConserved s O L
    law = money_is_conserved s O is.opens L is.fits

    same : (p : ℕ) → p < participants s → run.journals p ≡ history s O L p
    same p below = is.journals_are p (lt-ltb p (participants s) below)

    summed : pos (sum_over_participants s (λ p. position (run.journals p))) ≡ (signed_total s (λ p. net (run.journals p)) +ℤ pos (untold s O L))
    summed =
        ap pos (sum_below_same (participants s) (λ p. position (run.journals p)) (λ p. position (history s O L p)) (λ p below. ap position (same p below)))
        ∙ law.signed_sum
        ∙ ap (λ (z : ℤ). z +ℤ pos (untold s O L)) (signed_same (participants s) (λ p. net (history s O L p)) (λ p. net (run.journals p)) (λ p below. ap net (sym (same p below))))

-- the event fits a front of the history
pub fitting : (s : HubSettings) (who : ℕ) (J : List Event) → IsSound s who J → (event : Event) → Contains J event → (front : List Event) × Fits s who front event
fitting s who =
    sound_induction s who (λ J. (event : Event) → Contains J event → (front : List Event) × Fits s who front event)
    (λ event there. absurd (omega (arith, there.1)))
    (λ J last sound fits before event there. elim (contains_push J last event there) [
      | inl old ↦ before event old
      | inr new ↦ (J, subst (λ (e : Event). Fits s who J e) new fits)
    ])
  where
    contains_push : (J : List Event) (last event : Event) → Contains (J ++ last ∷ []) event → Contains J event ⊎ (last ≡ event)
    contains_push [] last event (zero, below, is) = inr is
    contains_push [] last event (suc i, below, is) = absurd (omega arith)
    contains_push (x ∷ J) last event (zero, below, is) = inl (zero, omega arith, is)
    contains_push (x ∷ J) last event (suc i, below, is) = ⊎_elim (λ old. inl (Contains-append_right (x ∷ []) J event old)) (λ new. inr new) (contains_push J last event (i, omega arith, is))

books_fit : (s : HubSettings) (run : Run) → IsRun s run → BooksOfFit s run
books_fit s run is = record {
  forwarded_is_taken = λ p from id cents deadline held.
      let event : Event = Forwarded from id cents deadline in
      let came : Contains (H p) event = there event p held in
      let sent = law.forwarded_is_taken p from id cents deadline came in
      let sender : is_participant s from ≡ true = (fitting s p (H p) (sound p) event came).1.originator in
      (sent.0, back (Taken id p cents sent.0) from sender sent.1, sent.2);
  both_book_the_same = λ p q from id o other held also.
      law.both_book_the_same p q from id o other (there (Booked from id o) p held) (there (Booked from id other) q also);
  paid_is_received = λ from id to cents stamp held paid.
      let event : Event = Taken id to cents stamp in
      let sent : Contains (H from) event = there event from held in
      let receiver : is_participant s to ≡ true = (fitting s from (H from) (sound from) event sent).1.beneficiary in
      back (Booked from id Accepted) to receiver (law.paid_is_received from id to cents stamp sent (there (Booked from id Accepted) from paid));
}
  where
    H : ℕ → List Event
    H = history s run.opening (reverse run.steps)

    law : BooksFit s H
    law = histories_fit s run.opening is.opens (reverse run.steps) is.fits

    sound : (p : ℕ) → IsSound s p (H p)
    sound = histories_are_sound s run.opening is.opens (reverse run.steps) is.fits

    there : (event : Event) (p : ℕ) → Contains (run.journals p) event → Contains (H p) event
    there event p held = subst (λ (J : List Event). Contains J event) (is.journals_are p (held_by s run is p event held)) held

    back : (event : Event) (p : ℕ) → is_participant s p ≡ true → Contains (H p) event → Contains (run.journals p) event
    back event p one held = subst (λ (J : List Event). Contains J event) (sym (is.journals_are p one)) held

-- a transfer that a journal has is a participant's
taken_by : (s : HubSettings) (run : Run) → IsRun s run → (p : ℕ) (id : List ℕ) (x : Transfer) → transfer id (run.journals p) ≡ Some x → is_participant s p ≡ true
taken_by s run is p id x found = elim (cases_Bool (is_participant s p)) [
  | inl one ↦ one
  | inr none ↦
      let no : transfer id [] ≡ Some x = sym (ap (transfer id) (is.nobody_else p none)) ∙ found in
      absurd (none-some x no)
]

is_local : (s : HubSettings) (run : Run) → IsRun s run → IsLocal s run
is_local s run is other is_other p id x begin found also same =
    let one : is_participant s p ≡ true = taken_by s run is p id x found in
    outcome_is_local s run.opening other.opening (reverse run.steps) (reverse other.steps) p id x
    is.opens is_other.opens is.fits is_other.fits begin
    (ap (transfer id) (sym (is.journals_are p one)) ∙ found)
    (ap (transfer id) (sym (is_other.journals_are p one)) ∙ also)
    same

pub keeps_the_headline : (s : HubSettings) (run : Run) → IsRun s run → KeepsTheHeadline s run
keeps_the_headline s run is = record {
  is_run = is;
  isolation = is_isolated s run is;
  one_outcome = has_one_outcome s run is;
  once = settles_once s run is;
  sums = adds_up s run is;
  fit = books_fit s run is;
  locality = is_local s run is;
}

-- the hub has a book for each participant, and for nobody else
module _ (s : HubSettings) (O : Opening) (steps : List Step) (world : World) (answers : List Answer) (same : world_settings world ≡ s) (whole : IsWorld world) where
  number : length world.books ≡ participants s
  number = whole.one_each ∙ ap participants same

  there_is : (p : ℕ) → is_participant s p ≡ true → (book : Book) × (slice_get world.books p ≡ Some book)
  there_is p one =
      let below : p < length world.books = omega (arith, ltb-true p (participants s) one, number) in
      elim ((slice_get_cases world.books p).1) [
        | inl found ↦ (found.0, found.2)
        | inr past ↦ absurd (omega (arith, past, below))
      ]

  -- what it returns after the steps is a run
  pub is_run : HasRun O (reverse steps) world → answers ≡ trace s O (reverse steps) → IsRun s (run_of O steps (journal_of world) answers)
  is_run ran answered = record {
    opens = subst (λ (t : HubSettings). IsOpening t O) same ran.opening;
    fits = subst (λ (t : HubSettings). IsInterleaving t (reverse steps)) same ran.steps;
    journals_are = λ p one.
        let found = there_is p one in
        ap events_of found.1 ∙ ran.histories p found.0 found.1 ∙ ap (λ (t : HubSettings). history t O (reverse steps) p) same;
    nobody_else = λ p none. ap events_of (slice_get_past world.books p (omega (arith, ltb-false p (participants s) none, number)));
    answers_are = answered;
  }
