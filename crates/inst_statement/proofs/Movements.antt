-- A movement that is read off the events before it makes the line of its event, and moves the position by its amount.
use Rattle.std.proofs.Common.{◌≡◌, ◌≢◌, ℕ, ◌+◌, ◌≤◌, Bool, true, false, cond, List, [], ◌∷◌, ◌++◌, inl, inr, Option, Some, None, is_some, unwrap_or, sum_by, count_by, refl, sym, ap, ◌∙◌, subst, arith}
use Rattle.std.specs.Option.{option_map}
use Rattle.std.proofs.lemmas.Bool.{false≢true, true≢false}
use Rattle.std.proofs.lemmas.List.Sums.{sum_by-cons}
use Rattle.inst_settings.specs.Settings.{HubSettings, same_text}
use Rattle.inst_command.specs.declared.line.Line.{Line}
use Rattle.inst_command.specs.declared.line.LineKind.TheVariants.{Received, Paid}
use Rattle.inst_command.specs.declared.outcome.Outcome.TheVariants.{Accepted, Rejected, TimedOut}
use Rattle.inst_journal.specs.declared.event.Event.{Event}
use Rattle.inst_journal.specs.declared.event.Event.TheVariants.{Funded, Defunded, Taken, Forwarded, Booked, Fetched, Opened}
use Rattle.inst_journal.specs.Booked.{or_else, first_some, takes, forwards, is_forwarded, same_transfer}
use Rattle.inst_journal.specs.Laws.{taking}
use Rattle.inst_journal.specs.Lines.{raised, lowered}
use Rattle.inst_journal.specs.Money.{position}
use Rattle.inst_journal.specs.Sound.{Fits, IsSound}
use Rattle.inst_journal.specs.Statement.{received, paid, line_of, line_of_accepted as accepted_line}
use Rattle.inst_journal.proofs.FirstSome.{first_some-append}
use Rattle.inst_journal.proofs.KeyOnce.{forwarded_once, taken_once}
use Rattle.inst_journal.proofs.StatementLeadsToPosition.{zero_summed}
use Rattle.inst_journal.proofs.PositionAfterEvent.{coming, credited_by, debited_by, position_funded, position_credited, position_debited, position_released}
use Rattle.inst_journal.proofs.OwnBookings.{own_unforwarded}
use Rattle.inst_statement.specs.declared.movement.Movement.{Movement}
use Rattle.inst_statement.specs.KeptLine.{line_name}
use Rattle.inst_statement.specs.inner.Movement.{came, sent, movement_of_accepted, accepted_movement, movement_of}
use Rattle.inst_statement.proofs.AmountAndTermsInHistory.{takes_sent, forwards_came, taken_found, forwarded_found, not_come}

-- the line of a movement of this name
abbrev pub line_told : ℕ → ℕ → List ℕ → Movement → Line
line_told number after id movement = record {
  number = number;
  kind = movement.kind;
  other = movement.other;
  id = id;
  cents = movement.cents;
  position = after;
}

pub map_cond : {A B : Type 0} (h : A → B) (b : Bool) (x : A) → cond b (Some (h x)) None ≡ option_map h (cond b (Some x) None)
map_cond h true x = refl
map_cond h false x = refl

mapped_or : {B C : Type 0} (h : B → C) (o : Option B) (made : Option C) (rest : Option B) → made ≡ option_map h rest → or_else (option_map h o) made ≡ option_map h (or_else o rest)
mapped_or h None made rest same = same
mapped_or h (Some y) made rest same = refl

-- the first of what is made of something else
pub first_mapped : {A B C : Type 0} (f : A → Option C) (g : A → Option B) (h : B → C) → ((x : A) → f x ≡ option_map h (g x)) → (xs : List A) → first_some f xs ≡ option_map h (first_some g xs)
first_mapped f g h made [] = refl
first_mapped f g h made (x ∷ xs) = ap (λ o. or_else o (first_some f xs)) (made x) ∙ mapped_or h (g x) (first_some f xs) (first_some g xs) (first_mapped f g h made xs)

-- what is found in a front is found first
found_in_all : {B : Type 0} (g : Event → Option B) (front : List Event) (x : Event) (rest J : List Event) (y : B) → front ++ x ∷ rest ≡ J → first_some g front ≡ Some y → first_some g J ≡ Some y
found_in_all g front x rest J y all here =
    sym (ap (first_some g) all) ∙ first_some-append g front (x ∷ rest) ∙ ap (λ o. or_else o (first_some g (x ∷ rest))) here

some_of : {A : Type 0} (o : Option A) → is_some o ≡ true → (x : A) × (o ≡ Some x)
some_of None e = absurd (false≢true e)
some_of (Some x) e = (x, refl)

received_made : (number after from : ℕ) (id : List ℕ) (e : Event) → received number after from id e ≡ option_map (λ cents. line_told number after id (record { kind = Received; other = Some from; cents = cents })) (came from id e)
received_made number after from id (Forwarded other_from other cents deadline) = map_cond (λ (c : ℕ). line_told number after id (record { kind = Received; other = Some from; cents = c })) (same_transfer from id other_from other) cents
received_made number after from id (Taken other to cents stamp) = refl
received_made number after from id (Funded funding) = refl
received_made number after from id (Defunded funding) = refl
received_made number after from id (Booked other_from other outcome) = refl
received_made number after from id (Fetched count) = refl
received_made number after from id Opened = refl

paid_made : (number after : ℕ) (id : List ℕ) (e : Event) → paid number after id e ≡ option_map (λ (terms : ℕ × ℕ). line_told number after id (record { kind = Paid; other = Some terms.0; cents = terms.1 })) (sent id e)
paid_made number after id (Taken other to cents stamp) = map_cond (λ (terms : ℕ × ℕ). line_told number after id (record { kind = Paid; other = Some terms.0; cents = terms.1 })) (same_text other id) (to, cents)
paid_made number after id (Forwarded other_from other cents deadline) = refl
paid_made number after id (Funded funding) = refl
paid_made number after id (Defunded funding) = refl
paid_made number after id (Booked other_from other outcome) = refl
paid_made number after id (Fetched count) = refl
paid_made number after id Opened = refl

-- the terms of an accepted transfer, as the front has them
data Terms (s : HubSettings) (who : ℕ) (front : List Event) (from : ℕ) (id : List ℕ) : Type 0 where
  Coming : (cents : ℕ) → first_some (came from id) front ≡ Some cents → from ≢ who → Terms s who front from id
  Own : (to cents : ℕ) → first_some (came from id) front ≡ None → first_some (sent id) front ≡ Some (to, cents) → from ≡ who → Terms s who front from id

terms_there : (s : HubSettings) (who : ℕ) (front : List Event) (from : ℕ) (id : List ℕ) → IsSound s who front → Fits s who front (Booked from id Accepted) → Terms s who front from id
terms_there s who front from id sound fits = elim fits.party [
  | inl own ↦
      let terms = some_of (first_some (sent id) front) (sym (taken_found id front) ∙ own.1) in
      let none : is_forwarded from id front ≡ false = ap (λ f. is_forwarded f id front) own.0 ∙ own_unforwarded s who id front sound in
      Own terms.0.0 terms.0.1 (not_come from id front none) terms.1 own.0
  | inr there ↦
      let cents = some_of (first_some (came from id) front) (sym (forwarded_found from id front) ∙ there) in
      Coming cents.0 cents.1 (λ own. true≢false (sym there ∙ ap (λ f. is_forwarded f id front) own ∙ own_unforwarded s who id front sound))
]

accepted_made : (s : HubSettings) (who : ℕ) (J : List Event) → IsSound s who J → (front : List Event) (from : ℕ) (id : List ℕ) (rest : List Event) → front ++ Booked from id Accepted ∷ rest ≡ J → Terms s who front from id → (number after : ℕ)
    → accepted_line J number after from id ≡ option_map (line_told number after id) (accepted_movement front from id)
accepted_made s who J whole front from id rest all (Coming cents came_is another) number after =
    let in_all : first_some (came from id) J ≡ Some cents = found_in_all (came from id) front (Booked from id Accepted) rest J cents all came_is in
    let there : is_forwarded from id J ≡ true = forwarded_found from id J ∙ ap is_some in_all in
    ap (λ b. cond b (first_some (received number after from id) J) (first_some (paid number after id) J)) there
    ∙ first_mapped (received number after from id) (came from id) (λ c. line_told number after id (record { kind = Received; other = Some from; cents = c })) (received_made number after from id) J
    ∙ ap (option_map (λ c. line_told number after id (record { kind = Received; other = Some from; cents = c }))) in_all
    ∙ sym (ap (λ o. option_map (line_told number after id) (movement_of_accepted from o (first_some (sent id) front))) came_is)
accepted_made s who J whole front from id rest all (Own to cents none_came sent_is own) number after =
    let in_all : first_some (sent id) J ≡ Some (to, cents) = found_in_all (sent id) front (Booked from id Accepted) rest J (to, cents) all sent_is in
    let none : is_forwarded from id J ≡ false = ap (λ f. is_forwarded f id J) own ∙ own_unforwarded s who id J whole in
    ap (λ b. cond b (first_some (received number after from id) J) (first_some (paid number after id) J)) none
    ∙ first_mapped (paid number after id) (sent id) (λ (terms : ℕ × ℕ). line_told number after id (record { kind = Paid; other = Some terms.0; cents = terms.1 })) (paid_made number after id) J
    ∙ ap (option_map (λ (terms : ℕ × ℕ). line_told number after id (record { kind = Paid; other = Some terms.0; cents = terms.1 }))) in_all
    ∙ sym (ap (λ o. option_map (line_told number after id) (movement_of_accepted from o (first_some (sent id) front))) none_came ∙ ap (λ o. option_map (line_told number after id) (movement_of_accepted from None o)) sent_is)

-- the line of an event is that of its movement
pub movement_line : (s : HubSettings) (who : ℕ) (J : List Event) → IsSound s who J → (front : List Event) (x : Event) (rest : List Event) → front ++ x ∷ rest ≡ J → IsSound s who front → Fits s who front x → (number after : ℕ)
    → line_of J number after x ≡ option_map (line_told number after (unwrap_or (line_name x) [])) (movement_of front x)
movement_line s who J whole front (Booked from id Accepted) rest all sound fits number after = accepted_made s who J whole front from id rest all (terms_there s who front from id sound fits) number after
movement_line s who J whole front (Booked from id (Rejected reason)) rest all sound fits number after = refl
movement_line s who J whole front (Booked from id TimedOut) rest all sound fits number after = refl
movement_line s who J whole front (Funded funding) rest all sound fits number after = refl
movement_line s who J whole front (Defunded funding) rest all sound fits number after = refl
movement_line s who J whole front (Taken id to cents stamp) rest all sound fits number after = refl
movement_line s who J whole front (Forwarded from id cents deadline) rest all sound fits number after = refl
movement_line s who J whole front (Fetched count) rest all sound fits number after = refl
movement_line s who J whole front Opened rest all sound fits number after = refl

-- what a key weighs, where it is found
abbrev weight : {V : Type 0} → (V → ℕ) → Option V → ℕ
weight w None = 0
weight w (Some x) = w x

-- the sum over what passes a test once is the weight of the first
once_summed : {V : Type 0} (p : Event → Bool) (v : Event → ℕ) (g : Event → Option V) (w : V → ℕ) → ((e : Event) → cond (p e) (v e) 0 ≡ weight w (g e)) → ((e : Event) → p e ≡ is_some (g e)) → (J : List Event) → count_by p J ≤ 1
    → sum_by (λ e. cond (p e) (v e) 0) J ≡ weight w (first_some g J)
once_summed p v g w weighs finds [] few = refl
once_summed {V} p v g w weighs finds (event ∷ J) few =
    let counted : count_by p (event ∷ J) ≡ cond (p event) 1 0 + count_by p J = sum_by-cons (λ e. cond (p e) 1 0) event J in
    let summed : sum_by (λ e. cond (p e) (v e) 0) (event ∷ J) ≡ cond (p event) (v event) 0 + sum_by (λ e. cond (p e) (v e) 0) J = sum_by-cons (λ e. cond (p e) (v e) 0) event J in
    summed ∙ ap (λ n. n + sum_by (λ e. cond (p e) (v e) 0) J) (weighs event) ∙ go (once_summed p v g w weighs finds J) (g event) (finds event) (omega (arith, counted, few))
  where
    go : (count_by p J ≤ 1 → sum_by (λ e. cond (p e) (v e) 0) J ≡ weight w (first_some g J)) → (o : Option V) → p event ≡ is_some o → cond (p event) 1 0 + count_by p J ≤ 1 → weight w o + sum_by (λ e. cond (p e) (v e) 0) J ≡ weight w (or_else o (first_some g J))
    go later None is fewer = omega (arith, later (omega (arith, fewer)))
    go later (Some y) is fewer =
        let one : cond (p event) 1 0 ≡ 1 = ap {B = ℕ} (λ b. cond b 1 0) is in
        omega (arith, zero_summed p v J (omega (arith, one, fewer)))

-- how a movement moves the position
abbrev pub Moves : ℕ → ℕ → Option Movement → Type 0
Moves before after None = after ≡ before
Moves before after (Some movement) = after + lowered movement.kind movement.cents ≡ before + raised movement.kind movement.cents

came_weighs : (from : ℕ) (id : List ℕ) (e : Event) → cond (forwards from id e) (coming e) 0 ≡ weight (λ cents. cents) (came from id e)
came_weighs from id (Forwarded other_from other cents deadline) = weigh_cond (same_transfer from id other_from other) cents
  where
    weigh_cond : (b : Bool) (n : ℕ) → cond b n 0 ≡ weight (λ cents. cents) (cond b (Some n) None)
    weigh_cond true n = refl
    weigh_cond false n = refl
came_weighs from id (Taken other to cents stamp) = refl
came_weighs from id (Funded funding) = refl
came_weighs from id (Defunded funding) = refl
came_weighs from id (Booked other_from other outcome) = refl
came_weighs from id (Fetched count) = refl
came_weighs from id Opened = refl

sent_weighs : (id : List ℕ) (e : Event) → cond (takes id e) (taking e) 0 ≡ weight (λ (terms : ℕ × ℕ). terms.1) (sent id e)
sent_weighs id (Taken other to cents stamp) = weigh_cond (same_text other id)
  where
    weigh_cond : (b : Bool) → cond b cents 0 ≡ weight (λ (terms : ℕ × ℕ). terms.1) (cond b (Some (to, cents)) None)
    weigh_cond true = refl
    weigh_cond false = refl
sent_weighs id (Forwarded other_from other cents deadline) = refl
sent_weighs id (Funded funding) = refl
sent_weighs id (Defunded funding) = refl
sent_weighs id (Booked other_from other outcome) = refl
sent_weighs id (Fetched count) = refl
sent_weighs id Opened = refl

accepted_moves : (s : HubSettings) (who : ℕ) (front : List Event) (from : ℕ) (id : List ℕ) → IsSound s who front → Fits s who front (Booked from id Accepted) → Terms s who front from id
    → Moves (position front) (position (front ++ Booked from id Accepted ∷ [])) (accepted_movement front from id)
accepted_moves s who front from id sound fits (Coming cents came_is another) =
    let moves : position front + (0 + credited_by from id Accepted front) ≡ position (front ++ Booked from id Accepted ∷ []) + (0 + 0) = position_credited s who front from id Accepted sound fits another in
    let amount : credited_by from id Accepted front ≡ cents =
    once_summed (forwards from id) coming (came from id) (λ c. c) (came_weighs from id) (forwards_came from id) front (forwarded_once s who from id front sound) ∙ ap (weight (λ c. c)) came_is in
    let here : Moves (position front) (position (front ++ Booked from id Accepted ∷ [])) (movement_of_accepted from (Some cents) (first_some (sent id) front)) = omega (arith, moves, amount) in
    subst (λ o. Moves (position front) (position (front ++ Booked from id Accepted ∷ [])) (movement_of_accepted from o (first_some (sent id) front))) (sym came_is) here
accepted_moves s who front from id sound fits (Own to cents none_came sent_is own) =
    let at_who : Fits s who front (Booked who id Accepted) = subst (λ f. Fits s who front (Booked f id Accepted)) own fits in
    let moves : position front + (0 + 0) ≡ position (front ++ Booked who id Accepted ∷ []) + (0 + debited_by id Accepted front) = position_debited s who front id Accepted sound at_who in
    let amount : debited_by id Accepted front ≡ cents =
    once_summed (takes id) taking (sent id) (λ (terms : ℕ × ℕ). terms.1) (sent_weighs id) (takes_sent id) front (taken_once s who id front sound) ∙ ap (weight (λ (terms : ℕ × ℕ). terms.1)) sent_is in
    let same : position (front ++ Booked from id Accepted ∷ []) ≡ position (front ++ Booked who id Accepted ∷ []) = ap (λ f. position (front ++ Booked f id Accepted ∷ [])) own in
    let here : Moves (position front) (position (front ++ Booked from id Accepted ∷ [])) (movement_of_accepted from None (Some (to, cents))) = omega (arith, moves, amount, same) in
    let with_terms : Moves (position front) (position (front ++ Booked from id Accepted ∷ [])) (movement_of_accepted from None (first_some (sent id) front)) =
    subst (λ o. Moves (position front) (position (front ++ Booked from id Accepted ∷ [])) (movement_of_accepted from None o)) (sym sent_is) here in
    subst (λ o. Moves (position front) (position (front ++ Booked from id Accepted ∷ [])) (movement_of_accepted from o (first_some (sent id) front))) (sym none_came) with_terms

still : (before after : ℕ) → before + (0 + 0) ≡ after + (0 + 0) → after ≡ before
still before after same = omega (arith, same)

-- a movement moves the position by its amount, and nothing else moves it
pub movement_moves : (s : HubSettings) (who : ℕ) (front : List Event) (x : Event) → IsSound s who front → Fits s who front x → Moves (position front) (position (front ++ x ∷ [])) (movement_of front x)
movement_moves s who front (Booked from id Accepted) sound fits = accepted_moves s who front from id sound fits (terms_there s who front from id sound fits)
movement_moves s who front (Booked from id (Rejected reason)) sound fits = still _ _ (position_released s who front from id (Rejected reason) sound fits (λ cents. refl))
movement_moves s who front (Booked from id TimedOut) sound fits = still _ _ (position_released s who front from id TimedOut sound fits (λ cents. refl))
movement_moves s who front (Funded funding) sound fits = omega (arith, position_funded s who front (Funded funding) sound fits refl)
movement_moves s who front (Defunded funding) sound fits = omega (arith, position_funded s who front (Defunded funding) sound fits refl)
movement_moves s who front (Taken id to cents stamp) sound fits = still _ _ (position_funded s who front (Taken id to cents stamp) sound fits refl)
movement_moves s who front (Forwarded from id cents deadline) sound fits = still _ _ (position_funded s who front (Forwarded from id cents deadline) sound fits refl)
movement_moves s who front (Fetched count) sound fits = still _ _ (position_funded s who front (Fetched count) sound fits refl)
movement_moves s who front Opened sound fits = still _ _ (position_funded s who front Opened sound fits refl)
