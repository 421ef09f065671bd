-- What a line of a statement tells is in the history.
use Rattle.std.proofs.Common.{◌≡◌, ℕ, zero, suc, ◌+◌, Bool, true, false, ◌==◌, cond, List, [], ◌∷◌, ◌++◌, Option, Some, None, slice_get, refl, sym, ◌∙◌, subst, Contains}
use Rattle.std.specs.Cmp.Lexicographic.{same_text as text_same}
use Rattle.std.proofs.lemmas.Bool.{and_parts, eqb-true}
use Rattle.std.proofs.lemmas.Option.{cond_some, none-some, same_Some}
use Rattle.std.proofs.lemmas.List.Elements.{Contains-append_left, Contains-append_right, Contains-push}
use Rattle.inst_settings.specs.Settings.{same_text}
use Rattle.inst_command.specs.declared.line.Line.{Line}
use Rattle.inst_command.specs.declared.outcome.Outcome.TheVariants.{Accepted, Rejected, TimedOut}
use Rattle.inst_journal.specs.declared.event.Event.{Event}
use Rattle.inst_journal.specs.declared.event.Event.TheVariants.{Funded, Defunded, Taken, Forwarded, Booked, Fetched, Opened}
use Rattle.inst_journal.specs.Booked.{or_else, first_some, forwards, is_forwarded, takes}
use Rattle.inst_journal.specs.Lines.{IsOf}
use Rattle.inst_journal.specs.Money.{position}
use Rattle.inst_journal.specs.Opened.{carried, current}
use Rattle.inst_journal.specs.Statement.{received, paid, line_of, with_line, lines_after, statement}
use Rattle.inst_journal.proofs.EventsCarriedOverOpening.{carried_front}

first_is_there : (x : Event) (xs : List Event) → Contains (x ∷ xs) x
first_is_there x xs = Contains-append_left (x ∷ []) xs x (Contains-push [] x)

later_is_there : (x : Event) (xs : List Event) (y : Event) → Contains xs y → Contains (x ∷ xs) y
later_is_there x xs y there = Contains-append_right (x ∷ []) xs y there

-- what a list gives first, one of its elements gives
pub record IsGiven (f : Event → Option Line) (J : List Event) (line : Line) : Type 0 where
  pub event : Event
  pub there : Contains J event
  pub gives : f event ≡ Some line

given : (f : Event → Option Line) (J : List Event) (line : Line) → first_some f J ≡ Some line → IsGiven f J line
given f [] line e = absurd (none-some line e)
given f (event ∷ J) line e = by (λ rest. given f J line rest) (f event) refl e
  where
    by : (first_some f J ≡ Some line → IsGiven f J line) → (o : Option Line) → f event ≡ o
        → or_else o (first_some f J) ≡ Some line → IsGiven f (event ∷ J) line
    by others None is rest =
        let later = others rest in
        record { event = later.event; there = later_is_there event J later.event later.there; gives = later.gives }
    by others (Some first) is here = record { event = event; there = first_is_there event J; gives = is ∙ here }

received_is : (J : List Event) (number after from : ℕ) (id : List ℕ) (event : Event) (line : Line) → Contains J (Booked from id Accepted) → Contains J event
    → received number after from id event ≡ Some line → IsOf J line.kind line
received_is J number after from id (Forwarded other_from other cents deadline) line booking there e =
    let is = cond_some (forwards from id (Forwarded other_from other cents deadline)) _ line e in
    let keys = and_parts (other_from == from) (same_text other id) is.0 in
    let originator : other_from ≡ from = eqb-true other_from from keys.0 in
    let name : other ≡ id = text_same other id (sym keys.1) in
    let here : Contains J (Forwarded from id cents deadline) = subst (λ (p : ℕ). Contains J (Forwarded p id cents deadline)) originator
    (subst (λ (t : List ℕ). Contains J (Forwarded other_from t cents deadline)) name there) in
    subst (λ (l : Line). IsOf J l.kind l) is.1 (from, deadline, refl, here, booking)
received_is J number after from id (Taken other to cents stamp) line booking there e = absurd (none-some line e)
received_is J number after from id (Funded funding) line booking there e = absurd (none-some line e)
received_is J number after from id (Defunded funding) line booking there e = absurd (none-some line e)
received_is J number after from id (Booked other_from other outcome) line booking there e = absurd (none-some line e)
received_is J number after from id (Fetched count) line booking there e = absurd (none-some line e)
received_is J number after from id Opened line booking there e = absurd (none-some line e)

paid_is : (J : List Event) (number after from : ℕ) (id : List ℕ) (event : Event) (line : Line) → Contains J (Booked from id Accepted) → Contains J event
    → paid number after id event ≡ Some line → IsOf J line.kind line
paid_is J number after from id (Taken other to cents stamp) line booking there e =
    let is = cond_some (takes id (Taken other to cents stamp)) _ line e in
    let name : other ≡ id = text_same other id (sym is.0) in
    let here : Contains J (Taken id to cents stamp) = subst (λ (t : List ℕ). Contains J (Taken t to cents stamp)) name there in
    subst (λ (l : Line). IsOf J l.kind l) is.1 (from, to, stamp, refl, here, booking)
paid_is J number after from id (Forwarded other_from other cents deadline) line booking there e = absurd (none-some line e)
paid_is J number after from id (Funded funding) line booking there e = absurd (none-some line e)
paid_is J number after from id (Defunded funding) line booking there e = absurd (none-some line e)
paid_is J number after from id (Booked other_from other outcome) line booking there e = absurd (none-some line e)
paid_is J number after from id (Fetched count) line booking there e = absurd (none-some line e)
paid_is J number after from id Opened line booking there e = absurd (none-some line e)

accepted_is : (J : List Event) (number after from : ℕ) (id : List ℕ) (line : Line) → Contains J (Booked from id Accepted)
    → (b : Bool) → cond b (first_some (received number after from id) J) (first_some (paid number after id) J) ≡ Some line → IsOf J line.kind line
accepted_is J number after from id line booking true e =
    let it = given (received number after from id) J line e in
    received_is J number after from id it.event line booking it.there it.gives
accepted_is J number after from id line booking false e =
    let it = given (paid number after id) J line e in
    paid_is J number after from id it.event line booking it.there it.gives

-- the line of an event tells what is in the history
line_is : (J : List Event) (number after : ℕ) (event : Event) (line : Line) → Contains J event → line_of J number after event ≡ Some line → IsOf J line.kind line
line_is J number after (Funded funding) line there e = subst (λ (l : Line). IsOf J l.kind l) (same_Some _ line e) (refl, there)
line_is J number after (Defunded funding) line there e = subst (λ (l : Line). IsOf J l.kind l) (same_Some _ line e) (refl, there)
line_is J number after (Booked from id Accepted) line there e = accepted_is J number after from id line there (is_forwarded from id J) e
line_is J number after (Booked from id (Rejected reason)) line there e = absurd (none-some line e)
line_is J number after (Booked from id TimedOut) line there e = absurd (none-some line e)
line_is J number after (Taken id to cents stamp) line there e = absurd (none-some line e)
line_is J number after (Forwarded from id cents deadline) line there e = absurd (none-some line e)
line_is J number after (Fetched count) line there e = absurd (none-some line e)
line_is J number after Opened line there e = absurd (none-some line e)

-- each of the lines of some events of the history
lines_are : (J front : List Event) (number : ℕ) (events : List Event) → ((event : Event) → Contains events event → Contains J event)
    → (k : ℕ) (line : Line) → slice_get (lines_after J front number events) k ≡ Some line → IsOf J line.kind line
lines_are J front number [] there k line e = absurd (none-some line e)
lines_are J front number (event ∷ events) there k line e =
    let K : List Event = front ++ event ∷ [] in
    by (λ n m later. lines_are J K n events (λ x h. there x (later_is_there event events x h)) m line later)
    (line_of J number (position K) event) (λ first here. line_is J number (position K) event first (there event (first_is_there event events)) here) e
  where
    Rest : ℕ → Type 0
    Rest n = (m : ℕ) → slice_get (lines_after J (front ++ event ∷ []) n events) m ≡ Some line → IsOf J line.kind line

    at : Rest (number + 1) → (first : Line) → IsOf J first.kind first → (m : ℕ)
        → slice_get (first ∷ lines_after J (front ++ event ∷ []) (number + 1) events) m ≡ Some line → IsOf J line.kind line
    at rest first tells zero here = subst (λ (l : Line). IsOf J l.kind l) (same_Some first line here) tells
    at rest first tells (suc m) later = rest m later

    by : ((n : ℕ) → Rest n) → (o : Option Line) → ((first : Line) → o ≡ Some first → IsOf J first.kind first)
        → slice_get (with_line o (lines_after J (front ++ event ∷ []) number events) (lines_after J (front ++ event ∷ []) (number + 1) events)) k ≡ Some line
        → IsOf J line.kind line
    by rest None tells later = rest number k later
    by rest (Some first) tells here = at (rest (number + 1)) first (tells first refl) k here

-- a line of the statement tells what is in the history
pub line_tells : (J : List Event) (k : ℕ) (line : Line) → slice_get (statement J) k ≡ Some line → IsOf J line.kind line
line_tells J k line e =
    lines_are J (carried J) 1 (current J)
    (λ event there. subst (λ (all : List Event). Contains all event) (carried_front J) (Contains-append_right (carried J) (current J) event there)) k line e
