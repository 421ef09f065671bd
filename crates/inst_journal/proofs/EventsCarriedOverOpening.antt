-- What is carried over an opening and what comes after it, event by event.
use Rattle.std.proofs.Common.{◌≡◌, ℕ, zero, suc, ◌+◌, ◌<◌, ◌≤◌, length, take, drop, get_or, arith, Bool, true, false, ◌||◌, cond, List, [], ◌∷◌, ◌++◌, Option, Some, None, refl, sym, ap, ◌∙◌}
use Rattle.std.proofs.lemmas.List.{take_more}
use Rattle.std.proofs.lemmas.Bool.{false≢true}
use Rattle.inst_command.specs.declared.outcome.Outcome.{Outcome}
use Rattle.inst_journal.specs.declared.event.Event.{Event}
use Rattle.inst_journal.specs.declared.event.Event.TheVariants.{Funded, Defunded, Taken, Forwarded, Booked, Fetched, Opened}
use Rattle.inst_journal.specs.Booked.{or_else, books, booked}
use Rattle.inst_journal.specs.Opened.{is_opening, has_opening, carried, current}
use Rattle.inst_journal.proofs.OneMoreElement.{list_any_push, or-false}
use Rattle.inst_journal.proofs.FirstSome.{first_some-append}

pub or-true : (b : Bool) → (b || true) ≡ true
or-true true = refl
or-true false = refl

no_more : (J : List Event) (event : Event) → is_opening event ≡ false → has_opening (J ++ event ∷ []) ≡ has_opening J
no_more J event other = list_any_push is_opening J event ∙ ap (λ b. has_opening J || b) other ∙ or-false (has_opening J)

opened_now : (J : List Event) → has_opening (J ++ Opened ∷ []) ≡ true
opened_now J = list_any_push is_opening J Opened ∙ or-true (has_opening J)

-- an event that is no opening leaves what is carried
pub carried_push : (J : List Event) (event : Event) → is_opening event ≡ false → carried (J ++ event ∷ []) ≡ carried J
carried_push [] event other = ap (λ b. cond (b || false) (event ∷ []) []) other
carried_push (x ∷ J) event other =
    ap (λ b. cond b (x ∷ carried (J ++ event ∷ [])) []) (no_more (x ∷ J) event other) ∙ ap (λ C. cond (has_opening (x ∷ J)) (x ∷ C) []) (carried_push J event other)

pub carried_opened : (J : List Event) → carried (J ++ Opened ∷ []) ≡ J ++ Opened ∷ []
carried_opened [] = refl
carried_opened (x ∷ J) = ap (λ b. cond b (x ∷ carried (J ++ Opened ∷ [])) []) (opened_now (x ∷ J)) ∙ ap (λ C. x ∷ C) (carried_opened J)

current_either : (b : Bool) (J K : List Event) (x event : Event) → K ≡ J ++ event ∷ [] → (rest : List Event) → cond b K (x ∷ (rest ++ event ∷ [])) ≡ cond b J (x ∷ rest) ++ event ∷ []
current_either true J K x event same rest = same
current_either false J K x event same rest = refl

pub current_push : (J : List Event) (event : Event) → is_opening event ≡ false → current (J ++ event ∷ []) ≡ current J ++ event ∷ []
current_push [] event other = ap (λ b. cond (b || false) [] (event ∷ [])) other
current_push (x ∷ J) event other =
    ap (λ b. cond b (current (J ++ event ∷ [])) (x ∷ (J ++ event ∷ []))) (no_more (x ∷ J) event other)
    ∙ current_either (has_opening (x ∷ J)) (current J) (current (J ++ event ∷ [])) x event (current_push J event other) J

pub current_opened : (J : List Event) → current (J ++ Opened ∷ []) ≡ []
current_opened [] = refl
current_opened (x ∷ J) = ap (λ b. cond b (current (J ++ Opened ∷ [])) (x ∷ (J ++ Opened ∷ []))) (opened_now (x ∷ J)) ∙ current_opened J

front_either : (b : Bool) (x : Event) (J C K : List Event) → C ++ K ≡ J → cond b (x ∷ C) [] ++ cond b K (x ∷ J) ≡ x ∷ J
front_either true x J C K same = ap (λ L. x ∷ L) same
front_either false x J C K same = refl

-- what is carried is a front of the history
pub carried_front : (J : List Event) → carried J ++ current J ≡ J
carried_front [] = refl
carried_front (x ∷ J) = front_either (has_opening (x ∷ J)) x J (carried J) (current J) (carried_front J)

-- what was booked before the last opening is booked
pub carried_booked : (from : ℕ) (id : List ℕ) (J : List Event) (o : Outcome) → booked from id (carried J) ≡ Some o → booked from id J ≡ Some o
carried_booked from id J o e =
    sym (ap (booked from id) (carried_front J)) ∙ first_some-append (books from id) (carried J) (current J) ∙ ap (λ b. or_else b (booked from id (current J))) e

-- what isn't booked wasn't booked before the last opening
pub carried_unbooked : (from : ℕ) (id : List ℕ) (J : List Event) → booked from id J ≡ None → booked from id (carried J) ≡ None
carried_unbooked from id J none = go (booked from id (carried J)) refl
  where
    go : (o : Option Outcome) → booked from id (carried J) ≡ o → o ≡ None
    go None e = refl
    go (Some o) e = let f : None ≡ Some o = sym none ∙ carried_booked from id J o e in cc

-- how many events are carried of the first i
pub record LastOpened (J : List Event) (i length : ℕ) : Type 0 where
  pub within : length ≤ i
  pub carried_is : take length J ≡ carried (take i J)

more : (J : List Event) (i : ℕ) (x : Event) → i < length J → x ≡ get_or J i x → take (i + 1) J ≡ take i J ++ x ∷ []
more J i x below here = take_more J i x below ∙ ap (λ y. take i J ++ y ∷ []) (sym here)

only_opening : (x : Event) → is_opening x ≡ true → x ≡ Opened
only_opening Opened e = refl
only_opening (Funded funding) e = absurd (false≢true e)
only_opening (Defunded funding) e = absurd (false≢true e)
only_opening (Taken id to cents stamp) e = absurd (false≢true e)
only_opening (Forwarded from id cents d) e = absurd (false≢true e)
only_opening (Booked from id o) e = absurd (false≢true e)
only_opening (Fetched count) e = absurd (false≢true e)

pub last_opened : (J : List Event) (i n : ℕ) (x : Event) → i < length J → x ≡ get_or J i x → is_opening x ≡ true → LastOpened J (i + 1) (i + 1)
last_opened J i n x below here opened =
    let ends : take (i + 1) J ≡ take i J ++ Opened ∷ [] = more J i x below here ∙ ap (λ y. take i J ++ y ∷ []) (only_opening x opened) in
    record { within = omega arith; carried_is = ends ∙ sym (carried_opened (take i J)) ∙ sym (ap carried ends) }

pub last_before : (J : List Event) (i n : ℕ) (x : Event) → i < length J → x ≡ get_or J i x → is_opening x ≡ false → LastOpened J i n → LastOpened J (i + 1) n
last_before J i n x below here other so_far = record {
  within = omega (arith, so_far.within);
  carried_is = so_far.carried_is ∙ sym (ap carried (more J i x below here) ∙ carried_push (take i J) x other);
}

drop_front : (xs ys : List Event) → drop (length xs) (xs ++ ys) ≡ ys
drop_front [] ys = refl
drop_front (x ∷ xs) ys = drop_front xs ys

take_all : (J : List Event) (i : ℕ) → length J ≤ i → take i J ≡ J
take_all [] zero le = refl
take_all [] (suc i) le = refl
take_all (x ∷ J) zero le = absurd (omega arith)
take_all (x ∷ J) (suc i) le = ap (λ K. x ∷ K) (take_all J i (omega arith))

length_take : (J : List Event) (n : ℕ) → n ≤ length J → length (take n J) ≡ n
length_take J zero le = refl
length_take [] (suc n) le = absurd (omega arith)
length_take (x ∷ J) (suc n) le = ap suc (length_take J n (omega arith))

pub carried_all : (J : List Event) (i n : ℕ) → length J ≤ i → LastOpened J i n → take n J ≡ carried J
carried_all J i n le last = last.carried_is ∙ ap carried (take_all J i le)

pub current_all : (J : List Event) (n : ℕ) → n ≤ length J → take n J ≡ carried J → drop n J ≡ current J
current_all J n le is =
    let long : length (carried J) ≡ n = sym (ap length is) ∙ length_take J n le in
    ap (λ K. drop n K) (sym (carried_front J)) ∙ ap (λ m. drop m (carried J ++ current J)) (sym long) ∙ drop_front (carried J) (current J)
