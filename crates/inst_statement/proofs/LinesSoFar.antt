-- The lines so far, event by event.
use Rattle.std.proofs.Common.{◌≡◌, ℕ, ◌+◌, false, List, [], ◌∷◌, ◌++◌, length, Option, Some, None, refl, sym, ap, ◌∙◌, arith, append-nil, append_assoc}
use Rattle.inst_command.specs.declared.line.Line.{Line}
use Rattle.inst_journal.specs.declared.event.Event.{Event}
use Rattle.inst_journal.specs.declared.event.Event.TheVariants.{Opened}
use Rattle.inst_journal.specs.Money.{position}
use Rattle.inst_journal.specs.Opened.{is_opening, carried, current}
use Rattle.inst_journal.specs.Statement.{line_of, with_line, lines_after}
use Rattle.inst_journal.proofs.EventsCarriedOverOpening.{carried_push, current_push, current_opened, carried_front}

-- the lines of the history J up to a front of it, since the last opening there
abbrev pub so_far : List Event → List Event → List Line
so_far J front = lines_after J (carried front) 1 (current front)

-- the line, if any
abbrev pub as_list : Option Line → List Line
as_list None = []
as_list (Some line) = line ∷ []

-- one more event at the end
lines_push : (J front : List Event) (number : ℕ) (events : List Event) (x : Event)
    → lines_after J front number (events ++ x ∷ []) ≡ lines_after J front number events ++ as_list (line_of J (number + length (lines_after J front number events)) (position ((front ++ events) ++ x ∷ [])) x)
lines_push J front number [] x =
    alone (line_of J number (position (front ++ x ∷ [])) x)
    ∙ ap (λ n. as_list (line_of J n (position (front ++ x ∷ [])) x)) (none_more number)
    ∙ ap (λ K. as_list (line_of J (number + 0) (position (K ++ x ∷ [])) x)) (sym (append-nil front))
  where
    alone : (o : Option Line) → with_line o [] [] ≡ as_list o
    alone None = refl
    alone (Some line) = refl

    none_more : (n : ℕ) → n ≡ n + 0
    none_more n = omega arith
lines_push J front number (y ∷ events) x =
    let K : List Event = front ++ y ∷ [] in
    let all : (K ++ events) ++ x ∷ [] ≡ (front ++ y ∷ events) ++ x ∷ [] = ap (λ H. H ++ x ∷ []) (append_assoc front (y ∷ []) events) in
    go (line_of J number (position K) y) (λ n. lines_push J K n events x ∙ ap (λ H. lines_after J K n events ++ as_list (line_of J (n + length (lines_after J K n events)) (position H) x)) all)
  where
    go : (o : Option Line)
        → ((n : ℕ) → lines_after J (front ++ y ∷ []) n (events ++ x ∷ []) ≡ lines_after J (front ++ y ∷ []) n events ++ as_list (line_of J (n + length (lines_after J (front ++ y ∷ []) n events)) (position ((front ++ y ∷ events) ++ x ∷ [])) x))
        → with_line o (lines_after J (front ++ y ∷ []) number (events ++ x ∷ [])) (lines_after J (front ++ y ∷ []) (number + 1) (events ++ x ∷ []))
        ≡ with_line o (lines_after J (front ++ y ∷ []) number events) (lines_after J (front ++ y ∷ []) (number + 1) events)
        ++ as_list (line_of J (number + length (with_line o (lines_after J (front ++ y ∷ []) number events) (lines_after J (front ++ y ∷ []) (number + 1) events))) (position ((front ++ y ∷ events) ++ x ∷ [])) x)
    go None rest = rest number
    go (Some line) rest =
        let L : List Line = lines_after J (front ++ y ∷ []) (number + 1) events in
        let same : number + 1 + length L ≡ number + length (line ∷ L) = omega arith in
        ap (λ l. line ∷ l) (rest (number + 1) ∙ ap (λ n. L ++ as_list (line_of J n (position ((front ++ y ∷ events) ++ x ∷ [])) x)) same)

pub so_far_more : (J front : List Event) (x : Event) → is_opening x ≡ false → so_far J (front ++ x ∷ []) ≡ so_far J front ++ as_list (line_of J (1 + length (so_far J front)) (position (front ++ x ∷ [])) x)
so_far_more J front x other =
    ap (λ C. lines_after J C 1 (current (front ++ x ∷ []))) (carried_push front x other) ∙ ap (lines_after J (carried front) 1) (current_push front x other)
    ∙ lines_push J (carried front) 1 (current front) x
    ∙ ap (λ K. so_far J front ++ as_list (line_of J (1 + length (so_far J front)) (position (K ++ x ∷ [])) x)) (carried_front front)

pub so_far_anew : (J front : List Event) → so_far J (front ++ Opened ∷ []) ≡ []
so_far_anew J front = ap (lines_after J (carried (front ++ Opened ∷ [])) 1) (current_opened front)
