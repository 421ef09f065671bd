-- A statement that is kept line by line goes on being that of the history, event by event.
use Rattle.std.proofs.Common.{◌≡◌, ℕ, ◌+◌, ◌^◌, ◌<◌, ◌≤◌, true, false, cond, List, [], ◌∷◌, ◌++◌, length, take, append-nil, append_assoc, Option, Some, None, unwrap_or, IsSome, count_by, refl, sym, ap, subst, ◌∙◌, arith}
use Rattle.std.specs.Int.{abs_diff}
use Rattle.std.specs.Option.{option_map}
use Rattle.std.proofs.lemmas.List.Elements.{All-nil}
use Rattle.std.proofs.lemmas.List.Sums.{sum_by-cons, sum_by-append}
use Rattle.inst_settings.specs.Settings.{HubSettings}
use Rattle.inst_settings.specs.Lawful.{IsSettings}
use Rattle.inst_command.specs.declared.line.Line.{Line}
use Rattle.inst_command.specs.declared.line.LineKind.{LineKind}
use Rattle.inst_command.specs.declared.line.LineKind.TheVariants.{Funded as FundedKind, Defunded as DefundedKind, Received, Paid}
use Rattle.inst_journal.specs.declared.event.Event.{Event}
use Rattle.inst_journal.specs.declared.event.Event.TheVariants.{Funded, Defunded, Taken, Forwarded, Booked, Fetched, Opened}
use Rattle.inst_journal.specs.Lines.{raised, lowered}
use Rattle.inst_journal.specs.Money.{position}
use Rattle.inst_journal.specs.Opened.{is_opening, carried, current}
use Rattle.inst_journal.specs.Sound.{Fits, FitAfter, IsSound}
use Rattle.inst_journal.specs.Statement.{line_of, with_line, lines_after, statement}
use Rattle.inst_journal.proofs.EventsCarriedOverOpening.{carried_front}
use Rattle.inst_journal.proofs.Soundness.{sound_push}
use Rattle.inst_journal.proofs.WalkOverFronts.{may_have_line, lined, lines_few, front_fits, rest_fits}
use Rattle.inst_statement.specs.declared.kept_line.KeptLine.{KeptLine}
use Rattle.inst_statement.specs.declared.movement.Movement.{Movement}
use Rattle.inst_statement.specs.KeptLine.{line_name, name_at, AreNamed, line_at, lines_at, reached}
use Rattle.inst_statement.specs.KeptStatement.{Stated, AddsLine, IsStatementOf, LeadsOn, position_of, line_with}
use Rattle.inst_statement.specs.inner.Movement.{movement_of}
use Rattle.inst_statement.proofs.KeptLines.{name_last, lines_length, lines_push, kept_stand, named_stand, named_push}
use Rattle.inst_statement.proofs.LinesSoFar.{so_far, as_list, so_far_more, so_far_anew}
use Rattle.inst_statement.proofs.Movements.{Moves, line_told, movement_line, movement_moves}

-- an event with a movement is no opening, and may have a line
no_opening : (front : List Event) (event : Event) (m : Movement) → movement_of front event ≡ Some m → is_opening event ≡ false
no_opening front (Funded funding) m some = refl
no_opening front (Defunded funding) m some = refl
no_opening front (Booked from id outcome) m some = refl
no_opening front (Taken id to cents stamp) m some = refl
no_opening front (Forwarded from id cents deadline) m some = refl
no_opening front (Fetched count) m some = refl
no_opening front Opened m some = absurd (cc)

pub may_line : (front : List Event) (event : Event) (m : Movement) → movement_of front event ≡ Some m → may_have_line event ≡ true
may_line front (Funded funding) m some = refl
may_line front (Defunded funding) m some = refl
may_line front (Booked from id outcome) m some = refl
may_line front (Taken id to cents stamp) m some = absurd (cc)
may_line front (Forwarded from id cents deadline) m some = absurd (cc)
may_line front (Fetched count) m some = absurd (cc)
may_line front Opened m some = absurd (cc)

-- and has a name
has_name : (front : List Event) (event : Event) (m : Movement) → movement_of front event ≡ Some m → IsSome (line_name event)
has_name front (Funded funding) m some = refl
has_name front (Defunded funding) m some = refl
has_name front (Booked from id outcome) m some = refl
has_name front (Taken id to cents stamp) m some = absurd (cc)
has_name front (Forwarded from id cents deadline) m some = absurd (cc)
has_name front (Fetched count) m some = absurd (cc)
has_name front Opened m some = absurd (cc)

-- the same lines by another name
pub position_same : (before after : Stated) → after.lines ≡ before.lines → after.begun ≡ before.begun → position_of after ≡ position_of before
position_same before after lines begun = ap (λ b. reached b after.lines) begun ∙ ap (reached before.begun) lines

pub stated_same : {J : List Event} (before after : Stated) → after.lines ≡ before.lines → after.begun ≡ before.begun → IsStatementOf J before → IsStatementOf J after
stated_same {J} before after lines begun of = record {
  named = subst (AreNamed J) (sym lines) of.named;
  are_lines = ap (λ b. lines_at J 1 b after.lines) begun ∙ ap (lines_at J 1 before.begun) lines ∙ of.are_lines;
  is_position = position_same before after lines begun ∙ of.is_position;
}

-- the amount of a movement lies between the positions that it leads from and to
amount_between : (m : Movement) (before after : ℕ) → LeadsOn before m after → abs_diff after before ≡ m.cents
amount_between m before after leads = by m.kind leads
  where
    by : (kind : LineKind) → after + lowered kind m.cents ≡ before + raised kind m.cents → abs_diff after before ≡ m.cents
    by FundedKind leads' = omega (arith, leads')
    by DefundedKind leads' = omega (arith, leads')
    by Received leads' = omega (arith, leads')
    by Paid leads' = omega (arith, leads')

-- the line that is kept of a movement is the movement's
line_same : (K : List Event) (number count before after to event : ℕ) (id : List ℕ) (m : Movement) → count ≡ number → abs_diff after before ≡ m.cents → after ≡ to → unwrap_or (name_at K event) [] ≡ id
    → line_at K count before (line_with event after m) ≡ line_told number to id m
line_same K number count before after to event id m counted amount at name =
    ap (λ n. line_told n after (unwrap_or (name_at K event) []) (record { kind = m.kind; other = m.other; cents = abs_diff after before })) counted
    ∙ ap (λ c. line_told number after (unwrap_or (name_at K event) []) (record { kind = m.kind; other = m.other; cents = c })) amount
    ∙ ap (λ a. line_told number a (unwrap_or (name_at K event) []) m) at
    ∙ ap (λ (i : List ℕ). line_told number to i m) name

module _ (s : HubSettings) (who : ℕ) (J : List Event) (new : Event) (sound : IsSound s who J) (fits : Fits s who J new) where
  abbrev K : List Event
  K = J ++ new ∷ []

  whole : IsSound s who K
  whole = sound_push s who J new sound fits

  -- the events of a front have the same lines after one event more
  lines_stand : (front events : List Event) → front ++ events ≡ J → IsSound s who front → FitAfter s who front events → (number : ℕ) → lines_after K front number events ≡ lines_after J front number events
  lines_stand front [] all before after number = refl
  lines_stand front (x ∷ events) all before after number =
      let next : List Event = front ++ x ∷ [] in
      let at : ℕ = position next in
      let here : front ++ x ∷ (events ++ new ∷ []) ≡ K = sym (append_assoc front (x ∷ events) (new ∷ [])) ∙ ap (λ l. l ++ new ∷ []) all in
      let same : line_of K number at x ≡ line_of J number at x =
      movement_line s who K whole front x (events ++ new ∷ []) here before after.0 number at ∙ sym (movement_line s who J sound front x events all before after.0 number at) in
      let rest : (n : ℕ) → lines_after K next n events ≡ lines_after J next n events =
      lines_stand next events (append_assoc front (x ∷ []) events ∙ all) (sound_push s who front x before after.0) after.1 in
      ap (λ o. with_line o (lines_after K next number events) (lines_after K next (number + 1) events)) same
      ∙ ap (λ l. with_line (line_of J number at x) l (lines_after K next (number + 1) events)) (rest number)
      ∙ ap (with_line (line_of J number at x) (lines_after J next number events)) (rest (number + 1))

  split : IsSound s who (carried J ++ current J)
  split = subst (IsSound s who) (sym (carried_front J)) sound

  statement_stands : so_far K J ≡ statement J
  statement_stands = lines_stand (carried J) (current J) (carried_front J) (front_fits s who [] (carried J) (current J) split) (rest_fits s who [] (carried J) (current J) split) 1

  -- the line of the new event, if it has one, comes last
  statement_more : is_opening new ≡ false → statement K ≡ statement J ++ as_list (option_map (line_told (1 + length (statement J)) (position K) (unwrap_or (line_name new) [])) (movement_of J new))
  statement_more other =
      so_far_more K J new other ∙ ap (λ L. L ++ as_list (line_of K (1 + length L) (position K) new)) statement_stands
      ∙ ap (λ o. statement J ++ as_list o) (movement_line s who K whole J new [] refl sound fits (1 + length (statement J)) (position K))

  moves : (o : Option Movement) → movement_of J new ≡ o → Moves (position J) (position K) o
  moves o is = subst (Moves (position J) (position K)) is (movement_moves s who J new sound fits)

  -- the position that a movement leads to
  pub moved_to : (m : Movement) → movement_of J new ≡ Some m → position K + lowered m.kind m.cents ≡ position J + raised m.kind m.cents
  moved_to m is = moves (Some m) is

  pub covers_movement : (m : Movement) (stated : Stated) → movement_of J new ≡ Some m → IsStatementOf J stated → lowered m.kind m.cents ≤ position_of stated + raised m.kind m.cents
  covers_movement m stated is of = omega (arith, moves (Some m) is, of.is_position)

  pub line_added : (m : Movement) (index : ℕ) (before after : Stated) → movement_of J new ≡ Some m → index ≡ length J → IsStatementOf J before → AddsLine before index m after → IsStatementOf K after
  line_added m index before after is last of adds =
      let moved : position K + lowered m.kind m.cents ≡ position J + raised m.kind m.cents = moves (Some m) is in
      let at : position_of after ≡ position K = omega (arith, moved, adds.leads, of.is_position) in
      let kept : KeptLine = line_with index (position_of after) m in
      let next : ℕ = 1 + length (statement J) in
      let id : List ℕ = unwrap_or (line_name new) [] in
      let number : 1 + length before.lines ≡ next = ap (λ n. 1 + n) (sym (lines_length J 1 before.begun before.lines) ∙ ap length of.are_lines) in
      let name : unwrap_or (name_at K index) [] ≡ id = ap (λ i. unwrap_or (name_at K i) []) last ∙ ap (λ (o : Option (List ℕ)). unwrap_or o []) (name_last J new) in
      let line : line_at K (1 + length before.lines) (position_of before) kept ≡ line_told next (position K) id m =
      line_same K next (1 + length before.lines) (position_of before) (position_of after) (position K) index id m number (amount_between m (position_of before) (position_of after) adds.leads) at name in
      record {
        named = subst (AreNamed K) (sym adds.line) (named_push J new before.lines kept last (has_name J new m is) of.named);
        are_lines =
            ap (λ b. lines_at K 1 b after.lines) adds.begun ∙ ap (lines_at K 1 before.begun) adds.line
            ∙ lines_push K 1 before.begun before.lines kept
            ∙ ap (λ L. L ++ line_at K (1 + length before.lines) (position_of before) kept ∷ []) (kept_stand J new 1 before.begun before.lines of.named ∙ of.are_lines)
            ∙ ap (λ l. statement J ++ l ∷ []) line
            ∙ sym (statement_more (no_opening J new m is) ∙ ap (λ o. statement J ++ as_list (option_map (line_told next (position K) id) o)) is);
        is_position = at;
      }

  -- an event without a movement has no line
  pub line_less : (before after : Stated) → movement_of J new ≡ None → is_opening new ≡ false → after.lines ≡ before.lines → after.begun ≡ before.begun → IsStatementOf J before → IsStatementOf K after
  line_less before after none other lines_same begun of =
      let still : position K ≡ position J = moves None none in
      let same : IsStatementOf J after = stated_same before after lines_same begun of in
      record {
        named = named_stand J new after.lines same.named;
        are_lines =
            kept_stand J new 1 after.begun after.lines same.named ∙ same.are_lines ∙ sym (append-nil (statement J))
            ∙ sym (statement_more other ∙ ap (λ o. statement J ++ as_list (option_map (line_told (1 + length (statement J)) (position K) (unwrap_or (line_name new) [])) o)) none);
        is_position = same.is_position ∙ sym still;
      }

-- a statement begins anew at an opening
pub line_anew : (s : HubSettings) (who : ℕ) (J : List Event) (before after : Stated) → IsSound s who J → Fits s who J Opened → after.lines ≡ [] → after.begun ≡ position_of before → IsStatementOf J before → IsStatementOf (J ++ Opened ∷ []) after
line_anew s who J before after sound fits none begun of =
    let still : position (J ++ Opened ∷ []) ≡ position J = movement_moves s who J Opened sound fits in
    record {
      named = subst (AreNamed (J ++ Opened ∷ [])) (sym none) (All-nil (λ (k : KeptLine). IsSome (name_at (J ++ Opened ∷ []) k.event)));
      are_lines = ap (lines_at (J ++ Opened ∷ []) 1 after.begun) none ∙ sym (so_far_anew (J ++ Opened ∷ []) J);
      is_position = ap (reached after.begun) none ∙ begun ∙ of.is_position ∙ sym still;
    }

-- no more lines than events that may have one
lines_count : (J front : List Event) (number : ℕ) (events : List Event) → length (lines_after J front number events) ≤ count_by may_have_line events
lines_count J front number [] = omega arith
lines_count J front number (x ∷ events) =
    let next : List Event = front ++ x ∷ [] in
    let counted : count_by may_have_line (x ∷ events) ≡ cond (may_have_line x) 1 0 + count_by may_have_line events = sum_by-cons (λ e. cond (may_have_line e) 1 0) x events in
    go (line_of J number (position next) x) (lined J number (position next) x) (lines_count J next number events) (lines_count J next (number + 1) events) counted
  where
    go : (o : Option Line) → ((line : Line) → o ≡ Some line → may_have_line x ≡ true)
        → length (lines_after J (front ++ x ∷ []) number events) ≤ count_by may_have_line events → length (lines_after J (front ++ x ∷ []) (number + 1) events) ≤ count_by may_have_line events
        → count_by may_have_line (x ∷ events) ≡ cond (may_have_line x) 1 0 + count_by may_have_line events
        → length (with_line o (lines_after J (front ++ x ∷ []) number events) (lines_after J (front ++ x ∷ []) (number + 1) events)) ≤ count_by may_have_line (x ∷ events)
    go None may same more counted = omega (arith, same, counted)
    go (Some line) may same more counted =
        let one : ◌≡◌ {A = ℕ} (cond (may_have_line x) 1 0) 1 = ap {B = ℕ} (λ b. cond b 1 0) (may line refl) in
        omega (arith, more, counted, one)

-- a further line has a number of 32 bits
pub number_fits : (s : HubSettings) (who : ℕ) (J : List Event) (stated : Stated) → IsSettings s → IsSound s who J → IsStatementOf J stated → length stated.lines + 1 < 2 ^ 32
number_fits s who J stated lawful sound of =
    let counted : length (statement J) ≤ count_by may_have_line (current J) = lines_count J (carried J) 1 (current J) in
    let both : count_by may_have_line (carried J ++ current J) ≡ count_by may_have_line (carried J) + count_by may_have_line (current J) = sum_by-append (λ e. cond (may_have_line e) 1 0) (carried J) (current J) in
    let all : count_by may_have_line (take (length J) J) ≤ 140000000 = lines_few s who J (length J) lawful sound in
    let same : count_by may_have_line (carried J ++ current J) ≡ count_by may_have_line (take (length J) J) = ap (count_by may_have_line) (carried_front J ∙ sym (take_all J)) in
    omega (arith, counted, both, all, same, ap length of.are_lines, lines_length J 1 stated.begun stated.lines)
  where
    take_all : (l : List Event) → take (length l) l ≡ l
    take_all [] = refl
    take_all (x ∷ l) = ap (λ r. x ∷ r) (take_all l)

-- no lines of no events
pub nothing_stated : (stated : Stated) → stated.lines ≡ [] → stated.begun ≡ 0 → IsStatementOf [] stated
nothing_stated stated none begun = record {
  named = subst (AreNamed []) (sym none) (All-nil (λ (k : KeptLine). IsSome (name_at [] k.event)));
  are_lines = ap (lines_at [] 1 stated.begun) none;
  is_position = ap (reached stated.begun) none ∙ begun;
}
