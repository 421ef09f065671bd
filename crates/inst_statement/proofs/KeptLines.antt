-- Kept lines, one by one, one more at the end, and after one event more.
use Rattle.std.proofs.Common.{◌≡◌, ℕ, zero, suc, ◌+◌, ◌<◌, List, [], ◌∷◌, ◌++◌, length, take, get_or, Option, Some, is_some, unwrap_or, IsSome, IsTrue, refl, sym, ap, subst, ◌∙◌, arith}
use Rattle.std.specs.Int.{abs_diff}
use Rattle.std.specs.List.{slice_get}
use Rattle.std.proofs.lemmas.Bool.{false≢true}
use Rattle.std.proofs.lemmas.List.{take_more}
use Rattle.std.proofs.lemmas.List.Elements.{All-head, All-tail, All-push, All-weaker}
use Rattle.inst_base.specs.Cents.{is_amount}
use Rattle.inst_command.specs.declared.line.Line.{Line}
use Rattle.inst_journal.specs.declared.event.Event.{Event}
use Rattle.inst_statement.specs.declared.kept_line.KeptLine.{KeptLine}
use Rattle.inst_statement.specs.KeptLine.{line_name, name_at, AreNamed, line_at, lines_at, reached, MoveByAmounts}

pub reached_push : (before : ℕ) (lines : List KeptLine) (kept : KeptLine) → reached before (lines ++ kept ∷ []) ≡ kept.position
reached_push before [] kept = refl
reached_push before (line ∷ lines) kept = reached_push line.position lines kept

pub reached_at : (before : ℕ) (lines : List KeptLine) (i : ℕ) (kept : KeptLine) → i < length lines → kept ≡ get_or lines i kept → reached before (take (i + 1) lines) ≡ kept.position
reached_at before lines i kept below here =
    ap (reached before) (take_more lines i kept below) ∙ reached_push before (take i lines) (get_or lines i kept) ∙ sym (ap (λ (k : KeptLine). k.position) here)

pub moved_push : (before : ℕ) (lines : List KeptLine) (kept : KeptLine) → MoveByAmounts before lines → IsTrue (is_amount (abs_diff kept.position (reached before lines))) → MoveByAmounts before (lines ++ kept ∷ [])
moved_push before [] kept moved amount = (amount, tt)
moved_push before (line ∷ lines) kept moved amount = (moved.0, moved_push line.position lines kept moved.1 amount)

-- the amount of the line at an index
pub moved_at : (before : ℕ) (lines : List KeptLine) (i : ℕ) (kept : KeptLine) → i < length lines → kept ≡ get_or lines i kept → MoveByAmounts before lines → IsTrue (is_amount (abs_diff kept.position (reached before (take i lines))))
moved_at before [] i kept below here moved = absurd (omega arith)
moved_at before (line ∷ lines) zero kept below here moved = subst (λ (k : KeptLine). IsTrue (is_amount (abs_diff k.position before))) (sym here) moved.0
moved_at before (line ∷ lines) (suc i) kept below here moved = moved_at line.position lines i kept (omega arith) here moved.1

-- the line at an index
pub line_there : (J : List Event) (number before : ℕ) (lines : List KeptLine) (i : ℕ) (kept : KeptLine) → i < length lines → kept ≡ get_or lines i kept
    → slice_get (lines_at J number before lines) i ≡ Some (line_at J (number + i) (reached before (take i lines)) kept)
line_there J number before [] i kept below here = absurd (omega arith)
line_there J number before (line ∷ lines) zero kept below here =
    let same : number ≡ number + 0 = omega arith in
    ap (λ n. Some (line_at J n before line)) same ∙ ap (λ k. Some (line_at J (number + 0) before k)) (sym here)
line_there J number before (line ∷ lines) (suc i) kept below here =
    let same : number + 1 + i ≡ number + suc i = omega arith in
    line_there J (number + 1) line.position lines i kept (omega arith) here ∙ ap (λ n. Some (line_at J n (reached line.position (take i lines)) kept)) same

pub lines_length : (J : List Event) (number before : ℕ) (lines : List KeptLine) → length (lines_at J number before lines) ≡ length lines
lines_length J number before [] = refl
lines_length J number before (line ∷ lines) = omega (arith, lines_length J (number + 1) line.position lines)

-- a line more
pub lines_push : (J : List Event) (number before : ℕ) (lines : List KeptLine) (kept : KeptLine)
    → lines_at J number before (lines ++ kept ∷ []) ≡ lines_at J number before lines ++ line_at J (number + length lines) (reached before lines) kept ∷ []
lines_push J number before [] kept =
    let same : number ≡ number + 0 = omega arith in
    ap (λ n. line_at J n before kept ∷ []) same
lines_push J number before (line ∷ lines) kept =
    let same : number + 1 + length lines ≡ number + length (line ∷ lines) = omega arith in
    ap (λ L. line_at J number before line ∷ L)
    (lines_push J (number + 1) line.position lines kept ∙ ap (λ n. lines_at J (number + 1) line.position lines ++ line_at J n (reached line.position lines) kept ∷ []) same)

-- what has a name has it after one event more
name_stands : (J : List Event) (new : Event) (index : ℕ) → IsSome (name_at J index) → name_at (J ++ new ∷ []) index ≡ name_at J index
name_stands [] new index named = absurd (false≢true named)
name_stands (event ∷ J) new zero named = refl
name_stands (event ∷ J) new (suc index) named = name_stands J new index named

-- the new event's name
pub name_last : (J : List Event) (new : Event) → name_at (J ++ new ∷ []) (length J) ≡ line_name new
name_last [] new = refl
name_last (event ∷ J) new = name_last J new

line_stands : (J : List Event) (new : Event) (number before : ℕ) (kept : KeptLine) → IsSome (name_at J kept.event) → line_at (J ++ new ∷ []) number before kept ≡ line_at J number before kept
line_stands J new number before kept named =
    ap
    (λ (name : Option (List ℕ)).
    let line : Line = record { number = number; kind = kept.kind; other = kept.other; id = unwrap_or name []; cents = abs_diff kept.position before; position = kept.position } in
    line)
    (name_stands J new kept.event named)

-- named lines are the same after one event more
pub kept_stand : (J : List Event) (new : Event) (number before : ℕ) (lines : List KeptLine) → AreNamed J lines → lines_at (J ++ new ∷ []) number before lines ≡ lines_at J number before lines
kept_stand J new number before [] named = refl
kept_stand J new number before (line ∷ lines) named =
    ap (λ l. l ∷ lines_at (J ++ new ∷ []) (number + 1) line.position lines) (line_stands J new number before line (All-head (λ (k : KeptLine). IsSome (name_at J k.event)) line lines named))
    ∙ ap (λ L. line_at J number before line ∷ L) (kept_stand J new (number + 1) line.position lines (All-tail (λ (k : KeptLine). IsSome (name_at J k.event)) line lines named))

pub named_stand : (J : List Event) (new : Event) (lines : List KeptLine) → AreNamed J lines → AreNamed (J ++ new ∷ []) lines
named_stand J new lines named =
    All-weaker (λ (k : KeptLine). IsSome (name_at J k.event)) (λ (k : KeptLine). IsSome (name_at (J ++ new ∷ []) k.event))
    (λ k here. ap is_some (name_stands J new k.event here) ∙ here) lines named

-- and with the line of the new event
pub named_push : (J : List Event) (new : Event) (lines : List KeptLine) (kept : KeptLine) → kept.event ≡ length J → IsSome (line_name new) → AreNamed J lines → AreNamed (J ++ new ∷ []) (lines ++ kept ∷ [])
named_push J new lines kept last here named =
    All-push (λ (k : KeptLine). IsSome (name_at (J ++ new ∷ []) k.event)) lines kept (named_stand J new lines named)
    (ap (λ i. is_some (name_at (J ++ new ∷ []) i)) last ∙ ap is_some (name_last J new) ∙ here)
