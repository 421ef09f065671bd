-- What the walk knows at each front of the history.
use Rattle.std.proofs.Common.{◌≡◌, ℕ, ◌+◌, ◌*◌, ◌<◌, ◌≤◌, false, cond, List, [], ◌∷◌, ◌++◌, length, take, drop, get_or, Some, None, count_by, refl, sym, ap, subst, ◌∙◌, arith, take-append-drop, drop-cons, add-one}
use Rattle.std.proofs.lemmas.List.{take_more, length-take-le}
use Rattle.std.proofs.Math.Nat.{mul-le-mul}
use Rattle.indexmap.specs.IndexMap.{IndexMap}
use Rattle.inst_base.specs.declared.cents.TheConstants.{MOST_CENTS}
use Rattle.inst_settings.specs.Settings.{HubSettings}
use Rattle.inst_settings.specs.Lawful.{IsSettings}
use Rattle.inst_command.specs.declared.line.LineKind.{LineKind}
use Rattle.inst_command.specs.declared.line.LineKind.TheVariants.{Funded as FundedKind, Defunded as DefundedKind, Received, Paid}
use Rattle.inst_journal.specs.declared.event.Event.{Event}
use Rattle.inst_journal.specs.declared.event.Event.TheVariants.{Funded, Defunded, Taken, Forwarded, Booked, Fetched, Opened}
use Rattle.inst_journal.specs.Lines.{raised}
use Rattle.inst_journal.specs.Opened.{is_opening}
use Rattle.inst_journal.specs.Sound.{Fits, FitAfter, IsSound}
use Rattle.inst_journal.proofs.CountsOfEvents.{count_push, one_more as once_more}
use Rattle.inst_journal.proofs.WalkOverFronts.{may_have_line, lines_few, rest_fits, sound_front}
use Rattle.inst_statement.specs.declared.movement.Movement.{Movement}
use Rattle.inst_statement.specs.inner.Movement.{movement_of}
use Rattle.inst_statement.specs.inner.Kept.{AreKept, IsNewTransfer}
use Rattle.inst_statement.specs.Someones.{IsSomeones}
use Rattle.inst_statement.specs.KeptLine.{reached}
use Rattle.inst_statement.specs.KeptStatement.{Stated, MayAdd, AddsLine, IsStatementOf, position_of}
use Rattle.inst_statement.proofs.KeptStatementStaysRight.{may_line, position_same, stated_same, covers_movement, line_added, line_less, line_anew, number_fits}

-- what the walk holds at a front of the history: its transfers, its statement, and a position that its lines bound
pub record Stands {S : Type 0} (front : List Event) (taken : IndexMap (List ℕ) (ℕ × ℕ) S) (forwarded : IndexMap (ℕ × List ℕ) ℕ S) (stated : Stated) : Type 0 where
  pub kept : AreKept front taken forwarded
  pub lines : IsStatementOf front stated
  pub bounded : position_of stated ≤ count_by may_have_line front * MOST_CENTS

-- an event of a participant's history, after the events before it
pub record Passes (J : List Event) (i : ℕ) (x : Event) : Type 0 where
  pub settings : HubSettings
  pub who : ℕ
  pub lawful : IsSettings settings
  pub whole : IsSound settings who J
  pub sound : IsSound settings who (take i J)
  pub fits : Fits settings who (take i J) x
  pub next : take (i + 1) J ≡ take i J ++ x ∷ []
  pub last : i ≡ length (take i J)

pub passes_of : (J items : List Event) (i : ℕ) (x : Event) → items ≡ J → IsSomeones J → i < length items → x ≡ get_or items i x → Passes J i x
passes_of J items i x same someones below here =
    let s : HubSettings = someones.settings in
    let who : ℕ = someones.who in
    let within : i < length J = omega (arith, ap length same, below) in
    let there : x ≡ get_or J i x = here ∙ ap (λ l. get_or l i x) same in
    let rest : drop i J ≡ x ∷ drop (i + 1) J = rw add-one (drop-cons J i x within) ∙ ap (λ y. y ∷ drop (i + 1) J) (sym there) in
    let split : IsSound s who (take i J ++ drop i J) = subst (IsSound s who) (sym (take-append-drop i J)) someones.sound in
    let after : FitAfter s who (take i J) (x ∷ drop (i + 1) J) = subst (FitAfter s who (take i J)) rest (rest_fits s who [] (take i J) (drop i J) split) in
    record {
      settings = s;
      who = who;
      lawful = someones.lawful;
      whole = someones.sound;
      sound = sound_front s who J i someones.sound;
      fits = after.0;
      next = take_more J i x within ∙ ap (λ y. take i J ++ y ∷ []) (sym there);
      last = sym (length-take-le i J (omega arith));
    }

-- a transfer is new where it comes
is_new : (s : HubSettings) (who : ℕ) (front : List Event) (x : Event) → Fits s who front x → IsNewTransfer front x
is_new s who front (Taken id to cents stamp) fits = fits.new
is_new s who front (Forwarded from id cents deadline) fits = fits.new
is_new s who front (Funded funding) fits = tt
is_new s who front (Defunded funding) fits = tt
is_new s who front (Booked from id outcome) fits = tt
is_new s who front (Fetched count) fits = tt
is_new s who front Opened fits = tt

pub new_there : (J : List Event) (i : ℕ) (x : Event) → Passes J i x → IsNewTransfer (take i J) x
new_there J i x p = is_new p.settings p.who (take i J) x p.fits

raised_le : (kind : LineKind) (cents : ℕ) → raised kind cents ≤ cents
raised_le FundedKind cents = omega arith
raised_le DefundedKind cents = omega arith
raised_le Received cents = omega arith
raised_le Paid cents = omega arith

one_more : (J : List Event) (i : ℕ) (x : Event) (m : Movement) → Passes J i x → movement_of (take i J) x ≡ Some m → count_by may_have_line (take i J ++ x ∷ []) ≡ count_by may_have_line (take i J) + 1
one_more J i x m p is =
    let one : ◌≡◌ {A = ℕ} (cond (may_have_line x) 1 0) 1 = ap {B = ℕ} (λ b. cond b 1 0) (may_line (take i J) x m is) in
    omega (arith, count_push may_have_line (take i J) x, one)

few : (J : List Event) (i : ℕ) (x : Event) (m : Movement) → Passes J i x → movement_of (take i J) x ≡ Some m → count_by may_have_line (take i J) + 1 ≤ 140000000
few J i x m p is = omega (arith, ap (count_by may_have_line) p.next, one_more J i x m p is, lines_few p.settings p.who J (i + 1) p.lawful p.whole)

-- the line of a movement may be added where there is room
pub may_add : {S : Type 0} {taken : IndexMap (List ℕ) (ℕ × ℕ) S} {forwarded : IndexMap (ℕ × List ℕ) ℕ S} (J : List Event) (i : ℕ) (x : Event) (m : Movement) (before now : Stated) → Passes J i x → movement_of (take i J) x ≡ Some m → m.cents ≤ MOST_CENTS
    → Stands (take i J) taken forwarded before → now.lines ≡ before.lines → now.begun ≡ before.begun → 0 < now.room → MayAdd now m
may_add J i x m before now p is most stands lines begun room =
    let same : IsStatementOf (take i J) now = stated_same before now lines begun stands.lines in
    record {
      room = room;
      covered = covers_movement p.settings p.who (take i J) x p.sound p.fits m now is same;
      fits = omega (arith, position_same before now lines begun, most, raised_le m.kind m.cents, stands.bounded, few J i x m p is);
      few = number_fits p.settings p.who (take i J) now p.lawful p.sound same;
    }

-- the bound after one event more
bounded_still : (front : List Event) (x : Event) (n : ℕ) → n ≤ count_by may_have_line front * MOST_CENTS → n ≤ count_by may_have_line (front ++ x ∷ []) * MOST_CENTS
bounded_still front x n le =
    let more : count_by may_have_line front ≤ count_by may_have_line (front ++ x ∷ []) = omega (arith, count_push may_have_line front x) in
    let times : count_by may_have_line front * MOST_CENTS ≤ count_by may_have_line (front ++ x ∷ []) * MOST_CENTS = mul-le-mul more (le-self MOST_CENTS) in
    omega (arith, le, times)
  where
    le-self : (a : ℕ) → a ≤ a
    le-self a = omega arith

at_next : {S : Type 0} {taken : IndexMap (List ℕ) (ℕ × ℕ) S} {forwarded : IndexMap (ℕ × List ℕ) ℕ S} (J : List Event) (i : ℕ) (x : Event) → Passes J i x → (stated : Stated) → Stands (take i J ++ x ∷ []) taken forwarded stated → Stands (take (i + 1) J) taken forwarded stated
at_next {S} {taken} {forwarded} J i x p stated stands = subst (λ F. Stands F taken forwarded stated) (sym p.next) stands

module _ {S : Type 0} {taken after_taken : IndexMap (List ℕ) (ℕ × ℕ) S} {forwarded after_forwarded : IndexMap (ℕ × List ℕ) ℕ S} (J : List Event) (i : ℕ) (x : Event) (p : Passes J i x)
    (kept : AreKept (take i J ++ x ∷ []) after_taken after_forwarded) where
  -- a line more
  pub stands_added : (m : Movement) (before now after : Stated) → movement_of (take i J) x ≡ Some m → m.cents ≤ MOST_CENTS → Stands (take i J) taken forwarded before
      → now.lines ≡ before.lines → now.begun ≡ before.begun → AddsLine now i m after → Stands (take (i + 1) J) after_taken after_forwarded after
  stands_added m before now after is most stands lines begun adds =
      let same : IsStatementOf (take i J) now = stated_same before now lines begun stands.lines in
      at_next J i x p after (record {
        kept = kept;
        lines = line_added p.settings p.who (take i J) x p.sound p.fits m i now after is p.last same adds;
        bounded = rw (one_more J i x m p is) (omega (arith, adds.leads, position_same before now lines begun, most, raised_le m.kind m.cents, stands.bounded, once_more (count_by may_have_line (take i J)) MOST_CENTS));
      })

  -- an event without a line
  pub stands_same : (stated : Stated) → movement_of (take i J) x ≡ None → is_opening x ≡ false → Stands (take i J) taken forwarded stated → Stands (take (i + 1) J) after_taken after_forwarded stated
  stands_same stated none other stands = at_next J i x p stated (record {
    kept = kept;
    lines = line_less p.settings p.who (take i J) x p.sound p.fits stated stated none other refl refl stands.lines;
    bounded = bounded_still (take i J) x (position_of stated) stands.bounded;
  })

  -- an opening
  pub stands_begun : (before after : Stated) → x ≡ Opened → after.lines ≡ [] → after.begun ≡ position_of before → Stands (take i J) taken forwarded before → Stands (take (i + 1) J) after_taken after_forwarded after
  stands_begun before after opened none begun stands = at_next J i x p after (record {
    kept = kept;
    lines = subst (λ (e : Event). IsStatementOf (take i J ++ e ∷ []) after) (sym opened)
        (line_anew p.settings p.who (take i J) before after p.sound (subst (Fits p.settings p.who (take i J)) opened p.fits) none begun stands.lines);
    bounded = bounded_still (take i J) x (position_of after) (omega (arith, ap (reached after.begun) none, begun, stands.bounded));
  })
