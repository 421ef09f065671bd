-- The boards of a hub that opens.
use Rattle.std.proofs.Common.{◌≡◌, ℕ, zero, suc, ◌*◌, ◌+◌, ◌-◌, ◌<◌, ◌≤◌, List, [], ◌∷◌, ◌++◌, length, get_or, take, drop, replicate, ⊎_elim, sym, refl, ap, ◌∙◌, subst, arith, Some, length-append}
use Rattle.std.specs.Prelude.{Contains, slice_get, ◌↔◌}
use Rattle.std.proofs.Math.Nat.{suc-mul}
use mathlib.Core.Logic.{dite}
use native.Mathlib.Decide.{ℕ_discrete}
use Rattle.inst_base.proofs.Lists.{snoc_cases}
use Rattle.inst_settings.specs.Settings.{HubSettings, participants}
use Rattle.inst_board.specs.declared.about.Fact.{Fact}
use Rattle.inst_board.specs.Standing.{IsPlace}
use Rattle.inst_board.specs.Plain.{place_number}
use Rattle.inst_cell.specs.declared.view.Known.{Known}
use Rattle.inst_cell.specs.declared.view.View.{View}
use Rattle.inst_cell.specs.declared.shared_board.SharedBoard.{SharedBoard}
use Rattle.inst_cell.specs.declared.sight.Sight.{Sight}
use Rattle.inst_cell.specs.View.{known, all_that_is_known, count, roles_from, with_role, without_role, informed_view}
use Rattle.inst_cell.specs.Rule.{count_of_places}
use Rattle.inst_cell.specs.Held.{settings_of, table_of, view_of, roles_of, has_role, knows, AtOneTable}
use Rattle.inst_cell.specs.Seen.{board_of_sight}
use Rattle.inst_cell.specs.Opening.{HasAllRoles, IsWhole, IsDealt, IsAdmitted, AreDealt, AreAdmitted, AreOpened}
use Rattle.inst_cell.proofs.Tally.{count_one, count_left, count_right, only_role}

pub some_words : (a b x : ℕ) → 1 ≤ a → 1 ≤ b → x ≡ b * a * 6 → 0 < x
some_words a zero x ha hb e = absurd (omega arith)
some_words zero (suc b) x ha hb e = absurd (omega arith)
some_words (suc a) (suc b) x ha hb e = let s = suc-mul b (suc a) in omega arith

pub five_words : (a b x : ℕ) → 1 ≤ a → 1 ≤ b → x ≡ b * a * 6 → 5 < x
five_words a zero x ha hb e = absurd (omega arith)
five_words zero (suc b) x ha hb e = absurd (omega arith)
five_words (suc a) (suc b) x ha hb e = let s = suc-mul b (suc a) in omega arith

-- there is a first place
pub first_below : (s : HubSettings) (a b : ℕ) → 1 ≤ a → 1 ≤ b → a ≡ participants s → b ≡ s.places → 0 < count_of_places s
first_below s a b ha hb ea eb =
    subst (λ (x : ℕ). 0 < x * participants s) eb (subst (λ (x : ℕ). 0 < b * x) ea (product a b ha hb))
  where
    product : (a b : ℕ) → 1 ≤ a → 1 ≤ b → 0 < b * a
    product a zero ha hb = absurd (omega arith)
    product zero (suc b) ha hb = absurd (omega arith)
    product (suc a) (suc b) ha hb = let s = suc-mul b (suc a) in omega arith

abbrev pub blank : ℕ → List ℕ
blank n = replicate n 0

pub zeros : (n x : ℕ) → get_or (blank n) x 0 ≡ 0
zeros zero x = refl
zeros (suc n) zero = refl
zeros (suc n) (suc x) = zeros n x

pub sized_as : (l a b : ℕ) (s t : HubSettings) → l ≡ a * b * 6 → a ≡ t.places → b ≡ participants t → s ≡ t → l ≡ count_of_places s * 6
sized_as l a b s t e p q f = e ∙ (ap (λ (x : ℕ). x * b * 6) p ∙ (ap (λ (x : ℕ). t.places * x * 6) q ∙ ap (λ (x : HubSettings). count_of_places x * 6) (sym f)))

roles_cut : (i n : ℕ) → i < n → roles_from i (n - i) ≡ i ∷ roles_from (suc i) (n - suc i)
roles_cut i n h = let e : n - i ≡ suc (n - suc i) = omega arith in ap (λ (m : ℕ). roles_from i m) e

-- each participant's role is among those of all
pub role_among : (p a n : ℕ) → a ≤ p → p < a + n → 0 < count p (roles_from a n)
role_among p a zero low high = absurd (omega arith)
role_among p a (suc n) low high = dite (ℕ_discrete a p)
    (λ e. count_left p (a ∷ []) (roles_from (suc a) n) (subst (λ (x : ℕ). 0 < count p (x ∷ [])) (sym e) (count_one p)))
    (λ ne. count_right p (a ∷ []) (roles_from (suc a) n) (role_among p (suc a) n (omega arith) (omega arith)))

-- who has all roles has that of each participant
pub whole_role : (b : SharedBoard) (p : ℕ) → HasAllRoles b → p < participants (settings_of b) → has_role b p
whole_role b p all below = subst (λ (r : List ℕ). 0 < count p r) (sym all) (role_among p 0 (participants (settings_of b)) (omega arith) (omega arith))

-- over the same settings with all roles they are the same
pub whole_still : (a b : SharedBoard) → settings_of b ≡ settings_of a → roles_of b ≡ roles_of a → HasAllRoles a → HasAllRoles b
whole_still a b same roles all = roles ∙ (all ∙ ap (λ (s : HubSettings). roles_from 0 (participants s)) (sym same))

knows_across : (a b : SharedBoard) (f : Fact) → settings_of b ≡ settings_of a → all_that_is_known (view_of b) ≡ all_that_is_known (view_of a) → knows b f → knows a f
knows_across a b f same facts h = (
  subst (λ (s : HubSettings). IsPlace s f.place) same h.0,
  subst (λ (l : List Known). Contains l (known (place_number (settings_of a) f.place) f.about)) facts
      (subst (λ (s : HubSettings). Contains (all_that_is_known (view_of b)) (known (place_number s f.place) f.about)) same h.1),
)

-- boards of one hub with the same facts know the same
pub same_facts : (a b : SharedBoard) (f : Fact) → settings_of b ≡ settings_of a → all_that_is_known (view_of b) ≡ all_that_is_known (view_of a) → knows b f ↔ knows a f
same_facts a b f same facts = (knows_across a b f same facts, knows_across b a f (sym same) (sym facts))

-- the boards of the participants below `next`, and the board that has the other roles
pub record Dealt (all0 : SharedBoard) (n next : ℕ) (all : SharedBoard) (boards : List SharedBoard) : Type 0 where
  pub enough : length boards ≡ next
  pub one : AtOneTable all0 all
  pub roles : roles_of all ≡ roles_from next (n - next)
  pub facts : all_that_is_known (view_of all) ≡ all_that_is_known (view_of all0)
  pub each : (p : ℕ) (b : SharedBoard) → slice_get boards p ≡ Some b → IsDealt (settings_of all0) (table_of all0) (knows all0) p b

-- a board that has the role i alone
alone_role : (b : SharedBoard) (i q : ℕ) → roles_of b ≡ i ∷ [] → has_role b q ↔ (q ≡ i)
alone_role b i q e = (
  λ h. only_role i q (subst (λ (r : List ℕ). 0 < count q r) e h),
  λ h. subst (λ (r : List ℕ). 0 < count q r) (sym e) (subst (λ (x : ℕ). 0 < count x (i ∷ [])) (sym h) (count_one i)),
)

pub dealt_more : (all0 : SharedBoard) (n i : ℕ) (all later new : SharedBoard) (boards : List SharedBoard) → Dealt all0 n i all boards → i < n
    → AtOneTable all new → view_of new ≡ with_role (view_of all)
    → AtOneTable all later → view_of later ≡ without_role (view_of all)
    → Dealt all0 n (i + 1) later (boards ++ new ∷ [])
dealt_more all0 n i all later new boards d below t1 v1 t2 v2 =
    let cut : roles_of all ≡ i ∷ roles_from (suc i) (n - suc i) = d.roles ∙ roles_cut i n below in
    let next : suc i ≡ i + 1 = omega arith in
    let mine : roles_of new ≡ i ∷ [] = ap (λ (u : View). u.roles) v1 ∙ ap (λ (r : List ℕ). take 1 r) cut in
    let rest : roles_of later ≡ roles_from (suc i) (n - suc i) = ap (λ (u : View). u.roles) v2 ∙ ap (λ (r : List ℕ). drop 1 r) cut in
    let dealt : IsDealt (settings_of all0) (table_of all0) (knows all0) i new = record {
      settings = t1.1 ∙ d.one.1;
      table = t1.0 ∙ d.one.0;
      role = λ q. alone_role new i q mine;
      known = λ f. same_facts all0 new f (t1.1 ∙ d.one.1) (ap all_that_is_known v1 ∙ d.facts);
    } in
    let many = d.enough in
    record {
      enough = length-append boards (new ∷ []) ∙ (let z : length boards + length (new ∷ []) ≡ i + 1 = omega arith in z);
      one = (t2.0 ∙ d.one.0, t2.1 ∙ d.one.1);
      roles = rest ∙ ap (λ (x : ℕ). roles_from x (n - x)) next;
      facts = ap all_that_is_known v2 ∙ d.facts;
      each = λ p b f. ⊎_elim (λ old. d.each p b old)
          (λ last. subst (λ (x : SharedBoard). IsDealt (settings_of all0) (table_of all0) (knows all0) p x) last.1
          (subst (λ (x : ℕ). IsDealt (settings_of all0) (table_of all0) (knows all0) x new) (sym (last.0 ∙ d.enough)) dealt))
          (snoc_cases boards new b p f);
    }

-- the sights that were admitted by a board that knows nothing
pub record Seated (all0 : SharedBoard) (next : ℕ) (all : SharedBoard) (sights : List Sight) : Type 0 where
  pub enough : length sights ≡ next
  pub one : AtOneTable all0 all
  pub same : view_of all ≡ view_of all0
  pub each : (i : ℕ) (t : Sight) → slice_get sights i ≡ Some t → IsAdmitted (settings_of all0) (table_of all0) t

pub seated_more : (all0 : SharedBoard) (i : ℕ) (all later : SharedBoard) (new : Sight) (sights : List Sight) → ((f : Fact) → ¬ knows all0 f) → Seated all0 i all sights
    → AtOneTable all (board_of_sight new) → view_of (board_of_sight new) ≡ informed_view (view_of all)
    → AtOneTable all later → view_of later ≡ view_of all
    → Seated all0 (i + 1) later (sights ++ new ∷ [])
seated_more all0 i all later new sights nothing d t1 v1 t2 v2 =
    let b = board_of_sight new in
    let facts : all_that_is_known (view_of b) ≡ all_that_is_known (view_of all0) = ap all_that_is_known v1 ∙ ap all_that_is_known d.same in
    let admitted : IsAdmitted (settings_of all0) (table_of all0) new = record {
      settings = t1.1 ∙ d.one.1;
      table = t1.0 ∙ d.one.0;
      roles = ap (λ (u : View). u.roles) v1;
      nothing = λ f h. nothing f ((same_facts all0 b f (t1.1 ∙ d.one.1) facts).0 h);
    } in
    let many = d.enough in
    record {
      enough = length-append sights (new ∷ []) ∙ (let z : length sights + length (new ∷ []) ≡ i + 1 = omega arith in z);
      one = (t2.0 ∙ d.one.0, t2.1 ∙ d.one.1);
      same = v2 ∙ d.same;
      each = λ p t f. ⊎_elim (λ old. d.each p t old)
          (λ last. subst (λ (x : Sight). IsAdmitted (settings_of all0) (table_of all0) x) last.1 admitted)
          (snoc_cases sights new t p f);
    }

-- a whole board that knows nothing, dealt
pub opened_dealt : (s : HubSettings) (n : ℕ) (all : SharedBoard) (boards : List SharedBoard) (sights : List Sight) → IsWhole s all → AreAdmitted all n sights → AreDealt all boards → AreOpened s n boards sights
opened_dealt s n all boards sights w are d = record {
  table = table_of all;
  participants = d.enough ∙ ap participants w.settings;
  board = λ p b at. let x = d.each p b at in record { settings = x.settings ∙ w.settings; table = x.table; role = x.role; known = λ f. (λ h. w.nothing f ((x.known f).0 h), λ h. absurd h) };
  enough = are.enough;
  sight = λ i t at. let x = are.each i t at in record { settings = x.settings ∙ w.settings; table = x.table; roles = x.roles; nothing = x.nothing };
}
