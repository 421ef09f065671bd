-- A transfer that was forwarded is live at its beneficiary exactly if it is at its originator.
use Rattle.std.proofs.Common.{◌≡◌, ℕ, ◌+◌, ◌<◌, Bool, true, false, ◌&&◌, cond, eqb, ◌||◌, inl, inr, List, [], ◌∷◌, ◌++◌, length, Option, Some, None, is_none, refl, sym, ap, subst, ◌∙◌, arith, sum_by, count_by}
use Rattle.std.specs.List.{filter}
use Rattle.std.proofs.lemmas.List.Sums.{sum_by-cons, length-filter}
use Rattle.inst_settings.specs.Settings.{HubSettings}
use Rattle.inst_command.specs.declared.outcome.Outcome.{Outcome}
use Rattle.inst_journal.specs.declared.event.Event.{Event}
use Rattle.inst_journal.specs.declared.event.Event.TheVariants.{Funded, Defunded, Taken, Forwarded, Booked, Fetched, Opened}
use Rattle.inst_journal.specs.Booked.{is_forwarded, forwards, booked, same_transfer}
use Rattle.inst_journal.specs.Opened.{carried, takes_live, live_submissions, forwards_live, live_forwarded}
use Rattle.inst_journal.proofs.CountsOfEvents.{submissions_within, stranger_unbooked}
use Rattle.inst_journal.proofs.EventsCarriedOverOpening.{carried_push, carried_unbooked}
use Rattle.inst_journal.proofs.OneMoreElement.{list_any_push, or-false}
use Rattle.inst_command.specs.declared.step.Step.{Step}
use Rattle.std.proofs.lemmas.Bool.{or_cases}
use Rattle.inst_model.proofs.TextsTestsAndFirstThings.{same_transfer-true}
use Rattle.inst_model.proofs.Histories.{next, grows, persists_within}
use Rattle.inst_model.proofs.Transfers.{as_transfer, place_to_another, place_live}
use Rattle.inst_model.specs.Transfer.{Transfer, transfers, live_transfers, at_place, deadline}
use Rattle.inst_model.proofs.Sums.{sum_by_same, each_of, count_below}
use Rattle.inst_model.proofs.Mirror.{Together, weighed, weighed_there}

-- what is forwarded is live on both sides or on neither
abbrev pub Living : (ℕ → List Event) → Type 0
Living J = (q from : ℕ) (id : List ℕ) → is_forwarded from id (J q) ≡ true → is_none (booked from id (carried (J q))) ≡ is_none (booked from id (carried (J from)))

live_count : (who : ℕ) (C J : List Event) → count_by (takes_live who C) J ≡ count_by (λ (x : Transfer). is_none (booked who x.id C)) (transfers J)
live_count who C [] = refl
live_count who C (Taken id to cents stamp ∷ J) =
    let left : count_by (takes_live who C) (Taken id to cents stamp ∷ J) ≡ cond (is_none (booked who id C)) 1 0 + count_by (takes_live who C) J = sum_by-cons (λ e. cond (takes_live who C e) 1 0) (Taken id to cents stamp) J in
    let right : count_by (λ (x : Transfer). is_none (booked who x.id C)) (transfers (Taken id to cents stamp ∷ J)) ≡ cond (is_none (booked who id C)) 1 0 + count_by (λ (x : Transfer). is_none (booked who x.id C)) (transfers J) =
    sum_by-cons (λ (x : Transfer). cond (is_none (booked who x.id C)) 1 0) (as_transfer id to cents stamp) (transfers J) in
    omega (arith, left, right, live_count who C J)
live_count who C (Funded funding ∷ J) = omega (arith, live_count who C J, sum_by-cons (λ e. cond (takes_live who C e) 1 0) (Funded funding) J)
live_count who C (Defunded funding ∷ J) = omega (arith, live_count who C J, sum_by-cons (λ e. cond (takes_live who C e) 1 0) (Defunded funding) J)
live_count who C (Forwarded from id cents d ∷ J) = omega (arith, live_count who C J, sum_by-cons (λ e. cond (takes_live who C e) 1 0) (Forwarded from id cents d) J)
live_count who C (Booked from id o ∷ J) = omega (arith, live_count who C J, sum_by-cons (λ e. cond (takes_live who C e) 1 0) (Booked from id o) J)
live_count who C (Fetched count ∷ J) = omega (arith, live_count who C J, sum_by-cons (λ e. cond (takes_live who C e) 1 0) (Fetched count) J)
live_count who C (Opened ∷ J) = omega (arith, live_count who C J, sum_by-cons (λ e. cond (takes_live who C e) 1 0) Opened J)

pub length_live : (who : ℕ) (J : List Event) → length (live_transfers who J) ≡ live_submissions who J
length_live who J = length-filter (λ (x : Transfer). is_none (booked who x.id (carried J))) (transfers J) ∙ sym (live_count who (carried J) J)

weight_both : (a b : Bool) → ◌≡◌ {A = ℕ} (cond (a && b) 1 0) (cond a (cond b 1 0) 0)
weight_both true b = refl
weight_both false b = refl

forwards_weighed : (from : ℕ) (C : List Event) (event : Event) → cond (forwards_live from C event) 1 0 ≡ weighed (λ id cents. cond (is_none (booked from id C)) 1 0) from event
forwards_weighed from C (Forwarded other id cents d) = weight_both (eqb other from) (is_none (booked from id C))
forwards_weighed from C (Funded funding) = refl
forwards_weighed from C (Defunded funding) = refl
forwards_weighed from C (Taken id to cents stamp) = refl
forwards_weighed from C (Booked other id o) = refl
forwards_weighed from C (Fetched count) = refl
forwards_weighed from C Opened = refl

there_live : (there here live : Bool) → (there ≡ true → here ≡ live) → ◌≡◌ {A = ℕ} (cond there (cond here 1 0) 0) (cond live (cond there 1 0) 0)
there_live true here true same = ap {B = ℕ} (λ b. cond b 1 0) (same refl)
there_live true here false same = ap {B = ℕ} (λ b. cond b 1 0) (same refl)
there_live false here true same = refl
there_live false here false same = refl

count_filter : (f live : Transfer → Bool) (T : List Transfer) → sum_by (λ x. cond (live x) (cond (f x) 1 0) 0) T ≡ count_by f (filter live T)
count_filter f live [] = refl
count_filter f live (x ∷ T) = sum_by-cons (λ x. cond (live x) (cond (f x) 1 0) 0) x T ∙ ap (λ n. cond (live x) (cond (f x) 1 0) 0 + n) (count_filter f live T) ∙ go (live x)
  where
    go : (b : Bool) → cond b (cond (f x) 1 0) 0 + count_by f (filter live T) ≡ count_by f (cond b (x ∷ filter live T) (filter live T))
    go true = sym (sum_by-cons (λ y. cond (f y) 1 0) x (filter live T))
    go false = omega arith

-- there is a place for a transfer that comes
pub place_left : (s : HubSettings) (J : ℕ → List Event) (p from k : ℕ) (x : Transfer) → Together s J → Living J → at_place from (J from) k ≡ Some x → is_forwarded from x.id (J p) ≡ false → live_forwarded from (J p) < s.places
place_left s J p from k x t living there new =
    let T : List Transfer = transfers (J from) in
    let C : List Event = carried (J p) in
    let g : List ℕ → ℕ → ℕ = λ id cents. cond (is_none (booked from id C)) 1 0 in
    let live : Transfer → Bool = λ y. is_none (booked from y.id (carried (J from))) in
    let come : Transfer → Bool = λ y. is_forwarded from y.id (J p) in
    let counted : live_forwarded from (J p) ≡ sum_by (weighed g from) (J p) =
    sum_by_same (λ event. cond (forwards_live from C event) 1 0) (weighed g from) (J p) (each_of (λ event. cond (forwards_live from C event) 1 0 ≡ weighed g from event) (J p) (forwards_weighed from C)) in
    let mirrored : sum_by (weighed g from) (J p) ≡ sum_by (weighed_there g from (J p)) T = t.mirror p from g in
    let both : sum_by (weighed_there g from (J p)) T ≡ sum_by (λ y. cond (live y) (cond (come y) 1 0) 0) T =
    sum_by_same (weighed_there g from (J p)) (λ y. cond (live y) (cond (come y) 1 0) 0) T (each_of (λ (y : Transfer). weighed_there g from (J p) y ≡ cond (live y) (cond (come y) 1 0) 0) T (λ y. there_live (come y) (is_none (booked from y.id C)) (live y) (living p from y.id))) in
    let fewer : count_by come (filter live T) < length (filter live T) = count_below come (filter live T) k x there new in
    omega (arith, counted, mirrored, both, count_filter come live T, fewer, length_live from (J from), submissions_within s from (J from) (t.sound from))

carried_next : (s : HubSettings) (J : ℕ → List Event) (before : ℕ → List ℕ → Option Outcome) (step : Step) (p : ℕ) → carried (next s J before step p) ≡ carried (J p)
carried_next s J before step p = persists_within s J before step p (λ K. carried K ≡ carried (J p)) (λ K event other here. carried_push K event other ∙ here) refl

pub living_next : (s : HubSettings) (J : ℕ → List Event) (before : ℕ → List ℕ → Option Outcome) (step : Step) → Together s J → Living J → Living (next s J before step)
living_next s J before step t living q from id e =
    ap (λ C. is_none (booked from id C)) (carried_next s J before step q)
    ∙ grows s J before step q (λ K. is_forwarded from id K ≡ true → is_none (booked from id (carried (J q))) ≡ is_none (booked from id (carried (J from)))) (record {
      nothing = living q from id;
      funds = λ ask funding is command why. other (Funded funding) refl;
      defunds = λ ask funding is command why cover. other (Defunded funding) refl;
      takes = λ ask i to cents stamp is command why. other (Taken i to cents stamp) refl;
      forwards = λ o index x is why there.
          elim (or_cases (is_forwarded from id (J q)) (same_transfer from id o x.id) (sym (list_any_push (forwards from id) (J q) (Forwarded o x.id x.cents (deadline s x))) ∙ there)) [
            | inl old ↦ living q from id old
            | inr new ↦
                let same : (o ≡ from) × (x.id ≡ id) = same_transfer-true from id o x.id new in
                let unbooked : booked o x.id (carried (J q)) ≡ None =
                carried_unbooked o x.id (J q) (stranger_unbooked s q o x.id (J q) (t.sound q) (λ own. absurd (place_to_another s o (J o) index x (t.sound o) why.there (why.addressed ∙ sym own))) why.new) in
                let live : is_none (booked o x.id (carried (J o))) ≡ true = place_live o (J o) index x why.there in
                let at_x : is_none (booked o x.id (carried (J q))) ≡ is_none (booked o x.id (carried (J o))) = ap is_none unbooked ∙ sym live in
                let at_from : is_none (booked from x.id (carried (J q))) ≡ is_none (booked from x.id (carried (J from))) =
                subst (λ (f : ℕ). is_none (booked f x.id (carried (J q))) ≡ is_none (booked f x.id (carried (J f)))) same.0 at_x in
                subst (λ (i : List ℕ). is_none (booked from i (carried (J q))) ≡ is_none (booked from i (carried (J from)))) same.1 at_from
          ];
      books = λ f i o why. other (Booked f i o) refl;
      hands_out = λ ask max entry entries is command some. other (Fetched _) refl;
    }) e
    ∙ sym (ap (λ C. is_none (booked from id C)) (carried_next s J before step from))
  where
    other : (event : Event) → forwards from id event ≡ false → is_forwarded from id (J q ++ event ∷ []) ≡ true → is_none (booked from id (carried (J q))) ≡ is_none (booked from id (carried (J from)))
    other event none there = living q from id (sym (list_any_push (forwards from id) (J q) event ∙ ap (λ b. is_forwarded from id (J q) || b) none ∙ or-false (is_forwarded from id (J q))) ∙ there)
