-- A worker takes a job more.
use Rattle.std.proofs.Common.{◌≡◌, ℕ, ◌+◌, ◌-◌, ◌^◌, ◌≤◌, cond, Bool, true, false, List, [], ◌∷◌, ◌++◌, length, sym, ap, ◌∙◌, subst, arith, append_assoc}
use Rattle.std.specs.Prelude.{min, filter}
use Rattle.std.proofs.lemmas.List.{length-append}
use Rattle.std.proofs.lemmas.List.Elements.{filter-append}
use mathlib.Core.List.{IsPrefix}
use Rattle.inst_settings.specs.Settings.{HubSettings}
use Rattle.inst_command.specs.Ask.{ask_fits}
use Rattle.inst_desk.specs.declared.desk.Desk.{Desk}
use Rattle.inst_desk.specs.declared.hand.Hand.{Hand}
use Rattle.inst_desk.specs.declared.job.Job.{Job}
use Rattle.inst_desk.specs.Desk.{IsHandOf, IsSameHand, WasEmpty, put_of, jobs_taken}
use Rattle.inst_command.specs.declared.place.Place.{Place}
use Rattle.inst_command.specs.declared.outcome.State.{State}
use Rattle.inst_hub.specs.declared.hub.Hub.{Hub}
use Rattle.inst_hub.specs.declared.teller.Teller.{Teller}
use Rattle.inst_hub.specs.Calls.{IsTellerOf, TellerKnowsMore}
use Rattle.inst_hub.proofs.CallUnderLock.{knows_twice}
use Rattle.inst_crew.specs.declared.shift.Shift.{Shift}
use Rattle.inst_crew.specs.declared.worker.Worker.{Worker}
use Rattle.inst_crew.specs.Crew.{fitting}
use Rattle.inst_crew.specs.Later.{IsLaterHand, IsLaterTeller}
use Rattle.inst_crew.specs.inner.Seen.{AreSeen}
use Rattle.inst_crew.specs.inner.Workers.{Works, ServesOne}
use Rattle.inst_crew.proofs.OneMoreServedJob.{Took, all_more, all_passed}

pub later_more : (hub : Hub) (t u v : Teller) → IsLaterTeller hub t u → IsTellerOf hub v → TellerKnowsMore u v → IsLaterTeller hub t v
later_more hub t u v later of more = record { of = of; knows = knows_twice t u v later.knows more }

pub hand_more : (d : Desk) (g h k : Hand) (job : Job) → IsLaterHand d g h → IsHandOf d k → IsSameHand h k → put_of k ≡ put_of h → jobs_taken k ≡ jobs_taken h ++ job ∷ [] → IsLaterHand d g k
hand_more d g h k job later of same put taken = record {
  of = of;
  same = record { desk = same.desk ∙ later.same.desk; number = same.number ∙ later.same.number; parts = same.parts ∙ later.same.parts };
  put = put ∙ later.put;
  taken = (later.taken.0 ++ job ∷ [], sym (append_assoc (jobs_taken g) later.taken.0 (job ∷ [])) ∙ (ap (λ (l : List Job). l ++ job ∷ []) later.taken.1 ∙ sym taken));
}

pub fitting_both : (s : HubSettings) (xs ys : List Job) → fitting s (xs ++ ys) ≡ fitting s xs + fitting s ys
fitting_both s xs ys =
    let fits : Job → Bool = λ job. ask_fits s job.ask in
    ap length (filter-append fits xs ys) ∙ length-append (filter fits xs) (filter fits ys)

pub fitting_prefix : (s : HubSettings) (xs ys : List Job) → IsPrefix xs ys → fitting s xs ≤ fitting s ys
fitting_prefix s xs ys p = let a = fitting_both s xs p.0 in let b : fitting s (xs ++ p.0) ≡ fitting s ys = ap (fitting s) p.1 in omega arith

-- one job more that fits
fitting_fits : (s : HubSettings) (job : Job) → ask_fits s job.ask ≡ true → fitting s (job ∷ []) ≡ 1
fitting_fits s job e = ap (λ (b : Bool). length (cond b (job ∷ []) [])) e

-- the counts of a worker that took a job more
counted_more : (before now after one answered next : ℕ) → answered ≡ min (now - before) (2 ^ 64 - 1) → before ≤ now → after ≡ now + one → next ≡ min (answered + one) (2 ^ 64 - 1) → next ≡ min (after - before) (2 ^ 64 - 1)
counted_more before now after one answered next e le more is = omega arith

-- a job that doesn't fit counts for nothing
fitting_misfit : (s : HubSettings) (job : Job) → ask_fits s job.ask ≡ false → fitting s (job ∷ []) ≡ 0
fitting_misfit s job e = ap (λ (b : Bool). length (cond b (job ∷ []) [])) e

-- how many of the jobs fit, once this one was taken
fitting_took : (s : HubSettings) (xs ys : List Job) (job : Job) → ys ≡ xs ++ job ∷ [] → fitting s ys ≡ fitting s xs + fitting s (job ∷ [])
fitting_took s xs ys job taken = ap (fitting s) taken ∙ fitting_both s xs (job ∷ [])

-- a job that fits was taken and served
pub works_serves : (hub : Hub) (d : Desk) (w : Worker) (s r : Shift) (k : Hand) (job : Job) → Works hub d w s → Took d s.hand k job → r.hand ≡ k → ask_fits hub.settings job.ask ≡ true
    → IsTellerOf hub r.teller → TellerKnowsMore s.teller r.teller → r.answered ≡ min (s.answered + 1) (2 ^ 64 - 1) → AreSeen r.teller r.states.items → ServesOne hub job.ask s r → Works hub d w r
works_serves hub d w s r k job works took is fits of more answered seen one =
    let t : Took d s.hand r.hand job = subst (λ (x : Hand). Took d s.hand x job) (sym is) took in
    record {
      hand = hand_more d w.hand s.hand r.hand job works.hand t.of t.same t.put t.taken;
      teller = later_more hub w.teller s.teller r.teller works.teller of more;
      answered = counted_more (fitting hub.settings (jobs_taken w.hand)) (fitting hub.settings (jobs_taken s.hand)) (fitting hub.settings (jobs_taken r.hand)) 1 s.answered r.answered
          works.answered (fitting_prefix hub.settings (jobs_taken w.hand) (jobs_taken s.hand) works.hand.taken)
          (fitting_took hub.settings (jobs_taken s.hand) (jobs_taken r.hand) job t.taken ∙ ap (λ n. fitting hub.settings (jobs_taken s.hand) + n) (fitting_fits hub.settings job fits))
          answered;
      states = seen;
      served = all_more hub w s r job works.served t.taken fits one;
    }

-- a job that doesn't fit was taken, and nothing else was done
pub works_passes : (hub : Hub) (d : Desk) (w : Worker) (s r : Shift) (k : Hand) (job : Job) → Works hub d w s → Took d s.hand k job → r.hand ≡ k → ask_fits hub.settings job.ask ≡ false
    → r.teller ≡ s.teller → r.answered ≡ s.answered → r.states.items ≡ s.states.items → Works hub d w r
works_passes hub d w s r k job works took is misfit teller answered states =
    let t : Took d s.hand r.hand job = subst (λ (x : Hand). Took d s.hand x job) (sym is) took in
    let same : fitting hub.settings (jobs_taken r.hand) ≡ fitting hub.settings (jobs_taken s.hand) =
    (let both = fitting_took hub.settings (jobs_taken s.hand) (jobs_taken r.hand) job t.taken in let none = fitting_misfit hub.settings job misfit in omega (arith, both, none)) in
    record {
      hand = hand_more d w.hand s.hand r.hand job works.hand t.of t.same t.put t.taken;
      teller = subst (λ (u : Teller). IsLaterTeller hub w.teller u) (sym teller) works.teller;
      answered = answered ∙ (works.answered ∙ ap (λ n. min (n - fitting hub.settings (jobs_taken w.hand)) (2 ^ 64 - 1)) (sym same));
      states = subst (λ (u : Teller). AreSeen u r.states.items) (sym teller) (subst (λ (l : List (Place × State)). AreSeen s.teller l) (sym states) works.states);
      served = all_passed hub w s r job works.served t.taken misfit teller states;
    }

-- the hand found nothing to take
pub works_stays : (hub : Hub) (d : Desk) (w : Worker) (s r : Shift) (k : Hand) → Works hub d w s → IsHandOf d k → IsSameHand s.hand k → put_of k ≡ put_of s.hand → jobs_taken k ≡ jobs_taken s.hand
    → r ≡ record s { hand = k } → Works hub d w r
works_stays hub d w s r k works of same put taken is = subst (λ (x : Shift). Works hub d w x) (sym is) record {
  hand = record {
    of = of;
    same = record { desk = same.desk ∙ works.hand.same.desk; number = same.number ∙ works.hand.same.number; parts = same.parts ∙ works.hand.same.parts };
    put = put ∙ works.hand.put;
    taken = (works.hand.taken.0, works.hand.taken.1 ∙ sym taken);
  };
  teller = works.teller;
  answered = works.answered ∙ ap (λ (l : List Job). min (fitting hub.settings l - fitting hub.settings (jobs_taken w.hand)) (2 ^ 64 - 1)) (sym taken);
  states = works.states;
  served = (works.served.0, taken ∙ works.served.1, works.served.2);
}

-- a desk that was empty at a moment, by what the hand did, was so by what the same hand did
pub still_empty : (g h : Hand) → IsSameHand g h → put_of h ≡ put_of g → jobs_taken h ≡ jobs_taken g → WasEmpty g → WasEmpty h
still_empty g h same put taken empty = record {
  others = empty.others;
  alone = λ all. empty.alone (sym same.parts ∙ all);
  even = λ weight. rw (put, taken) (empty.even weight);
}
