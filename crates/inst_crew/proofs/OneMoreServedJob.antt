-- A worker serves a job more.
use Rattle.std.proofs.Common.{◌≡◌, Bool, true, false, List, [], ◌∷◌, ◌++◌, refl, sym, ap, ◌∙◌, subst, append_assoc}
use Rattle.std.specs.Prelude.{MatchBool, Option, Some, None, option_to_list, Result, Ok, Err, OnOk}
use Rattle.std.proofs.lemmas.List.{append-nil}
use Rattle.inst_command.specs.declared.place.Place.{Place}
use Rattle.inst_command.specs.declared.ask.Ask.{Ask}
use Rattle.inst_command.specs.declared.reply.Reply.{Reply}
use Rattle.inst_command.specs.Ask.{ask_fits}
use Rattle.inst_command.specs.declared.outcome.State.{State}
use Rattle.inst_desk.specs.declared.desk.Desk.{Desk}
use Rattle.inst_desk.specs.declared.hand.Hand.{Hand}
use Rattle.inst_desk.specs.declared.job.Job.{Job}
use Rattle.inst_desk.specs.Desk.{IsHandOf, IsSameHand, put_of, jobs_taken}
use Rattle.inst_hub.specs.declared.hub.Hub.{Hub}
use Rattle.inst_hub.specs.declared.teller.Teller.{Teller}
use Rattle.inst_hub.specs.Calls.{Calls, TellerKnowsMore}
use Rattle.inst_crew.specs.declared.shift.Shift.{Shift}
use Rattle.inst_crew.specs.declared.worker.Worker.{Worker}
use Rattle.inst_crew.specs.Served.{IsServed, ServesJob}
use Rattle.inst_crew.specs.inner.Workers.{ServesOne, ServesAll}

-- the hand took the job
pub record Took (d : Desk) (h k : Hand) (job : Job) : Type 0 where
  pub of : IsHandOf d k
  pub same : IsSameHand h k
  pub put : put_of k ≡ put_of h
  pub taken : jobs_taken k ≡ jobs_taken h ++ job ∷ []

abbrev States : Type 0
States = List (Place × State)

abbrev no_states : States
no_states = []

pub on_ok : {A B : Type 0} (r : Result A B) (X Y : Type 0) → OnOk r X → (X → Y) → OnOk r Y
on_ok (Ok a) X Y x f = f x
on_ok (Err b) X Y x f = tt

knows_same : (t : Teller) → TellerKnowsMore t t
knows_same t = record { facts = λ f k. k; fronts = λ p J seen. seen; parts = refl }

-- a call with a ticket, and the state that was kept of it
pub served_noted : (hub : Hub) (ask : Ask) (t u v : Teller) (before after : States) (answer : Reply × Option Place) (k : Place) → Calls hub t ask answer u → TellerKnowsMore u v → answer.1 ≡ Some k
    → ((state : State) × (after ≡ before ++ (k, state) ∷ [])) → (more : States) × (after ≡ before ++ more) × IsServed hub ask t v more
served_noted hub ask t u v before after answer k call knows is noted = (
  (k, noted.0) ∷ [],
  noted.1,
  record { answer = answer; after = u; call = call; knows = knows; noted = sym (ap (λ (o : Option Place). option_to_list o) is) },
)

-- a call without one
pub served_unnoted : (hub : Hub) (ask : Ask) (t u : Teller) (before : States) (answer : Reply × Option Place) → Calls hub t ask answer u → answer.1 ≡ None
    → (more : States) × (before ≡ before ++ more) × IsServed hub ask t u more
served_unnoted hub ask t u before answer call is = (
  [],
  sym (append-nil before),
  record { answer = answer; after = u; call = call; knows = knows_same u; noted = sym (ap (λ (o : Option Place). option_to_list o) is) },
)

-- what is done for a job: it is served if it fits
abbrev OnJob : Hub → Job → Teller → Teller → States → Type 0
OnJob hub job t v first = MatchBool (ask_fits hub.settings job.ask) (IsServed hub job.ask t v first) ((v ≡ t) × (first ≡ []))

-- after these jobs one more
serves_more : (hub : Hub) (jobs : List Job) (job : Job) (t u v : Teller) (states more : States) → ServesJob hub jobs t u states → OnJob hub job u v more
    → ServesJob hub (jobs ++ job ∷ []) t v (states ++ more)
serves_more hub [] job t u v states more s one =
    (v, more, [], ap (λ (l : States). l ++ more) s.1 ∙ sym (append-nil more), subst (λ (x : Teller). OnJob hub job x v more) s.0 one, (refl, refl))
serves_more hub (j ∷ jobs) job t u v states more s one = (
  s.0,
  s.1,
  s.2 ++ more,
  ap (λ (l : States). l ++ more) s.3 ∙ append_assoc s.1 s.2 more,
  s.4,
  serves_more hub jobs job s.0 u v s.2 more s.5 one,
)

all_after : (hub : Hub) (w : Worker) (s r : Shift) (job : Job) (more : States) → ServesAll hub w s → jobs_taken r.hand ≡ jobs_taken s.hand ++ job ∷ [] → r.states.items ≡ s.states.items ++ more
    → OnJob hub job s.teller r.teller more → ServesAll hub w r
all_after hub w s r job more all taken states one = (
  all.0 ++ job ∷ [],
  taken ∙ (ap (λ (l : List Job). l ++ job ∷ []) all.1 ∙ append_assoc (jobs_taken w.hand) all.0 (job ∷ [])),
  subst (λ (l : States). ServesJob hub (all.0 ++ job ∷ []) w.teller r.teller l) (sym states)
      (serves_more hub all.0 job w.teller s.teller r.teller s.states.items more all.2 one),
)

-- a job that fits was served
pub all_more : (hub : Hub) (w : Worker) (s r : Shift) (job : Job) → ServesAll hub w s → jobs_taken r.hand ≡ jobs_taken s.hand ++ job ∷ [] → ask_fits hub.settings job.ask ≡ true
    → ServesOne hub job.ask s r → ServesAll hub w r
all_more hub w s r job all taken fits one =
    all_after hub w s r job one.0 all taken one.1 (subst (λ (b : Bool). MatchBool b (IsServed hub job.ask s.teller r.teller one.0) ((r.teller ≡ s.teller) × (one.0 ≡ []))) (sym fits) one.2)

-- a job that doesn't fit was passed over
pub all_passed : (hub : Hub) (w : Worker) (s r : Shift) (job : Job) → ServesAll hub w s → jobs_taken r.hand ≡ jobs_taken s.hand ++ job ∷ [] → ask_fits hub.settings job.ask ≡ false
    → r.teller ≡ s.teller → r.states.items ≡ s.states.items → ServesAll hub w r
all_passed hub w s r job all taken misfit teller states =
    all_after hub w s r job [] all taken (states ∙ sym (append-nil s.states.items))
    (subst (λ (b : Bool). MatchBool b (IsServed hub job.ask s.teller r.teller no_states) ((r.teller ≡ s.teller) × (no_states ≡ []))) (sym misfit) (teller, refl))
