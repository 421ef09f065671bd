-- What a crew's teller did for the jobs that its hand took: each that fits was put to the hub, once
-- and in order. A choice of this hub.
use Rattle.std.specs.Prelude.{◌≡◌, List, [], ◌∷◌, ◌++◌, map, MatchBool, option_to_list}
use Rattle.inst_command.specs.declared.place.Place.{Place}
use Rattle.inst_command.specs.declared.ask.Ask.{Ask}
use Rattle.inst_command.specs.declared.outcome.State.{State}
use Rattle.inst_command.specs.declared.reply.Reply.{Reply}
use Rattle.inst_command.specs.Ask.{ask_fits}
use Rattle.inst_desk.specs.declared.hand.Hand.{Hand}
use Rattle.inst_desk.specs.declared.job.Job.{Job}
use Rattle.inst_desk.specs.Desk.{jobs_taken, WasEmpty}
use Rattle.inst_hub.specs.declared.hub.Hub.{Hub}
use Rattle.inst_hub.specs.declared.teller.Teller.{Teller}
use Rattle.inst_hub.specs.Calls.{Calls, TellerKnowsMore}
use Rattle.std.specs.Prelude.{Option}

-- From teller t to u the hub was called with this ask.
-- - call: it was answered, on a history that the teller has seen.
-- - knows: afterwards the teller has lost no knowledge.
-- - noted: a state of the place is kept if there is a ticket.
pub record IsServed (hub : Hub) (ask : Ask) (t u : Teller) (states : List (Place
    × State)) : Type 0 where
  pub answer : Reply × Option Place
  pub after : Teller
  pub call : Calls hub t ask answer after
  pub knows : TellerKnowsMore after u
  pub noted : map (λ pair. pair.0) states ≡ option_to_list answer.1

-- From teller t to u each of these jobs that fits was served, in order. Nothing was done for the
-- others.
abbrev pub ServesJob : Hub → List Job → Teller → Teller → List (Place × State) → Type 0
ServesJob hub [] t u states = (u ≡ t) × (states ≡ [])
ServesJob hub (job ∷ jobs) t u states =
    (v : Teller) × (first : List (Place × State)) × (rest : List (Place × State))
    × (states ≡ first ++ rest)
    × MatchBool (ask_fits hub.settings job.ask) (IsServed hub job.ask t v first) ((v ≡ t)
    × (first ≡ [])) × ServesJob hub jobs v u rest

-- From hand g to h and teller t to u.
-- - taken, serves: the jobs that the hand took were served.
-- - emptied: then the desk was empty at a moment, given what the hand did until then.
pub record HasServed (hub : Hub) (g h : Hand) (t u : Teller) (states : List (Place
    × State)) : Type 0 where
  pub jobs : List Job
  pub taken : jobs_taken h ≡ jobs_taken g ++ jobs
  pub serves : ServesJob hub jobs t u states
  pub emptied : WasEmpty h

-- Each hand served with the teller at the same position. The states that they kept are in that
-- order.
abbrev pub AreServed : Hub → List Hand → List Hand → List Teller → List Teller →
    List (Place × State) → Type 0
AreServed hub [] hands ts us states = states ≡ []
AreServed hub (g ∷ gs) (h ∷ hs) (t ∷ ts) (u ∷ us) states =
    (first : List (Place × State)) × (rest : List (Place × State)) × (states ≡ first ++ rest)
    × HasServed hub g h t u first × AreServed hub gs hs ts us rest
AreServed hub (g ∷ gs) hs ts us states = ⊥
