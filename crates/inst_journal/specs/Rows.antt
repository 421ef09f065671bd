-- The commands of the worked rows and short forms of them, at a hub of three participants with two
-- places and four fundings each, a time limit of ten seconds, and time stamps at most one second
-- ahead. A choice of this hub.
use Rattle.std.specs.Prelude.{ℕ, List, [], ◌∷◌, ◌++◌, codes, Option, Some, None, Result, Ok, Err}
use Rattle.inst_base.specs.declared.fault.Fault.{Fault}
use Rattle.inst_settings.specs.Settings.{HubSettings}
use Rattle.inst_command.specs.declared.command.Command.{Command}
use Rattle.inst_command.specs.declared.command.Command.TheVariants.{Fund, Defund, Submit, Confirm}
use Rattle.inst_command.specs.declared.command.Command.TheVariants.{Reject, Investigate}
use Rattle.inst_command.specs.declared.command.Command.TheVariants.{Fetch, Query}
use Rattle.inst_command.specs.declared.query.Query.TheVariants.{Position as AskPosition}
use Rattle.inst_command.specs.declared.query.Query.TheVariants.{Statement as AskStatement}
use Rattle.inst_command.specs.declared.outcome.Outcome.{Outcome}
use Rattle.inst_command.specs.declared.outcome.Outcome.TheVariants.{Accepted}
use Rattle.inst_command.specs.declared.outcome.State.{State as StateValue}
use Rattle.inst_command.specs.declared.reply.Reply.{Reply}
use Rattle.inst_command.specs.declared.reply.Reply.TheVariants.{Done, Taken as TakenReply, State}
use Rattle.inst_command.specs.declared.reply.Reply.TheVariants.{Position}
use Rattle.inst_journal.specs.declared.event.Event.{Event}
use Rattle.inst_journal.specs.declared.event.Event.TheVariants.{Forwarded, Opened}
use Rattle.inst_journal.specs.Reply.{reply, history_after}

abbrev pub settings : HubSettings
settings = record {
  codes = codes "AAAADEFF" ∷ codes "BBBBFRPP" ∷ codes "CCCCITMM" ∷ [];
  places = 2;
  fundings = 4;
  limit = 10000;
  margin = 0;
  ahead = 1000;
  ceiling = 99999999999;
  base = 0;
}

-- The participants.
abbrev pub A : ℕ
A = 0

abbrev pub B : ℕ
B = 1

abbrev pub C : ℕ
C = 2

-- A command, its clock reading, and the outcome that is found of its transfer.
pub record Asked : Type 0 where
  pub command : Command
  pub at : ℕ
  pub found : Option Outcome

-- The replies to the commands, one after another.
abbrev pub answers : ℕ → List Event → List Asked → List (Result Reply Fault)
answers who J [] = []
answers who J (asked ∷ rest) =
    reply settings who J asked.command asked.at asked.found
    ∷ answers who (history_after settings who J asked.command asked.at asked.found) rest

-- The history after the commands.
abbrev pub after : ℕ → List Event → List Asked → List Event
after who J [] = J
after who J (asked ∷ rest) =
    after who (history_after settings who J asked.command asked.at asked.found) rest

-- The history after another opening.
abbrev pub opened_events : List Event → List Event
opened_events J = J ++ Opened ∷ []

abbrev pub ask : Command → ℕ → Option Outcome → Asked
ask command at found = record { command = command; at = at; found = found }

abbrev pub asked_fund : List ℕ → ℕ → Asked
asked_fund reference cents = ask (Fund (record { reference = reference; cents = cents })) 0 None

abbrev pub defund : List ℕ → ℕ → Asked
defund reference cents = ask (Defund (record { reference = reference; cents = cents })) 0 None

-- A transfer to B, stamped 1000.
abbrev pub asked_submit : List ℕ → ℕ → ℕ → Asked
asked_submit id cents at = ask
    (Submit (record { id = id; to = B; cents = cents; stamp = 1000 })) at None

-- A submission of more than A has.
abbrev pub too_much : ℕ → List ℕ → ℕ → ℕ → Asked
too_much to id stamp at =
    ask (Submit (record { id = id; to = to; cents = 99999; stamp = stamp })) at None

abbrev pub asked_investigate : List ℕ → Option Outcome → Asked
asked_investigate id found = ask (Investigate id) 11000 found

abbrev pub fetch : ℕ → Asked
fetch max = ask (Fetch max) 1500 None

abbrev pub asked_position : Asked
asked_position = ask (Query AskPosition) 1500 None

abbrev pub statement : Asked
statement = ask (Query (AskStatement 0 10)) 1500 None

abbrev pub done : List ℕ → Result Reply Fault
done reference = Ok (Done reference)

abbrev pub taken : List ℕ → Result Reply Fault
taken id = Ok (TakenReply id 11000)

abbrev pub state : ℕ → List ℕ → StateValue → Result Reply Fault
state from id value = Ok (State from id value)

abbrev pub money : ℕ → ℕ → ℕ → Result Reply Fault
money asked_position reserved available = Ok (Position asked_position reserved available)

abbrev pub refused : Fault → Result Reply Fault
refused fault = Err fault

-- A is funded and has submitted a transfer to B.
abbrev pub submitted_events : List Event
submitted_events = after A []
    (asked_fund (codes "F1") 50000 ∷ asked_submit (codes "T1") 20000 1000 ∷ [])

-- Then the transfer was accepted, and A has learnt of it.
abbrev pub accepted_events : List Event
accepted_events = after A submitted_events (asked_investigate (codes "T1") (Some Accepted) ∷ [])

-- The submission and the funding again, and both keys with another amount.
abbrev pub again : List Asked
again =
    asked_submit (codes "T1") 20000 99000
    ∷ asked_submit (codes "T1") 19999 1000
    ∷ asked_fund (codes "F1") 50000
    ∷ asked_fund (codes "F1") 49999
    ∷ []

-- Both places are taken, and one of the transfers is accepted.
abbrev pub two_places : List Event
two_places = after A accepted_events (asked_submit (codes "T2") 100 1000 ∷ [])

-- All four fundings are used.
abbrev pub all_fundings : List Event
all_fundings =
    after A [] (asked_fund (codes "F1") 10 ∷ asked_fund (codes "F2") 20 ∷ asked_fund (codes "F3") 30
    ∷ asked_fund (codes "F4") 40 ∷ [])

-- Three fundings and a defunding are kept.
abbrev pub all_with_a_defunding : List Event
all_with_a_defunding =
    after A [] (asked_fund (codes "F1") 10 ∷ asked_fund (codes "F2") 20 ∷ asked_fund (codes "F3") 30
    ∷ defund (codes "D1") 5 ∷ [])

-- The arrivals at B: two transfers of A's, and one of C's between them.
abbrev pub arrivals : List Event
arrivals =
    Forwarded A (codes "T1") 100 11000 ∷ Forwarded C (codes "T1") 200 11500
    ∷ Forwarded A (codes "T2") 300 11200 ∷ []

-- A confirmation and a rejection of A's transfer by B, with no outcome found.
abbrev pub confirmation : Asked
confirmation = ask (Confirm A (codes "T1")) 10500 None

abbrev pub rejection : Asked
rejection = ask (Reject A (codes "T1") (codes "AC04")) 10500 None
