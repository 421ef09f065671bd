-- The scripts of the worked rows and short forms of them: steps in the order in which they happen,
-- at a hub of three participants with two places and four fundings each, a time limit of ten
-- seconds, and time stamps at most one second ahead. A choice of this hub.
use Rattle.std.specs.Prelude.{ℕ, Bool, List, [], ◌∷◌, ◌++◌, reverse, codes}
use Rattle.inst_base.specs.declared.fault.Fault.{Fault}
use Rattle.inst_settings.specs.Settings.{HubSettings}
use Rattle.inst_command.specs.declared.command.Command.TheVariants.{Fund, Submit, Confirm, Reject}
use Rattle.inst_command.specs.declared.command.Command.TheVariants.{Investigate, Fetch, Query}
use Rattle.inst_command.specs.declared.query.Query.TheVariants.{Position, Statement}
use Rattle.inst_command.specs.declared.outcome.State.{State as StateValue}
use Rattle.inst_command.specs.declared.step.Step.{Step}
use Rattle.inst_command.specs.declared.step.Step.TheVariants.{Deliver, Learn, Expire}
use Rattle.inst_command.specs.declared.reply.Reply.TheVariants.{Done, Taken, State}
use Rattle.inst_command.specs.declared.reply.Reply.TheVariants.{Position as PositionReply, Refused}
use Rattle.inst_command.specs.declared.reply.Answer.{Answer}
use Rattle.inst_command.specs.declared.reply.Answer.TheVariants.{Reply, New}
use Rattle.inst_model.specs.Deciders.{asks}
use Rattle.inst_model.specs.Trace.{trace}
use Rattle.inst_model.specs.Hub.{history}
use Rattle.inst_model.specs.Opening.Opening.{First, FromBooks}
use Rattle.inst_journal.specs.declared.event.Event.{Event}
pub use Rattle.inst_journal.specs.Rows.{settings, A, B, C}

abbrev pub fund_step : ℕ → List ℕ → ℕ → ℕ → Step
fund_step who reference cents at = asks who
    (Fund (record { reference = reference; cents = cents })) at

abbrev pub submit_step : ℕ → List ℕ → ℕ → ℕ → ℕ → ℕ → Step
submit_step who id to cents stamp at =
    asks who (Submit (record { id = id; to = to; cents = cents; stamp = stamp })) at

abbrev pub confirm_step : ℕ → ℕ → List ℕ → ℕ → Step
confirm_step who from id at = asks who (Confirm from id) at

abbrev pub reject_step : ℕ → ℕ → List ℕ → List ℕ → ℕ → Step
reject_step who from id reason at = asks who (Reject from id reason) at

abbrev pub investigate_step : ℕ → List ℕ → ℕ → Step
investigate_step who id at = asks who (Investigate id) at

abbrev pub position_step : ℕ → ℕ → Step
position_step who at = asks who (Query Position) at

-- The participant that sees it, the originator, and the place.
abbrev pub deliver : ℕ → ℕ → ℕ → Step
deliver to from index = Deliver from index to

abbrev pub learn : ℕ → ℕ → ℕ → Step
learn who from index = Learn who from index

abbrev pub expire : ℕ → ℕ → ℕ → Step
expire who index at = Expire who index at

abbrev pub is_done : List ℕ → Answer
is_done reference = Reply (Done reference)

abbrev pub answer_of_taken : List ℕ → ℕ → Answer
answer_of_taken id deadline = Reply (Taken id deadline)

abbrev pub is_state : ℕ → List ℕ → StateValue → Answer
is_state from id state = Reply (State from id state)

abbrev pub is_position : ℕ → ℕ → ℕ → Answer
is_position position reserved available = Reply
    (PositionReply position reserved available)

abbrev pub answer_of_fault : Fault → Answer
answer_of_fault fault = Reply (Refused fault)

abbrev pub is_new : Bool → Answer
is_new new = New new

-- The answers to a script.
abbrev pub script_answers : List Step → List Answer
script_answers script = trace settings First (reverse script)

-- The same hub with a margin of two seconds, and the answers there.
abbrev pub settings_with_margin : HubSettings
settings_with_margin = record settings { margin = 2000 }

abbrev pub answers_with_margin : List Step → List Answer
answers_with_margin script = trace settings_with_margin First (reverse script)

-- A is funded and submits a transfer to B.
abbrev pub submitted_steps : List Step
submitted_steps =
    fund_step A (codes "F1") 50000 0
    ∷ submit_step A (codes "T1") B 20000 1000 1000
    ∷ []

-- Then the transfer is delivered to B.
abbrev pub delivered : List Step
delivered = submitted_steps ++ deliver B A 0 ∷ []

-- The positions of A and B.
abbrev pub positions : ℕ → List Step
positions at = position_step A at ∷ position_step B at ∷ []

abbrev pub confirm_before_expire : List Step
confirm_before_expire =
    delivered ++ confirm_step B A (codes "T1") 10999 ∷ expire A 0 11000 ∷ learn A A 0
    ∷ positions 11000

abbrev pub expire_before_confirm : List Step
expire_before_confirm =
    delivered ++ expire A 0 11000 ∷ confirm_step B A (codes "T1") 10999 ∷ positions 11000

-- B has confirmed, and A hasn't learnt of it yet.
abbrev pub untold_yet : List Step
untold_yet = delivered ++ confirm_step B A (codes "T1") 2000 ∷ []

abbrev pub untold_then_learnt : List Step
untold_then_learnt =
    untold_yet ++ position_step A 2000 ∷ position_step B 2000 ∷ learn A A 0 ∷ position_step A 2000
    ∷ []

-- A fetch of B with other traffic.
abbrev pub fetch_B : Step
fetch_B = asks B (Fetch 10) 1500

abbrev pub statement_B : Step
statement_B = asks B (Query (Statement 0 10)) 2100

abbrev pub alone : List Step
alone = delivered ++ fetch_B ∷ confirm_step B A (codes "T1") 2000 ∷ statement_B
    ∷ position_step B 2100 ∷ []

abbrev pub among_others : List Step
among_others =
    fund_step C (codes "F9") 700 5
    ∷ submit_step C (codes "Z1") A 300 1200 1200
    ∷ fund_step A (codes "F7") 90000 3
    ∷ submit_step A (codes "T0") C 100 900 950
    ∷ submit_step A (codes "T1") B 20000 1000 1000
    ∷ deliver B A 1
    ∷ deliver A C 0
    ∷ fetch_B
    ∷ confirm_step A C (codes "Z1") 1600
    ∷ confirm_step B A (codes "T1") 2000
    ∷ learn C C 0
    ∷ statement_B
    ∷ position_step B 2100
    ∷ []

abbrev pub confirmed_late : List Step
confirmed_late = delivered ++ confirm_step B A (codes "T1") 11000 ∷ learn A A 0 ∷ positions 11000

abbrev pub confirmed_before_delivery : List Step
confirmed_before_delivery =
    submitted_steps ++ confirm_step B A (codes "T1") 2000 ∷ investigate_step A (codes "T1") 2000
    ∷ deliver B A 0
    ∷ []

abbrev pub expired_before_taken : List Step
expired_before_taken =
    fund_step A (codes "F1") 50000 0 ∷ expire A 0 11000
    ∷ submit_step A (codes "T1") B 20000 1000 1000
    ∷ deliver B A 0 ∷ []

abbrev pub one_of_two_expired : List Step
one_of_two_expired =
    submitted_steps
    ++ submit_step A (codes "T2") B 100 1000 1000
    ∷ expire A 0 11000
    ∷ investigate_step A (codes "T1") 2000
    ∷ investigate_step A (codes "T2") 2000
    ∷ []

abbrev pub wrong_deliveries_and_stamp_ahead : List Step
wrong_deliveries_and_stamp_ahead =
    delivered
    ++ deliver B A 0
    ∷ deliver C A 0
    ∷ deliver B A 1
    ∷ submit_step A (codes "T2") B 1 2001 1000
    ∷ submit_step A (codes "T2") B 1 2000 1000
    ∷ []

abbrev pub expired_before_delivery : List Step
expired_before_delivery =
    submitted_steps ++ expire A 0 11000 ∷ deliver B A 0 ∷ confirm_step B A (codes "T1") 11000 ∷ []

abbrev pub rejected_with_reason : List Step
rejected_with_reason =
    delivered
    ++ reject_step B A (codes "T1") (codes "AC04") 2000
    ∷ investigate_step A (codes "T1") 2100
    ∷ confirm_step B A (codes "T1") 2200
    ∷ position_step A 2200
    ∷ []

abbrev pub investigate_at_the_deadline : List Step
investigate_at_the_deadline =
    delivered
    ++ investigate_step A (codes "T1") 10999
    ∷ investigate_step A (codes "T1") 11000
    ∷ position_step A 11000
    ∷ []

abbrev pub confirmed_by_another : List Step
confirmed_by_another =
    delivered ++ confirm_step C A (codes "T1") 2000 ∷ confirm_step A A (codes "T1") 2000
    ∷ investigate_step A (codes "T1") 2000 ∷ []

abbrev pub learnt_twice : List Step
learnt_twice =
    delivered
    ++ confirm_step B A (codes "T1") 2000
    ∷ learn A A 0
    ∷ learn A A 0
    ∷ learn B A 0
    ∷ position_step A 2000
    ∷ []

-- An expiry and a rejection one millisecond before the deadline, and at it.
abbrev pub on_either_side : List Step
on_either_side =
    delivered
    ++ submit_step A (codes "T2") B 100 1000 1000
    ∷ deliver B A 1
    ∷ expire A 0 10999
    ∷ reject_step B A (codes "T1") (codes "AC04") 10999
    ∷ reject_step B A (codes "T2") (codes "AC04") 11000
    ∷ expire A 1 11000
    ∷ []

-- Four fundings, then a kept reference with another amount, and a new one.
abbrev pub fundings_full : List Step
fundings_full =
    fund_step A (codes "F1") 1 0
    ∷ fund_step A (codes "F2") 1 0
    ∷ fund_step A (codes "F3") 1 0
    ∷ fund_step A (codes "F4") 1 0
    ∷ fund_step A (codes "F1") 2 0
    ∷ fund_step A (codes "F5") 1 0
    ∷ fund_step A (codes "F4") 1 0
    ∷ []

-- Two transfers are delivered to B, in another order than they were taken.
abbrev pub a_page_of_two : List Step
a_page_of_two =
    submitted_steps
    ++ submit_step A (codes "T2") B 200 1000 1000
    ∷ deliver B A 1
    ∷ deliver B A 0
    ∷ asks B (Fetch 2) 1500
    ∷ asks B (Fetch 2) 1500
    ∷ []

-- Confirmations with a margin of two seconds.
abbrev pub margin_confirmed_before : List Step
margin_confirmed_before = delivered ++ confirm_step B A (codes "T1") 8999 ∷ []

abbrev pub margin_confirmation_refused : List Step
margin_confirmation_refused =
    delivered
    ++ confirm_step B A (codes "T1") 9000
    ∷ position_step A 9000
    ∷ reject_step B A (codes "T1") (codes "AC04") 10999
    ∷ confirm_step B A (codes "T1") 9000
    ∷ []

abbrev pub margin_then_timed_out : List Step
margin_then_timed_out =
    delivered ++ confirm_step B A (codes "T1") 10999 ∷ confirm_step B A (codes "T1") 11000 ∷ []

abbrev pub margin_after_expire : List Step
margin_after_expire = delivered ++ expire A 0 11000 ∷ confirm_step B A (codes "T1") 9500 ∷ []

-- The books that a script leaves, and the answers at the next opening.
abbrev pub books_after : List Step → ℕ → List Event
books_after script p = history settings First (reverse script) p

abbrev pub answers_from : List Step → List Step → List Answer
answers_from before script = trace settings (FromBooks (books_after before)) (reverse script)

-- A's transfer is pending when the hub closes, and is confirmed at the next opening.
abbrev pub carried_over_an_opening : List Step
carried_over_an_opening =
    position_step A 1002
    ∷ submit_step A (codes "T1") B 20000 1000 1002
    ∷ submit_step A (codes "T1") B 19999 1000 1002
    ∷ asks A (Query (Statement 0 10)) 1002
    ∷ confirm_step B A (codes "T1") 2000
    ∷ learn A A 0
    ∷ asks A (Query (Statement 0 10)) 2000
    ∷ []

-- A has an accepted and a pending transfer when the hub closes, and two places.
abbrev pub one_settled : List Step
one_settled =
    fund_step A (codes "F1") 50000 0
    ∷ submit_step A (codes "T1") B 100 1000 1000
    ∷ submit_step A (codes "T2") B 100 1000 1000
    ∷ deliver B A 0
    ∷ deliver B A 1
    ∷ confirm_step B A (codes "T1") 2000
    ∷ learn A A 0
    ∷ []

abbrev pub places_given_back : List Step
places_given_back =
    submit_step A (codes "T3") B 100 3000 3000
    ∷ submit_step A (codes "T4") B 100 3000 3000
    ∷ investigate_step A (codes "T1") 3000
    ∷ submit_step A (codes "T1") B 100 1000 3000
    ∷ expire A 0 11000
    ∷ investigate_step A (codes "T2") 3000
    ∷ []
