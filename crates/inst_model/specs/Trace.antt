-- The answer to each step: the reply to an ask; for another step, whether its participant saw
-- anything of it. A choice of this hub.
use Rattle.std.specs.Prelude.{ℕ, Bool, true, false, ◌==◌, if◌then◌else◌, List, [], ◌∷◌, ◌++◌}
use Rattle.std.specs.Prelude.{Result, Ok, Err}
use Rattle.inst_base.specs.declared.fault.Fault.{Fault}
use Rattle.inst_settings.specs.Settings.{HubSettings}
use Rattle.inst_model.specs.Opening.{Opening}
use Rattle.inst_command.specs.declared.step.Step.{Step}
use Rattle.inst_command.specs.declared.step.Step.TheVariants.{Ask, Deliver, Learn, Expire}
use Rattle.inst_command.specs.declared.reply.Reply.{Reply as ReplyValue}
use Rattle.inst_command.specs.declared.reply.Reply.TheVariants.{Refused}
use Rattle.inst_command.specs.declared.reply.Answer.{Answer}
use Rattle.inst_command.specs.declared.reply.Answer.TheVariants.{Reply, New}
use Rattle.inst_journal.specs.Reply.{reply}
use Rattle.inst_model.specs.View.{Seen, sees}
use Rattle.inst_model.specs.Found.{found}
use Rattle.inst_model.specs.Hub.{outcome, history}

-- The reply; a refusal is a reply too.
abbrev pub as_reply : Result ReplyValue Fault → ReplyValue
as_reply (Ok reply) = reply
as_reply (Err fault) = Refused fault

-- True if there is an entry.
abbrev pub is_some_entry : List Seen → Bool
is_some_entry [] = false
is_some_entry (seen ∷ view) = true

-- True if p sees anything of the step after these steps.
abbrev pub is_seen : HubSettings → Opening → List Step → Step → ℕ → Bool
is_seen s O past step p =
    is_some_entry (sees s (history s O past) (outcome s O past) (outcome s O (step ∷ past)) step p)

-- The answer to the step after these steps.
abbrev pub answer : HubSettings → Opening → List Step → Step → Answer
answer s O past (Ask ask) =
    Reply (as_reply (reply s ask.who (history s O past ask.who) ask.command ask.at
    (found (outcome s O (Ask ask ∷ past)) ask.who (history s O past ask.who) ask.command)))
answer s O past (Deliver from index to) = New (is_seen s O past (Deliver from index to) to)
answer s O past (Learn who from index) = New (is_seen s O past (Learn who from index) who)
answer s O past (Expire who index at) = New (is_seen s O past (Expire who index at) who)

-- The answers to all steps, oldest first.
abbrev pub trace : HubSettings → Opening → List Step → List Answer
trace s O [] = []
trace s O (step ∷ past) = trace s O past ++ answer s O past step ∷ []

-- The answer to the step, if it is an ask by p.
abbrev pub own_answer : HubSettings → Opening → List Step → Step → ℕ → List Answer
own_answer s O past (Ask ask) p = if ask.who == p then answer s O past (Ask ask) ∷ [] else []
own_answer s O past (Deliver from index to) p = []
own_answer s O past (Learn who from index) p = []
own_answer s O past (Expire who index at) p = []

-- The answers to the asks of p, oldest first.
abbrev pub replies : HubSettings → Opening → List Step → ℕ → List Answer
replies s O [] p = []
replies s O (step ∷ past) p = replies s O past p ++ own_answer s O past step p

-- The answers to the asks of p among the answers to these steps, oldest first.
abbrev pub own_answers : ℕ → List Step → List Answer → List Answer
own_answers p [] answers = []
own_answers p (step ∷ steps) [] = []
own_answers p (Ask ask ∷ steps) (answer ∷ answers) =
    if ask.who == p then answer ∷ own_answers p steps answers else own_answers p steps answers
own_answers p (Deliver from index to ∷ steps) (answer ∷ answers) = own_answers p steps answers
own_answers p (Learn who from index ∷ steps) (answer ∷ answers) = own_answers p steps answers
own_answers p (Expire who index at ∷ steps) (answer ∷ answers) = own_answers p steps answers
