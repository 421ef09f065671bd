-- The view of a participant, entry by entry: its own asks with the outcome that each finds, the
-- transfers that come to it, and the outcomes that it learns. Only the two parties learn an
-- outcome, each once. A choice of this hub.
use Rattle.std.specs.Prelude.{ℕ, ◌&&◌, ◌||◌, ◌==◌, not, is_none, if◌then◌else◌, List, [], ◌∷◌}
use Rattle.std.specs.Prelude.{Option, Some, None}
use Rattle.inst_settings.specs.Settings.{HubSettings}
use Rattle.inst_command.specs.declared.command.Command.{Command}
use Rattle.inst_command.specs.declared.outcome.Outcome.{Outcome}
use Rattle.inst_command.specs.declared.step.Step.{Step}
use Rattle.inst_command.specs.declared.step.Step.TheVariants.{Ask, Deliver, Learn, Expire}
use Rattle.inst_journal.specs.declared.event.Event.{Event}
use Rattle.inst_journal.specs.Booked.{is_forwarded, booked}
use Rattle.inst_model.specs.Transfer.{Transfer, at_place, deadline}
use Rattle.inst_model.specs.Found.{found}

-- An entry of a view: an own ask with the outcome that it finds, a forwarded transfer, an outcome.
pub data Seen : Type 0 where
  Asked : (command : Command) (at : ℕ) (found : Option Outcome) → Seen
  Came : (from : ℕ) (id : List ℕ) (cents deadline : ℕ) → Seen
  Told : (from : ℕ) (id : List ℕ) (outcome : Outcome) → Seen

-- A transfer of `from` comes to p if it is addressed to p, has no outcome and hasn't come before.
abbrev pub comes : HubSettings → (ℕ → List ℕ → Option Outcome) → ℕ → ℕ → List Event →
    Option Transfer → List Seen
comes s outcomes from p J None = []
comes s outcomes from p J (Some x) =
    if (x.to == p) && is_none (outcomes from x.id) && not (is_forwarded from x.id J)
    then Came from x.id x.cents (deadline s x) ∷ [] else []

-- The outcome, if there is one and it isn't booked.
abbrev pub news : ℕ → List ℕ → Option Outcome → Option Outcome → List Seen
news from id (Some outcome) None = Told from id outcome ∷ []
news from id (Some outcome) (Some before) = []
news from id None before = []

-- The outcome of a transfer of `from`, if p is a party of it and hasn't booked it.
abbrev pub tells : (ℕ → List ℕ → Option Outcome) → ℕ → ℕ → List Event → Option Transfer → List Seen
tells outcomes from p J None = []
tells outcomes from p J (Some x) =
    if (p == from) || is_forwarded from x.id J
    then news from x.id (outcomes from x.id) (booked from x.id J) else []

-- The entries of a step that p sees, from the histories and outcomes before it and the outcomes
-- after it.
abbrev pub sees : HubSettings → (ℕ → List Event) → (ℕ → List ℕ → Option Outcome) →
    (ℕ → List ℕ → Option Outcome) →
    Step → ℕ → List Seen
sees s J before after (Ask ask) p =
    if ask.who == p then Asked ask.command ask.at (found after p (J p) ask.command) ∷ [] else []
sees s J before after (Deliver from index to) p =
    if to == p then comes s before from p (J p) (at_place from (J from) index) else []
sees s J before after (Learn who from index) p =
    if who == p then tells before from p (J p) (at_place from (J from) index) else []
sees s J before after (Expire who index at) p =
    if who == p then tells after p p (J p) (at_place p (J p) index) else []
