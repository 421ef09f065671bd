-- The two halves of a call: the ask and the follow-up.
use Rattle.std.specs.Prelude.{◌≡◌, List, [], ◌++◌, Option}
use Rattle.inst_command.specs.declared.ask.Ask.{Ask}
use Rattle.inst_command.specs.declared.reply.Reply.{Reply}
use Rattle.inst_command.specs.declared.place.Place.{Place}
use Rattle.inst_journal.specs.declared.event.Event.{Event}
use Rattle.inst_row.specs.declared.view.Front.{Front}
use Rattle.inst_hub.specs.declared.hub.Hub.{Hub}
use Rattle.inst_hub.specs.declared.teller.Teller.{Teller}
use Rattle.inst_hub.specs.Calls.{fronts_seen, IsFollowed, IsCall}
use Rattle.inst_participant.specs.declared.follow_up.FollowUp.{FollowUp}
use Rattle.inst_participant.specs.Following.{follow_up_of}

-- The follow-up's histories were seen and nothing else, and nothing is forgotten.
pub record Follows (h : Hub) (f : Option FollowUp) (t u : Teller) : Type 0 where
  pub fronts : List (Front Event)
  pub followed : IsFollowed h f t fronts
  pub seen : fronts_seen u ≡ fronts_seen t ++ fronts

-- A call without its follow-up, and the follow-up that it causes.
abbrev pub Asks : Hub → Teller → Ask → (Reply × Option Place) × Option FollowUp → Teller → Type 0
Asks h t ask r u =
    (call : IsCall h t ask r.0 [] u)
    × (r.1 ≡ follow_up_of call.left.slot.events ask.command r.0.0 r.0.1)
