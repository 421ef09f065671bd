use Rattle.std.proofs.Common.{⊎_elim, ◌≡◌, ◌∙◌, sym, ap, subst, List, IfSome, true}
use Rattle.std.specs.Prelude.{option_map}
use Rattle.inst_settings.specs.Settings.{is_participant}
use Rattle.inst_command.specs.declared.step.Step.{Step}
use Rattle.inst_board.specs.Plain.{standing_at}
use Rattle.inst_model.specs.Opening.{Opening}
use Rattle.inst_model.specs.Transfer.{Transfer, at_place}
use Rattle.inst_model.specs.Hub.{history, outcome}
use Rattle.inst_world.specs.HasRun.{World, HasRun}
use Rattle.inst_world.proofs.PlaceOfNamedTransfer.{to_of, to_shown, found_participant, found_owner}
use Rattle.inst_world.proofs.world.World.beneficiary_at.Goals as goal
use Rattle.inst_world.proofs.world.World.beneficiary_at.Goals.{in-Unused, in-Pending, in-Pending-2}

pub returns-clause-participant : goal.returns-clause-participant
returns-clause-participant c =
    let world : World = record { books = c.self.inside.slots.items; board = c.self.inside.board } in
    let s = world.board.settings in
    let p = c.args.place.owner in
    let k = c.args.place.index in
    let found : c.match-look.result ≡ to_of c.look.result = elim c.match-look.branch [
      | in-Unused w ↦ w.result-is ∙ ap to_of (sym w.in-Unused.is)
      | in-Pending w ↦ w.result-is ∙ ⊎_elim (λ p. ap to_of (sym p.1)) (λ d. ap to_of (sym d.1)) w.in-Pending.is
      | in-Pending-2 w ↦ w.result-is ∙ ⊎_elim (λ p. ap to_of (sym p.1)) (λ d. ap to_of (sym d.1)) w.in-Pending.is
    ] in
    subst (λ (h : World). IfSome c.match-look.result (λ to. is_participant h.board.settings to ≡ true)) c.self.view_is
    (found_participant world p k c.match-look.result c.self.invariant.3 (λ O L was.
    found ∙ ap to_of c.look.ensures.exact.0 ∙ to_shown s (outcome s O L p) (at_place p (history s O L p) k) (standing_at world.board c.args.place) (was.board p k)))

pub returns-clause-beneficiary : goal.returns-clause-beneficiary
returns-clause-beneficiary c =
    let world : World = record { books = c.self.inside.slots.items; board = c.self.inside.board } in
    let s = world.board.settings in
    let p = c.args.place.owner in
    let k = c.args.place.index in
    let found : c.match-look.result ≡ to_of c.look.result = elim c.match-look.branch [
      | in-Unused w ↦ w.result-is ∙ ap to_of (sym w.in-Unused.is)
      | in-Pending w ↦ w.result-is ∙ ⊎_elim (λ p. ap to_of (sym p.1)) (λ d. ap to_of (sym d.1)) w.in-Pending.is
      | in-Pending-2 w ↦ w.result-is ∙ ⊎_elim (λ p. ap to_of (sym p.1)) (λ d. ap to_of (sym d.1)) w.in-Pending.is
    ] in
    subst (λ (h : World). (O : Opening) (L : List Step) → HasRun O L h → c.match-look.result ≡ option_map (λ (x : Transfer). x.to) (at_place p (history h.board.settings O L p) k)) c.self.view_is
    (λ O L was. found ∙ ap to_of c.look.ensures.exact.0 ∙ to_shown s (outcome s O L p) (at_place p (history s O L p) k) (standing_at world.board c.args.place) (was.board p k))

pub returns-clause-owner : goal.returns-clause-owner
returns-clause-owner c =
    let world : World = record { books = c.self.inside.slots.items; board = c.self.inside.board } in
    let found : c.match-look.result ≡ to_of c.look.result = elim c.match-look.branch [
      | in-Unused w ↦ w.result-is ∙ ap to_of (sym w.in-Unused.is)
      | in-Pending w ↦ w.result-is ∙ ⊎_elim (λ p. ap to_of (sym p.1)) (λ d. ap to_of (sym d.1)) w.in-Pending.is
      | in-Pending-2 w ↦ w.result-is ∙ ⊎_elim (λ p. ap to_of (sym p.1)) (λ d. ap to_of (sym d.1)) w.in-Pending.is
    ] in
    subst (λ (h : World). IfSome c.match-look.result (λ to. is_participant h.board.settings c.args.place.owner ≡ true)) c.self.view_is
    (found_owner world.board c.args.place c.match-look.result (found ∙ ap to_of c.look.ensures.exact.0))
