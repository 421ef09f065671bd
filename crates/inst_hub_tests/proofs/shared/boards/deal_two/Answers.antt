use Rattle.std.proofs.Common.{◌≡◌, ◌∙◌, ℕ, true, sym, subst, ap, arith}
use Rattle.inst_settings.specs.Settings.{HubSettings, participants, is_participant}
use Rattle.inst_board.specs.declared.about.About.TheVariants.{Opened}
use Rattle.inst_board.specs.Standing.{about}
use Rattle.inst_cell.specs.Held.{settings_of, has_role}
use Rattle.inst_cell.proofs.BoardsAtOpening.{whole_role}
use Rattle.inst_hub_tests.proofs.TwoParticipantBoards.{place_is, second_is}
use Rattle.inst_hub_tests.proofs.shared.boards.deal_two.Goals as goal

pub submit-requires-clause-can : goal.submit-requires-clause-can
submit-requires-clause-can c =
    let all = c.in_ok-all.all in
    let whole = c.in_ok-all.ensures.whole in
    let two : participants (settings_of all) ≡ 2 = ap participants whole.settings ∙ c.requires.two.0 in
    let places : (settings_of all).places ≡ 2 = ap (λ (s : HubSettings). s.places) whole.settings ∙ c.requires.two.1 in
    let last : c.args.place.index ≡ 1 = c.requires.place.1 in
    record {
      place = place_is (settings_of all) c.args.place c.requires.place.0 two (omega arith);
      beneficiary = subst (λ (n : ℕ). is_participant (settings_of all) n ≡ true) (sym c.requires.beneficiary) (second_is (settings_of all) two);
      own = subst (λ (p : ℕ). has_role all p) (sym c.requires.place.0) (whole_role all 0 whole.roles (omega arith));
      unused = whole.nothing (about c.args.place Opened);
    }
