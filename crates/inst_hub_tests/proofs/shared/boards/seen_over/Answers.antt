use Rattle.std.proofs.Common.{◌≡◌, ℕ, true, sym, subst, refl, arith}
use Rattle.inst_settings.specs.Settings.{is_participant}
use Rattle.inst_board.specs.declared.about.About.TheVariants.{Opened}
use Rattle.inst_board.specs.Standing.{about}
use Rattle.inst_cell.specs.Held.{settings_of}
use Rattle.inst_hub_tests.proofs.TwoParticipantBoards.{place_is, second_is}
use Rattle.inst_hub_tests.proofs.shared.boards.seen_over.Goals as goal

pub submit-requires-clause-can : goal.submit-requires-clause-can
submit-requires-clause-can c =
    let s = settings_of c.args.first.now in
    let two = c.requires.two.0 in
    let places : s.places ≡ 2 = c.requires.two.1 in
    record {
      place = place_is s (record { owner = 0; index = 1 }) refl two (omega arith);
      beneficiary = subst (λ (n : ℕ). is_participant s n ≡ true) (sym c.in_ok-terms.ensures) (second_is s two);
      own = c.requires.roles.0;
      unused = c.requires.nothing (about (record { owner = 0; index = 1 }) Opened);
    }
