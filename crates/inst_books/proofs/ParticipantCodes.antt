-- The codes of a hub's participants: each has its form, and tells its number.
use Rattle.std.proofs.Common.{◌≡◌, ℕ, ◌<◌, true, nat_lt, [], length, Ok, ok_or, sym, ap, arith}
use Rattle.std.proofs.lemmas.Bool.Decides.{nat_tests}
use Rattle.std.proofs.lemmas.Option.{unwrap_or-slice_get}
use Rattle.std.specs.List.{list_all}
use Rattle.inst_base.specs.Text.{is_code}
use Rattle.inst_base.specs.declared.fault.Fault.TheVariants.{UnknownParticipant}
use Rattle.inst_settings.specs.Settings.{HubSettings, is_participant}
use Rattle.inst_settings.specs.Lawful.{IsSettings}
use Rattle.inst_settings.proofs.CodesKnownByHolders.{number_known}
use Rattle.inst_command.specs.LineText.{code_numbered}
use Rattle.inst_json.specs.Checks.{participant_of}
use Rattle.inst_command.proofs.LineTextTellsLine.{all_at}

pub code_has_form : (s : HubSettings) (i : ℕ) → list_all is_code s.codes ≡ true → is_participant s i ≡ true → is_code (code_numbered s i) ≡ true
code_has_form s i all known = all_at s.codes i all known

below_all : (i n : ℕ) → nat_lt i n ≡ true → i < n
below_all i n h = grind (arith, nat_tests)

pub code_tells : (s : HubSettings) (i : ℕ) → IsSettings s → is_participant s i ≡ true → participant_of s (code_numbered s i) ≡ Ok i
unfolding participant_of
code_tells s i lawful known =
    ap (λ o. ok_or o UnknownParticipant) (sym (number_known s.codes (code_numbered s i) i lawful.different (below_all i (length s.codes) known) (sym (unwrap_or-slice_get s.codes i []))))
