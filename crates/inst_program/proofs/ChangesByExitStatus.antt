-- What the program leaves by its exit status.
use Rattle.std.proofs.Common.{◌≡◌, ◌⊎◌, inl, inr, ℕ, List, refl, sym, subst, arith, ◌∙◌}
use Rattle.inst_base.specs.declared.fault.Fault.{Fault}
use Rattle.inst_base.specs.declared.fault.Fault.TheVariants.{BadSettings}
use Rattle.clap.specs.Words.{IsAmong, kind_of}
use Rattle.clap.specs.declared.error.kind.ErrorKind.{ErrorKind}
use Rattle.clap.specs.declared.error.kind.ErrorKind.TheVariants.{DisplayHelp, DisplayVersion}
use Rattle.inst_options.specs.Asking.{AreUnfit, AreWrong, AskForHelp, IsNoWish, IsBeginRefusal, NameABadLog, faults_of}
use Rattle.inst_options.specs.declared.error.WordsError.{WordsError}
use Rattle.inst_options.specs.declared.error.WordsError.TheVariants as error
use Rattle.inst_logged.specs.Streams.{Streams}
use Rattle.inst_program.specs.Files.{Files, Stay}
use Rattle.inst_program.specs.Program.{Done, Ends, Refusal}
use Rattle.inst_program.specs.Program.Done.{Helped}
use Rattle.inst_program.specs.Program.Failed.{Helping, Unbegun}
use Rattle.inst_program.specs.Program.Refusal.{BadLog, Unfit, Wrong}
use Rattle.inst_program.specs.inner.ExitReason.{status_of_ending, status_of_error, status_of_kind, IsErrorStatus, IsUndone}
use Rattle.inst_program.specs.declared.exit_reason.ExitReason.{ExitReason}
use Rattle.inst_program.proofs.RefusedWords.{refused}
use Rattle.inst_program.proofs.Statuses.{known_fault, no_ending_is_zero, no_fault_is_zero, only_settings, three_is_not_zero, two_is_not_three, two_is_not_zero, two_or_three}

-- the task is done
pub ends_done : (words : List (List ℕ)) (t : Streams) (old new : Files) → Done words t old new → Ends words t old new 0
ends_done words t old new done =
    record { known = inl refl; done = λ is. done; refused = λ is. absurd (two_is_not_zero (sym is)); failed = λ is. absurd (three_is_not_zero (sym is)) }

-- it isn't
pub ends_undone : (words : List (List ℕ)) (t : Streams) (old new : Files) (e : ExitReason) (status : ℕ) → status ≡ status_of_ending e → IsUndone words t old new (status_of_ending e)
    → Ends words t old new status
ends_undone words t old new e status same undone = record {
  known = subst (λ (n : ℕ). (n ≡ 0) ⊎ ((n ≡ 2) ⊎ (n ≡ 3))) (sym same) (inr (two_or_three e));
  done = λ is. absurd (no_ending_is_zero e (sym same ∙ is));
  refused = λ is. undone.refused (sym same ∙ is);
  failed = λ is. undone.failed (sym same ∙ is);
}

status_of_any_kind : (kind : ErrorKind) → (status_of_kind kind ≡ 0) ⊎ ((status_of_kind kind ≡ 2) ⊎ (status_of_kind kind ≡ 3))
status_of_any_kind DisplayHelp = inl refl
status_of_any_kind DisplayVersion = inl refl
status_of_any_kind _ = inr (inl refl)

known_error : (e : WordsError) → (status_of_error e ≡ 0) ⊎ ((status_of_error e ≡ 2) ⊎ (status_of_error e ≡ 3))
known_error (error.Words e) = status_of_any_kind (kind_of e)
known_error (error.Option bad) = inr (inl refl)
known_error (error.Fault fault) = inr (known_fault fault)

known_status : (e : WordsError) (status : ℕ) → status ≡ status_of_error e → (status ≡ 0) ⊎ ((status ≡ 2) ⊎ (status ≡ 3))
known_status e status same = subst (λ (n : ℕ). (n ≡ 0) ⊎ ((n ≡ 2) ⊎ (n ≡ 3))) (sym same) (known_error e)

-- words that ask for nothing that can be done
help_kind : (words : List (List ℕ)) (kind : ErrorKind) → IsAmong kind (faults_of words) → status_of_kind kind ≡ 0 → AskForHelp words
help_kind words DisplayHelp among is = inl among
help_kind words DisplayVersion among is = inr among
help_kind words _ among is = absurd (two_is_not_zero is)

helped : (words : List (List ℕ)) (e : WordsError) → IsNoWish words e → status_of_error e ≡ 0 → AskForHelp words
helped words (error.Words e) none is = help_kind words (kind_of e) none.1 is
helped words (error.Option bad) none is = absurd (two_is_not_zero is)
helped words (error.Fault fault) none is = absurd (no_fault_is_zero fault is)

wrong_kind : (words : List (List ℕ)) (kind : ErrorKind) → IsAmong kind (faults_of words) → status_of_kind kind ≡ 2 → AreWrong words
wrong_kind words kind among is = (
  kind,
  among,
  (λ help. let no : 0 ≡ 2 = subst (λ k. status_of_kind k ≡ 2) help is in omega arith),
  (λ version. let no : 0 ≡ 2 = subst (λ k. status_of_kind k ≡ 2) version is in omega arith),
)

module _ (words : List (List ℕ)) (old new : Files) (stay : Stay old new) where
  unfit_or_log : AreUnfit words ⊎ NameABadLog words → Refusal words old new
  unfit_or_log (inl unfit) = Unfit (refused words unfit) stay
  unfit_or_log (inr log) = BadLog log stay

  of_refusal : (fault : Fault) → fault ≡ BadSettings → IsBeginRefusal (AreUnfit words ⊎ NameABadLog words) fault → Refusal words old new
  of_refusal fault bad (inl memory) = absurd (let no : ⊥ = cc (memory, bad) in no)
  of_refusal fault bad (inr h) = unfit_or_log h.1

  refused_error : (e : WordsError) → IsNoWish words e → status_of_error e ≡ 2 → Refusal words old new
  refused_error (error.Words e) none is = Wrong (wrong_kind words (kind_of e) none.1 is) stay
  refused_error (error.Option bad) none is = unfit_or_log none.0
  refused_error (error.Fault fault) none is = of_refusal fault (only_settings fault is) none

unwritten_error : (status : ℕ) (same : Type 0) → same ⊎ (status ≡ 0) → (status ≡ 0 → ⊥) → same
unwritten_error status same (inl is) other = is
unwritten_error status same (inr zero) other = absurd (other zero)

-- words that ask for nothing that can be done were told of: by their own status, or by 3 where a text that they ask for can't
-- be written
pub ends_wrong : (words : List (List ℕ)) (t : Streams) (old new : Files) (e : WordsError) (status : ℕ) → Stay old new → t.unread → t.unwritten ⊎ (status_of_error e ≡ 0) → IsNoWish words e
    → IsErrorStatus e status → Ends words t old new status
ends_wrong words t old new e status stay still written none (inl same) = record {
  known = known_status e status same;
  done = λ is. Helped still (helped words e none (sym same ∙ is)) stay;
  refused = λ is. record {
    unread = still;
    unwritten = unwritten_error (status_of_error e) t.unwritten written (λ zero. two_is_not_zero (sym is ∙ same ∙ zero));
    why = refused_error words old new stay e none (sym same ∙ is);
  };
  failed = λ is. Unbegun still (unwritten_error (status_of_error e) t.unwritten written (λ zero. three_is_not_zero (sym is ∙ same ∙ zero))) stay;
}
ends_wrong words t old new e status stay still written none (inr (text, three)) = record {
  known = inr (inr three);
  done = λ is. absurd (three_is_not_zero (sym three ∙ is));
  refused = λ is. absurd (two_is_not_three (sym is ∙ three));
  failed = λ is. Helping still (helped words e none text) stay;
}
