-- Which words have the number of a rejection.
use Rattle.std.proofs.Common.{◌≡◌, ℕ, ◌+◌, ◌-◌, ◌*◌, ◌/◌, ◌%◌, true, false, ◌&&◌, nat_le, List, refl, sym, ◌∙◌, subst, arith}
use Rattle.std.specs.Prelude.{IsTrue, Option, Some, None, Ok, Err, if◌then◌else◌}
use Rattle.std.specs.Result.{result_ok}
use Rattle.std.proofs.lemmas.Bool.{and_parts}
use Rattle.inst_base.specs.declared.fault.Fault.TheVariants.{BadMoment}
use Rattle.inst_base.specs.Moment.{is_moment, moment_of}
use Rattle.inst_base.specs.Text.{is_reason}
use Rattle.inst_command.specs.declared.outcome.Outcome.TheVariants.{Accepted, Rejected, TimedOut}
use Rattle.inst_terms.specs.declared.word.Word.{Word}
use Rattle.inst_terms.specs.declared.word.Word.TheVariants.{Unused, Pending, Decided}
use Rattle.inst_terms.specs.Reason.{reason_number}
use Rattle.inst_terms.specs.Word.{IsWord, word_number}
use Rattle.inst_terms.proofs.Reasons.{four_characters}

pub record IsRejection (word : ℕ) (read : Word) : Type 0 where
  pub reason : List ℕ
  pub moment : ℕ
  pub is : read ≡ Decided (Rejected reason) moment
  pub form : IsTrue (is_reason reason)
  pub reason_is : reason_number reason ≡ word / 4 % 2097152
  pub moment_is : moment ≡ word / 4 / 2097152

pub rejection : (word : ℕ) (read : Word) → IsWord read → word_number read ≡ word → word % 4 ≡ 2 → IsRejection word read
rejection word Unused h is kind = absurd (omega arith)
rejection word (Pending d) h is kind = absurd (omega arith)
rejection word (Decided Accepted t) h is kind = absurd (omega arith)
rejection word (Decided (Rejected r) t) h is kind =
    let below = (four_characters r h.0).below in
    record { reason = r; moment = t; is = refl; form = h.0; reason_is = omega arith; moment_is = omega arith }
rejection word (Decided TimedOut t) h is kind = absurd (omega arith)

pub moment_found : (x at : ℕ) → Some at ≡ result_ok (moment_of 0 x) → (at ≡ x) × IsTrue (is_moment at)
moment_found x at = elim (nat_le 0 x && is_moment (x - 0)) as (λ b. ((nat_le 0 x && is_moment (x - 0)) ≡ b) → Some at ≡ result_ok (if b then Ok (x - 0) else Err BadMoment) → (at ≡ x) × IsTrue (is_moment at)) [
  | true ↦ λ h e. let same : at ≡ x - 0 = cc in
      (same ∙ omega arith, subst (λ (m : ℕ). IsTrue (is_moment m)) (sym same) (and_parts (nat_le 0 x) (is_moment (x - 0)) h).1)
  | false ↦ λ h e. absurd (cc)
] refl

pub nothing_found : (o : Option (List ℕ)) (reason : List ℕ) → o ≡ None → o ≡ Some reason → ⊥
nothing_found o reason none found = absurd (cc)

pub found_once : (o : Option (List ℕ)) (a b : List ℕ) → o ≡ Some a → o ≡ Some b → a ≡ b
found_once o a b one two = cc

pub rejection_number : (word moment reason : ℕ) → moment ≡ word / 4 / 2097152 → reason ≡ word / 4 % 2097152 → word % 4 ≡ 2 → (moment * 2097152 + reason) * 4 + 2 ≡ word
rejection_number word moment reason a b kind = omega arith

pub same_rejection : (reason r : List ℕ) (at t : ℕ) (read : Word) → at ≡ t → reason ≡ r → read ≡ Decided (Rejected r) t → Some (Decided (Rejected reason) at) ≡ Some read
same_rejection reason r at t read moment same is = cc
