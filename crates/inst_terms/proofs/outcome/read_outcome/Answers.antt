use Rattle.std.proofs.Common.{◌≡◌, ◌/◌, ◌∙◌, ap, sym, subst, arith}
use Rattle.std.specs.Result.{result_ok}
use Rattle.inst_command.specs.declared.outcome.Outcome.TheVariants.{Rejected}
use Rattle.inst_terms.specs.declared.word.Word.{Word}
use Rattle.inst_terms.specs.declared.word.Word.TheVariants.{Decided}
use Rattle.inst_terms.specs.Word.{IsWord, word_number}
use Rattle.inst_terms.proofs.WordsOfRejections.{rejection, moment_found, nothing_found, found_once, rejection_number, same_rejection}
use Rattle.inst_terms.proofs.outcome.read_outcome.Goals as goal

pub returns-in_err-reason : goal.returns-in_err-reason
returns-in_err-reason c = λ read. (
  λ e. absurd (cc),
  λ h. let r = rejection c.args.word read h.0 h.1 (omega arith) in
      absurd (nothing_found c.read_reason.result r.reason c.in_err-reason.was ((c.read_reason.ensures r.reason).1 (r.form, r.reason_is))),
)

pub returns-then-kind-eq-REJECTED : goal.returns-then-kind-eq-REJECTED
returns-then-kind-eq-REJECTED c = λ read.
    let reason = c.in_ok-reason.reason in
    let at = c.in_ok-at.at in
    let moment = moment_found (c.args.word / 4 / 2097152) at (c.in_ok-at.ensures.value ∙ ap result_ok c.new.ensures) in
    let known = (c.read_reason.ensures reason).0 c.in_ok-reason.was in (
      λ e. let is : Decided (Rejected reason) at ≡ read = cc in
          subst (λ (w : Word). IsWord w × (word_number w ≡ c.args.word)) is ((known.0, moment.1), rejection_number c.args.word _ _ moment.0 known.1 (omega arith)),
      λ h. let r = rejection c.args.word read h.0 h.1 (omega arith) in
          let same = moment.0 ∙ sym r.moment_is in
          let alike = found_once c.read_reason.result reason r.reason c.in_ok-reason.was ((c.read_reason.ensures r.reason).1 (r.form, r.reason_is)) in
          same_rejection reason r.reason at r.moment read same alike r.is,
    )
