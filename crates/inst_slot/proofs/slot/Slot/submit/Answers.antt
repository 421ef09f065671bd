use Rattle.std.proofs.Common.{rules, ◌≡◌, ◌∙◌, ◌∷◌, [], ℕ, true, false, Bool, Ok, Err, refl, sym, ap, subst, arith}
use Rattle.std.proofs.lemmas.Grind.{common_steps}
use Rattle.inst_base.specs.TimeLimit.{deadline_of}
use Rattle.inst_base.specs.declared.fault.Fault.TheVariants.{Memory}
use Rattle.inst_settings.specs.Settings.{HubSettings}
use Rattle.inst_command.specs.declared.reply.Reply.TheVariants.{Taken as TakenReply}
use Rattle.inst_ledger.specs.Book.{submission_result, submission_event}
use Rattle.inst_slot.specs.Asking.{Opens, Enters}
use Rattle.inst_slot.specs.Book.{Book}
use Rattle.inst_slot.proofs.CommandsThatDecideNothing.{enters_as, enters_quietly, enters_in_want, submission_as}
use Rattle.inst_slot.proofs.slot.Slot.submit.Goals.{then-is_new+in_ok-take, else-is_new}
use Rattle.inst_slot.proofs.slot.Slot.submit.Goals as goal

pub returns-in_err-is_new-clause-enters : goal.returns-in_err-is_new-clause-enters
returns-in_err-is_new-clause-enters g c =
    let b = g.B.Board in
    let book : Book = c.args.self.now in
    let x = c.args.submission.now in
    let handled = submission_as _ book c.args.ask.now x c.is_new_submission.result c.self.view_is c.requires.command c.is_new_submission.ensures.answer in
    let refused : c.from_residual.result ≡ Err c.in_err-is_new.field-0.0 = search rules in
    enters_quietly b.knows (b.settings c.args.board.now).margin book c.args.ask.now c.args.board.now (Err c.in_err-is_new.field-0.0) c.from_residual.result
    (handled ∙ ap (submission_result book.settings x) c.in_err-is_new.was) refl refused

pub returns-in_err-take-clause-enters : goal.returns-in_err-take-clause-enters
returns-in_err-take-clause-enters g c =
    let b = g.B.Board in
    let book : Book = c.args.self.now in
    let x = c.args.submission.now in
    let handled = submission_as _ book c.args.ask.now x c.is_new_submission.result c.self.view_is c.requires.command c.is_new_submission.ensures.answer in
    let new : c.is_new_submission.result ≡ Ok true = c.in_ok-is_new.was ∙ ap (λ (n : Bool). Ok n) c.if-is_new.true in
    let refused : c.from_residual-in_err-take.result ≡ Err Memory = search rules in
    enters_in_want b.knows (b.settings c.args.board.now).margin book c.args.ask.now c.args.board.now (submission_result book.settings x (Ok true)) (submission_event x)
    (handled ∙ ap (submission_result book.settings x) new) refl c.from_residual-in_err-take.result refused c.take.new.self c.in_err-take.ensures.err.0 c.take.new.board c.in_err-take.ensures.err.1

pub returns-clause-enters : goal.returns-clause-enters
returns-clause-enters g c =
    let b = g.B.Board in
    let book : Book = c.args.self.now in
    let margin = (b.settings c.args.board.now).margin in
    let x = c.args.submission.now in
    let handled = submission_as _ book c.args.ask.now x c.is_new_submission.result c.self.view_is c.requires.command c.is_new_submission.ensures.answer in
    let due : c.deadline-deadline.result ≡ deadline_of book.settings.limit x.stamp = c.deadline-deadline.ensures ∙ ap (λ (n : ℕ). deadline_of n x.stamp) (c.limit.ensures.value ∙ ap (λ (s : HubSettings). s.limit) c.settings.ensures.value ∙ ap (λ (k : Book). k.settings.limit) c.self.view_is) in
    let replied : Ok (TakenReply x.id c.deadline-deadline.result) ≡ Ok (TakenReply x.id (deadline_of book.settings.limit x.stamp)) = ap (λ (n : ℕ). Ok (TakenReply x.id n)) due in
    elim c.if-is_new.branch [
      | then-is_new+in_ok-take w ↦
          let new : c.is_new_submission.result ≡ Ok true = c.in_ok-is_new.was ∙ ap (λ (n : Bool). Ok n) w.if-is_new.true in
          enters_as b.knows margin book c.args.ask.now c.args.board.now c.if-is_new.board (submission_result book.settings x (Ok true)) (Ok (TakenReply x.id c.deadline-deadline.result)) c.if-is_new.self
          (handled ∙ ap (submission_result book.settings x) new) replied
          (w.self-is ∙ w.in_ok-take.ensures.ok)
          (subst (λ (d : g.row.B.Denot). Opens margin b.knows book (submission_event x ∷ []) c.args.board.now d) (sym w.board-is) w.in_ok-take.ensures.opens)
      | else-is_new w ↦
          let old : c.is_new_submission.result ≡ Ok false = c.in_ok-is_new.was ∙ ap (λ (n : Bool). Ok n) w.if-is_new.false in
          let result = Ok (TakenReply x.id c.deadline-deadline.result) in
          let quiet = enters_quietly b.knows margin book c.args.ask.now c.args.board.now (submission_result book.settings x (Ok false)) result (handled ∙ ap (submission_result book.settings x) old) refl replied in
          subst (λ (k : Book). Enters margin b.knows c.args.board.now book c.args.ask.now result c.if-is_new.board k) (sym w.self-is)
          (subst (λ (d : g.row.B.Denot). Enters margin b.knows c.args.board.now book c.args.ask.now result d book) (sym w.board-is) quiet)
    ]

pub returns-in_err-is_new-clause-stays : goal.returns-in_err-is_new-clause-stays
returns-in_err-is_new-clause-stays g c = grind (arith, common_steps)

pub is_new_submission-requires-clause-deadline : goal.is_new_submission-requires-clause-deadline
is_new_submission-requires-clause-deadline g c =
    c.deadline-deadline.ensures ∙ ap (λ (n : ℕ). deadline_of n c.args.submission.now.stamp) (c.limit.ensures.value ∙ ap (λ (s : HubSettings). s.limit) c.settings.ensures.value)

pub take-requires-clause-deadline : goal.take-requires-clause-deadline
take-requires-clause-deadline g c =
    c.deadline-deadline.ensures ∙ ap (λ (n : ℕ). deadline_of n c.args.submission.now.stamp) (c.limit.ensures.value ∙ ap (λ (s : HubSettings). s.limit) c.settings.ensures.value ∙ ap (λ (k : Book). k.settings.limit) c.self.view_is)
