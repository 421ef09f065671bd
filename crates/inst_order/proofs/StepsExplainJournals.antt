-- Journals that a hub has after it ran steps are explained by these steps.
use Rattle.std.proofs.Common.{◌≡◌, ℕ, ◌<◌, Bool, true, false, List, [], length, reverse, get_or, Some, IsTrue, IfSome, refl, sym, ap, ◌∙◌, arith}
use Rattle.std.specs.Bool.{then_some}
use Rattle.std.proofs.lemmas.Bool.{ltb-false}
use Rattle.std.proofs.lemmas.Option.{slice_get-get_or, slice_get_past}
use Rattle.inst_settings.specs.Settings.{HubSettings, participants, is_participant}
use Rattle.inst_command.specs.declared.reply.Answer.{Answer}
use Rattle.inst_command.specs.declared.step.Step.{Step}
use Rattle.inst_journal.specs.declared.event.Event.{Event}
use Rattle.inst_journal.specs.History.{History}
use Rattle.inst_model.specs.Opening.{Opening}
use Rattle.inst_model.specs.Trace.{trace}
use Rattle.inst_world.specs.HasRun.{World, world_settings, journal_of}
use Rattle.inst_world.specs.Headline.{run_of, KeepsTheHeadline}
use Rattle.inst_world.specs.NextOpening.{kept_by, books_of, AreJournalsOf}
use Rattle.inst_world.proofs.PromisesFollowFromLaws.{keeps_the_headline}
use Rattle.inst_order.specs.Order.{ExplainsBooks, ExplainsJournals}

-- the book of a participant is the journal at its number
pub book_at : (journals : List History) (p i : ℕ) (journal : History) → p < length journals → i ≡ p → journal ≡ get_or journals i journal → books_of journals p ≡ journal.events
book_at journals p i journal below same here =
    ap kept_by (slice_get-get_or journals p journal below ∙ ap (λ (j : History). Some j) (ap (λ (n : ℕ). get_or journals n journal) (sym same) ∙ sym here))

-- a value that `then_some` gives only where a test holds
pub if_given : {T : Type 0} (P : T → Type 0) (given : Bool) (x : T) → (IsTrue given → P x) → IfSome (then_some given x) P
if_given P true x holds = holds refl
if_given P false x holds = tt

-- steps that explain some books explain other books that have the same for each participant and nothing for anybody else
pub same_books : (s : HubSettings) (O : Opening) (steps : List Step) (J K : ℕ → List Event) (answers : List Answer) → KeepsTheHeadline s (run_of O steps J answers)
    → ((p : ℕ) → is_participant s p ≡ true → K p ≡ J p) → ((p : ℕ) → is_participant s p ≡ false → K p ≡ []) → ExplainsBooks s O steps K
same_books s O steps J K answers kept same nobody = keeps_the_headline s (run_of O steps K (trace s O (reverse steps))) (record {
  opens = kept.is_run.opens;
  fits = kept.is_run.fits;
  journals_are = λ p one. same p one ∙ kept.is_run.journals_are p one;
  nobody_else = nobody;
  answers_are = refl;
})

-- nobody else has a journal
pub nobody_else : (s : HubSettings) (journals : List History) → length journals ≡ participants s → (p : ℕ) → is_participant s p ≡ false → books_of journals p ≡ []
nobody_else s journals one_each p none = ap kept_by (slice_get_past journals p (omega (arith, ltb-false p (participants s) none, one_each)))

-- the journals of a hub that ran the steps
pub explained : (s : HubSettings) (O : Opening) (steps : List Step) (world : World) (answers : List Answer) (journals : List History) → world_settings world ≡ s
    → KeepsTheHeadline s (run_of O steps (journal_of world) answers) → AreJournalsOf (world_settings world) (journal_of world) journals → ExplainsJournals s O steps journals
explained s O steps world answers journals same kept are =
    let one_each : length journals ≡ participants s = are.one_each ∙ ap participants same in
    record {
      one_each = one_each;
      headline =
          same_books s O steps (journal_of world) (books_of journals) answers kept
          (λ p one. are.same p (ap (λ (t : HubSettings). is_participant t p) same ∙ one)) (nobody_else s journals one_each);
    }
