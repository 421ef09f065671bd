use Rattle.std.proofs.Common.{◌≡◌, ℕ, zero, suc, ◌+◌, ◌<◌, [], ◌∷◌, ◌++◌, length, refl, rules, ◌∙◌, sym, ap, subst, inl, inr, List, arith, ltb-true}
use Rattle.std.proofs.lemmas.Bool.{cases_eq}
use Rattle.inst_settings.specs.Settings.{participants}
use Rattle.inst_journal.specs.declared.event.Event.{Event}
use Rattle.inst_journal.specs.History.{History}
use Rattle.inst_model.specs.Hub.{history}
use Rattle.inst_world.specs.HasRun.{journal_of}
use Rattle.inst_world.specs.NextOpening.{books_of}
use Rattle.inst_world.proofs.CarriedTransfersFindPlaces.{below}
use Rattle.inst_world.proofs.world.World.journals.Goals as goal

one_more : (journals : List History) (journal : History) (p : ℕ) (J : List Event) → p < length journals + 1 → (p < length journals → books_of journals p ≡ J) → (p ≡ length journals → journal.events ≡ J) → books_of (journals ++ journal ∷ []) p ≡ J
one_more [] journal zero J less old new = new refl
one_more [] journal (suc p) J less old new = absurd (omega (arith, less))
one_more (x ∷ xs) journal zero J less old new = old (omega arith)
one_more (x ∷ xs) journal (suc p) J less old new = one_more xs journal p J (omega (arith, less)) (λ before. old (omega (arith, before))) (λ last. new (ap suc last))

pub loop-who-preserved : goal.loop-who-preserved
loop-who-preserved c =
    let inv = c.loop-who.invariant in
    record {
      one_each = search rules;
      same = λ p less.
          ap (λ (xs : List History). books_of xs p) c.in_ok-push.ensures.items
          ∙ one_more c.loop-who.journals.items c.in_ok-copy.field-0 p (journal_of c.args.self.now p) (omega (arith, less, inv.one_each)) (λ before. inv.same p (omega (arith, before, inv.one_each)))
          (λ last. c.in_ok-copy.ensures.ok ∙ c.journal.ensures.events ∙ ap (journal_of c.args.self.now) (sym (last ∙ inv.one_each)));
      histories = λ p less O L was. elim (cases_eq p c.loop-who.who) [
        | inl here ↦ subst (λ q. journal_of c.args.self.now q ≡ history c.args.self.now.board.settings O L q) (sym here) (sym c.journal.ensures.events ∙ c.journal.ensures.history O L was)
        | inr other ↦ inv.histories p (below p c.loop-who.who less other) O L was
      ];
    }

pub returns : goal.returns
returns c =
    let inv = c.loop-who.invariant in
    let end : c.loop-who.who ≡ c.participants-participants.result = omega arith in
    let all : c.loop-who.who ≡ participants c.args.self.now.board.settings = end ∙ c.participants-participants.ensures.value ∙ ap participants c.settings.ensures in
    record {
      ok = λ O L was. record {
        one_each = inv.one_each ∙ all;
        same = λ p one.
            let less : p < c.loop-who.who = omega (arith, ltb-true p (participants c.args.self.now.board.settings) one) in
            inv.same p less ∙ inv.histories p less O L was;
      };
    }
