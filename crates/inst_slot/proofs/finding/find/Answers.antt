use Rattle.std.proofs.Common.{◌≡◌, ℕ, true, inl, ⊎_elim, refl, sym, ap, subst, ◌∙◌, Option, Some, None, is_none, arith}
use Rattle.std.proofs.lemmas.Grind.{pieces}
use Rattle.std.proofs.lemmas.Bool.{true≢false}
use Rattle.inst_settings.specs.Settings.{HubSettings}
use Rattle.inst_command.specs.declared.outcome.Outcome.{Outcome}
use Rattle.inst_command.specs.declared.place.Place.{Place}
use Rattle.inst_board.specs.declared.wish.Wish.{Wish}
use Rattle.inst_board.specs.declared.look.Look.{Look}
use Rattle.inst_board.specs.declared.about.Fact.{Fact}
use Rattle.inst_board.specs.Standing.{Standing, unused, pending, decided, look_of, about}
use Rattle.inst_board.specs.Wish.{wanted}
use Rattle.inst_board.specs.Learning.{Looks, AnswersWish, Decides}
use Rattle.inst_slot.specs.Asking.{stays_pending, Finds, OnlyLooks}
use Rattle.inst_slot.proofs.RefusalsChangeNothing.{on_err}
use Rattle.inst_slot.proofs.finding.find.Goals as goal

no_outcome : (o : Option Outcome) → is_none o ≡ true → o ≡ None
no_outcome None e = refl
no_outcome (Some x) e = absurd (true≢false (sym e))

unanswered : (margin : ℕ) (stood : Outcome → Type 0) (wish : Wish) (at : ℕ) (p : Standing) → stays_pending margin wish at (look_of p) ≡ true → AnswersWish margin stood wish at p None
unanswered margin stood wish at unused e = absurd (true≢false (sym e))
unanswered margin stood wish at (pending t d) e = (refl, no_outcome (wanted margin wish d at) e)
unanswered margin stood wish at (decided t d o m) e = absurd (true≢false (sym e))

-- where a look shows a transfer that stays pending, its place needs no decision
pending_found : {B : Type 0} (margin : ℕ) (knows : B → Fact → Type 0) (has_role : B → ℕ → Type 0) (stood : B → Place → Outcome → Type 0) (stays : B → B → Type 0) (b c : B) (k : Place) (wish : Wish) (at : ℕ) (look : Look)
    → Looks margin knows has_role stood b k look c → stays b c → stays_pending margin wish at look ≡ true → Finds margin knows has_role stood stays b k wish at None c
pending_found margin knows has_role stood stays b c k wish at look h still e = record {
  look = look;
  between = c;
  same_holder = still;
  looks = h;
  decides = record {
    standing = h.standing;
    learns = record {
      lawful = h.learns.lawful;
      agrees = λ a now. ⊎_elim (λ old. h.learns.agrees a old) (λ new. new.1) (h.learns.only (about k a) now);
      kept = λ f now. now;
      shown = h.learns.shown;
      only = λ f now. inl now;
    };
    answers = unanswered margin (stood c k) wish at h.standing (ap (stays_pending margin wish at) (sym h.look_is) ∙ e);
    decided = λ o e. let no : ⊥ = cc in absurd no;
    reading = λ moment now. inl now;
  };
}

pub returns-then-stays_pending-clause-found : goal.returns-then-stays_pending-clause-found
returns-then-stays_pending-clause-found g c =
    let b = g.B.Board in
    let l = c.place_state-place_state.ensures.look in
    pending_found (b.settings c.args.board.now).margin b.knows b.has_role b.stood b.stays c.args.board.now c.place_state-place_state.new.self c.args.place c.args.wish c.args.at l.0 l.1 c.place_state-place_state.ensures.stays
    (ap (λ m. stays_pending m c.args.wish c.args.at l.0) (sym c.requires.margin) ∙ sym (c.stays_pending.ensures l.0 l.2) ∙ c.if-stays_pending.true)

pub returns-in_err-reserve-clause-err : goal.returns-in_err-reserve-clause-err
returns-in_err-reserve-clause-err g c =
    let b = g.B.Board in
    let margin = (b.settings c.args.board.now).margin in
    let l = c.place_state-place_state.ensures.look in
    on_err c.from_residual.result (OnlyLooks margin b.knows b.has_role b.stood c.args.board.now c.args.place c.args.wish c.args.at c.place_state-place_state.new.self)
    (record { look = l.0; looks = l.1; books = ap (λ m. stays_pending m c.args.wish c.args.at l.0) (sym c.requires.margin) ∙ sym (c.stays_pending.ensures l.0 l.2) ∙ c.if-stays_pending.false })

pub returns-clause-found : goal.returns-clause-found
returns-clause-found g c =
    let b = g.B.Board in
    let l = c.place_state-place_state.ensures.look in
    let same = ap (λ (s : HubSettings). s.margin) (g.met.B.Board.stays_settings c.args.board.now c.place_state-place_state.new.self c.place_state-place_state.ensures.stays) in
    record {
      look = l.0;
      between = c.place_state-place_state.new.self;
      same_holder = c.place_state-place_state.ensures.stays;
      looks = l.1;
      decides = subst (λ (m : ℕ). Decides m b.knows b.stood c.place_state-place_state.new.self c.args.place c.args.wish c.args.at c.decide.result c.decide.new.self) same c.decide.ensures.decides;
    }

pub returns-clause-stays : goal.returns-clause-stays
returns-clause-stays g c = search (pieces, arith) depth 5 fits 300
