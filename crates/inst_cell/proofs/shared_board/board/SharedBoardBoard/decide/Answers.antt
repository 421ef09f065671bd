use Rattle.std.proofs.Common.{◌<◌, ℕ, List, ◌∙◌, sym, ap, subst, ⊎_elim, inl, inr, None, Some}
use Rattle.std.specs.Prelude.{Option}
use Rattle.inst_command.specs.declared.outcome.Outcome.{Outcome}
use Rattle.inst_settings.specs.Settings.{HubSettings}
use Rattle.inst_board.specs.declared.about.About.TheVariants.{Opened, HasTerms, Due, DecidedAt}
use Rattle.inst_board.specs.Standing.{about}
use Rattle.inst_board.specs.Learning.{AnswersWish, Learns}
use Rattle.inst_board.proofs.PlainSteps.{wanted_in_time}
use Rattle.inst_cell.specs.View.{count}
use Rattle.inst_cell.specs.Rule.{IsShowable}
use Rattle.inst_cell.specs.Held.{settings_of, knows, has_role, stood}
use Rattle.inst_cell.proofs.KnowledgeAfterStep.{wants_at, learns_as, learns_two, says_known, stood_from, stood_across, knew_before, due_of, opened_not_unused, answers_decided, answers_pending, answers_settled, settled, answers_party, a_party, place_still, moment_known, moment_still, moment_cases, moment_own, decided_of, not_mine}
use Rattle.inst_cell.proofs.FactsLearntFromStep.{no_none}
use Rattle.inst_cell.proofs.shared_board.board.SharedBoardBoard.decide.Goals as goal
use Rattle.inst_cell.proofs.KnowledgeOfOneStanding.{same_moment}

pub returns-in_err-outcome-in-Pending-clause-decides :
    goal.returns-in_err-outcome-in-Pending-clause-decides
returns-in_err-outcome-in-Pending-clause-decides c =
    let b = c.args.self.now in let k = c.args.place in
    let l = c.load-word.ensures in
    let s = l.shows in
    let word = c.read_word.ensures _ s.standing s.showable s.is in
    record {
      standing = s.standing;
      learns = learns_as b c.load-word.new.self k s.standing s.mine c.requires.opened.0 l.stays.settings s.learns s.showable s.agrees;
      answers = subst (λ (r : Option Outcome). AnswersWish (settings_of b).margin (stood b k) c.args.wish c.args.at s.standing r) (sym c.from_residual.ensures)
          (answers_pending (settings_of b).margin (stood b k) c.args.wish c.args.at s.standing c.read_word.result c.in-Pending.deadline word c.in-Pending.is (wants_at c.load-word.new.self.margin (settings_of b).margin c.args.wish c.in-Pending.deadline c.args.at None (c.load-word.new.self.margin_is ∙ ap (λ (z : HubSettings). z.margin) l.stays.settings) (sym c.outcome.ensures ∙ c.in_err-outcome-in-Pending.was)));
      decided = λ z is. absurd (no_none _ z is c.from_residual.ensures);
      reading = λ u h. inl (moment_still b c.load-word.new.self k s.standing s.mine c.requires.opened.0 l.stays.settings s.learns u (not_mine _ _ _ _ s) h);
    }

pub settle-word-requires-clause-in_time : goal.settle-word-requires-clause-in_time
settle-word-requires-clause-in_time c =
    let m = c.load-word.new.self in
    wanted_in_time (settings_of m).margin c.args.wish c.in-Pending.deadline c.args.at c.in_ok-outcome-in-Pending.outcome (wants_at m.margin (settings_of m).margin c.args.wish c.in-Pending.deadline c.args.at (Some c.in_ok-outcome-in-Pending.outcome) m.margin_is (sym c.outcome.ensures ∙ c.in_ok-outcome-in-Pending.was))

pub settle-word-requires-clause-due : goal.settle-word-requires-clause-due
settle-word-requires-clause-due c =
    let l = c.load-word.ensures in
    let s = l.shows in
    let word = c.read_word.ensures _ s.standing s.showable s.is in
    (says_known c.args.self.now c.load-word.new.self c.args.place s.standing s.mine c.requires.opened.0 l.stays.settings s.learns (Due c.in-Pending.deadline) tt (due_of s.standing c.read_word.result c.in-Pending.deadline word c.in-Pending.is))

pub settle-word-requires-clause-terms : goal.settle-word-requires-clause-terms
settle-word-requires-clause-terms c =
    let l = c.load-word.ensures in
    let s = l.shows in
    let may = c.requires in
    let wants = sym c.outcome.ensures ∙ c.in_ok-outcome-in-Pending.was in (
      may.terms,
      (says_known c.args.self.now c.load-word.new.self c.args.place s.standing s.mine may.opened.0 l.stays.settings s.learns (HasTerms may.terms) tt (s.agrees (HasTerms may.terms) may.has_terms.1)),
      λ ans. subst (λ (r : List ℕ). 0 < count may.terms.to r) (sym l.stays.roles)
          (answers_party c.load-word.new.self.margin (has_role c.args.self.now) c.args.wish c.args.place may.terms c.in-Pending.deadline c.args.at c.in_ok-outcome-in-Pending.outcome wants may.party ans),
      ⊎_elim
          (λ mine. inl (subst (λ (r : List ℕ). 0 < count c.args.place.owner r) (sym l.stays.roles) mine))
          (λ its. inr (subst (λ (r : List ℕ). 0 < count may.terms.to r) (sym l.stays.roles) its))
          (a_party (has_role c.args.self.now) c.args.wish c.args.place may.terms may.party),
    )

pub unreachable-requires : goal.unreachable-requires
unreachable-requires c =
    let l = c.load-word.ensures in
    let s = l.shows in
    let word = c.read_word.ensures _ s.standing s.showable s.is in
    let due = (says_known c.args.self.now c.load-word.new.self c.args.place s.standing s.mine c.requires.opened.0 l.stays.settings s.learns (Due c.in-Pending.deadline) tt (due_of s.standing c.read_word.result c.in-Pending.deadline word c.in-Pending.is)).1 in
    let t = c.settle-word.ensures.shows in
    let word' = c.read_word-in-Pending.ensures _ t.standing t.showable t.is in
    let z = settled t.standing c.read_word-in-Pending.result c.in-Pending.deadline c.settle-word.result (t.agrees (Due c.in-Pending.deadline) due) word' t.is c.settle-word.ensures.moved in
    c.in_default.not-Decided z.0 z.1 z.2

pub unreachable-requires-in-Unused : goal.unreachable-requires-in-Unused
unreachable-requires-in-Unused c =
    let s = c.load-word.ensures.shows in
    opened_not_unused s.standing c.read_word.result (s.agrees Opened c.requires.opened.1) (c.read_word.ensures _ s.standing s.showable s.is) c.in-Unused.is

pub returns-in-Decided-clause-decides : goal.returns-in-Decided-clause-decides
returns-in-Decided-clause-decides c =
    let b = c.args.self.now in let k = c.args.place in
    let l = c.load-word.ensures in
    let s = l.shows in
    let word = c.read_word.ensures _ s.standing s.showable s.is in
    record {
      standing = s.standing;
      learns = learns_as b c.load-word.new.self k s.standing s.mine c.requires.opened.0 l.stays.settings s.learns s.showable s.agrees;
      answers = answers_decided (settings_of b).margin (stood b k) c.args.wish c.args.at s.standing c.read_word.result c.in-Decided.outcome c.in-Decided.field-1 word c.in-Decided.is
          (λ o says. stood_from b k c.requires.opened.0 s.standing s.agrees (knew_before _ _ _ _ s).1 o says);
      decided = λ z is. inl (stood_from b k c.requires.opened.0 s.standing s.agrees (knew_before _ _ _ _ s).1 z (decided_of s.standing c.read_word.result c.in-Decided.outcome z c.in-Decided.field-1 word c.in-Decided.is is));
      reading = λ u h. inl (moment_still b c.load-word.new.self k s.standing s.mine c.requires.opened.0 l.stays.settings s.learns u (not_mine _ _ _ _ s) h);
    }

pub returns-in-Decided-read_word-clause-decides : goal.returns-in-Decided-read_word-clause-decides
returns-in-Decided-read_word-clause-decides c =
    let b = c.args.self.now in let m = c.load-word.new.self in let d = c.settle-word.new.self in let k = c.args.place in
    let l = c.load-word.ensures in
    let s = l.shows in
    let word = c.read_word.ensures _ s.standing s.showable s.is in
    let place = c.requires.opened.0 in
    let deadline = c.in-Pending.deadline in
    let due = (says_known b m k s.standing s.mine place l.stays.settings s.learns (Due deadline) tt (due_of s.standing c.read_word.result deadline word c.in-Pending.is)).1 in
    let e = c.settle-word.ensures in
    let t = e.shows in
    let word' = c.read_word-in-Pending.ensures _ t.standing t.showable t.is in
    let one = learns_as b m k s.standing s.mine place l.stays.settings s.learns s.showable s.agrees in
    let place' = place_still b m k l.stays place in
    let of_own = moment_own m.seat.me.0.margin t.standing c.read_word-in-Pending.result c.in-Decided-read_word.outcome c.in_ok-outcome-in-Pending.outcome c.in-Decided-read_word.field-1 c.args.at c.settle-word.result word' c.in-Decided-read_word.is t.is t.showable e.word in
    let unread = λ (u : ℕ) (h : knows m (about k (DecidedAt u))). moment_still b m k s.standing s.mine place l.stays.settings s.learns u (not_mine _ _ _ _ s) h in
    let two = subst (λ (z : HubSettings). Learns z.margin knows m k t.standing d) l.stays.settings (learns_as m d k t.standing t.mine place' e.stays.settings t.learns t.showable t.agrees) in
    record {
      standing = t.standing;
      learns = learns_two (settings_of b).margin knows b m d k s.standing t.standing one two;
      answers = answers_settled (settings_of b).margin (stood b k) c.args.wish c.args.at t.standing c.read_word-in-Pending.result deadline c.in_ok-outcome-in-Pending.outcome c.in-Decided-read_word.outcome c.in-Decided-read_word.field-1 c.settle-word.result
          word' c.in-Decided-read_word.is t.is (subst (λ (z : ℕ). IsShowable z t.standing) (m.bounded ∙ ap (λ (z : HubSettings). z.margin) l.stays.settings) t.showable) e.word (t.agrees (Due deadline) due) (wants_at m.margin (settings_of b).margin c.args.wish deadline c.args.at (Some c.in_ok-outcome-in-Pending.outcome) (m.margin_is ∙ ap (λ (z : HubSettings). z.margin) l.stays.settings) (sym c.outcome.ensures ∙ c.in_ok-outcome-in-Pending.was))
          (⊎_elim (λ own. inl own.0) (λ knew. inr (λ o says. stood_across b m k s.standing t.standing c.read_word.result deadline l.stays one word c.in-Pending.is t.agrees knew.2 o says)) t.before);
      decided = λ z is. ⊎_elim
          (λ own. inr (moment_known m d k t.standing t.mine place' e.stays.settings t.learns c.args.at own.1 (of_own own.0)))
          (λ knew. inl (stood_across b m k s.standing t.standing c.read_word.result deadline l.stays one word c.in-Pending.is t.agrees knew.2 z
          (decided_of t.standing c.read_word-in-Pending.result c.in-Decided-read_word.outcome z c.in-Decided-read_word.field-1 word' c.in-Decided-read_word.is is)))
          t.before;
      reading = λ u h. ⊎_elim
          (λ old. inl (unread u old))
          (λ new. ⊎_elim
          (λ own. inr (same_moment t.standing u c.args.at new (of_own own.0)))
          (λ knew. inl (unread u (moment_still m d k t.standing t.mine place' e.stays.settings t.learns u knew.0 h)))
          t.before)
          (moment_cases m d k t.standing t.mine place' e.stays.settings t.learns u h);
    }
