use Rattle.std.proofs.Common.{◌∙◌, sym}
use Rattle.inst_board.specs.declared.about.About.TheVariants.{Opened, HasTerms}
use Rattle.inst_board.specs.declared.look.Look.TheVariants.{Unused, Pending, Decided}
use Rattle.inst_cell.proofs.KnowledgeAfterStep.{opened_too, looks_as, knew_before, seen_only, says_known, terms_of, pending_not_unused, decided_not_unused, look_unused, look_pending, look_decided}
use Rattle.inst_cell.proofs.shared_board.board.SharedBoardBoard.look.Goals as goal

pub terms-terms-requires-clause-opened : goal.terms-terms-requires-clause-opened
terms-terms-requires-clause-opened c =
    let l = c.load-word.ensures in
    let s = l.shows in
    let t = terms_of s.standing c.read_word.result (c.read_word.ensures _ s.standing s.showable s.is) (pending_not_unused _ _ c.in-Pending.is) in
    says_known c.args.self.now c.load-word.new.self c.args.place s.standing s.mine (sym c.has.ensures ∙ c.if-not-has.false) l.stays.settings s.learns Opened tt (opened_too s.standing (HasTerms t.0) t.1)

pub terms-terms-requires-clause-known : goal.terms-terms-requires-clause-known
terms-terms-requires-clause-known c =
    let l = c.load-word.ensures in
    let s = l.shows in
    let t = terms_of s.standing c.read_word.result (c.read_word.ensures _ s.standing s.showable s.is) (pending_not_unused _ _ c.in-Pending.is) in
    (t.0, (says_known c.args.self.now c.load-word.new.self c.args.place s.standing s.mine (sym c.has.ensures ∙ c.if-not-has.false) l.stays.settings s.learns (HasTerms t.0) tt t.1))

pub terms-terms-requires-in-Decided-clause-opened : goal.terms-terms-requires-in-Decided-clause-opened
terms-terms-requires-in-Decided-clause-opened c =
    let l = c.load-word.ensures in
    let s = l.shows in
    let t = terms_of s.standing c.read_word.result (c.read_word.ensures _ s.standing s.showable s.is) (decided_not_unused _ _ _ c.in-Decided.is) in
    says_known c.args.self.now c.load-word.new.self c.args.place s.standing s.mine (sym c.has.ensures ∙ c.if-not-has.false) l.stays.settings s.learns Opened tt (opened_too s.standing (HasTerms t.0) t.1)

pub terms-terms-requires-in-Decided-clause-known : goal.terms-terms-requires-in-Decided-clause-known
terms-terms-requires-in-Decided-clause-known c =
    let l = c.load-word.ensures in
    let s = l.shows in
    let t = terms_of s.standing c.read_word.result (c.read_word.ensures _ s.standing s.showable s.is) (decided_not_unused _ _ _ c.in-Decided.is) in
    (t.0, (says_known c.args.self.now c.load-word.new.self c.args.place s.standing s.mine (sym c.has.ensures ∙ c.if-not-has.false) l.stays.settings s.learns (HasTerms t.0) tt t.1))

pub returns-in-Unused-clause-look : goal.returns-in-Unused-clause-look
returns-in-Unused-clause-look c =
    let l = c.load-word.ensures in
    let s = l.shows in
    let before = knew_before _ _ _ _ s in
    let word = c.read_word.ensures _ s.standing s.showable s.is in
    looks_as c.args.self.now c.args.place (sym c.has.ensures ∙ c.if-not-has.false) s.standing s.agrees c.load-word.new.self l.stays.settings (seen_only _ _ _ _ s) s.showable before.0 before.1 before.2 Unused (look_unused s.standing _ word c.in-Unused.is)

pub returns-in-Pending-clause-look : goal.returns-in-Pending-clause-look
returns-in-Pending-clause-look c =
    let b = c.args.self.now in
    let l = c.load-word.ensures in
    let e = c.terms-terms.ensures in
    let s = l.shows in
    let before = knew_before _ _ _ _ s in
    let word = c.read_word.ensures _ s.standing s.showable s.is in
    looks_as b c.args.place (sym c.has.ensures ∙ c.if-not-has.false) s.standing s.agrees c.terms-terms.new.self (e.stays.settings ∙ l.stays.settings) (e.view ∙ seen_only _ _ _ _ s) s.showable before.0 before.1 before.2 (Pending c.terms-terms.result c.in-Pending.deadline)
    (look_pending s.standing _ c.terms-terms.result c.in-Pending.deadline word c.in-Pending.is
    (λ u says. e.terms u (says_known b c.load-word.new.self c.args.place s.standing s.mine (sym c.has.ensures ∙ c.if-not-has.false) l.stays.settings s.learns (HasTerms u) tt says)))

pub returns-in-Decided-clause-look : goal.returns-in-Decided-clause-look
returns-in-Decided-clause-look c =
    let b = c.args.self.now in
    let l = c.load-word.ensures in
    let call = c.terms-terms-in-Decided in
    let e = call.ensures in
    let s = l.shows in
    let before = knew_before _ _ _ _ s in
    let word = c.read_word.ensures _ s.standing s.showable s.is in
    looks_as b c.args.place (sym c.has.ensures ∙ c.if-not-has.false) s.standing s.agrees call.new.self (e.stays.settings ∙ l.stays.settings) (e.view ∙ seen_only _ _ _ _ s) s.showable before.0 before.1 before.2 (Decided call.result c.in-Decided.outcome)
    (look_decided s.standing _ call.result c.in-Decided.outcome c.in-Decided.field-1 word c.in-Decided.is
    (λ u says. e.terms u (says_known b c.load-word.new.self c.args.place s.standing s.mine (sym c.has.ensures ∙ c.if-not-has.false) l.stays.settings s.learns (HasTerms u) tt says)))
