use Rattle.std.proofs.Common.{◌≡◌, ℕ, arith, rules, length, refl, sym, ap, ◌∙◌}
use Rattle.std.proofs.lemmas.Grind.{common_steps}
use Rattle.inst_journal.specs.declared.event.Event.TheVariants.{Forwarded, Booked, Opened}
use Rattle.inst_ledger.specs.Book.{LedgerBook}
use Rattle.inst_books.proofs.CountsAfterOneMoreEvent.{IsQuiet, quiet_one, own_booked, one_came, some_wait, one_booked, begun, after_keeping, fits_within, sound_before}
use Rattle.inst_books.proofs.replay.Replay.keep.Goals as goal

pub settle-requires : goal.settle-requires
settle-requires c =
    let b = c.self.inside.ledger.book in
    let e = Booked c.in-Booked.from c.in-Booked.id c.in-Booked.outcome in
    let is_who : b.who ≡ c.who.result = sym (c.who.ensures ∙ ap (λ (b : LedgerBook). b.who) c.in_ok-keep.ensures.ok) in
    some_wait b.settings b.who b.events c.self.inside.tally c.self.inside.tally (sound_before b c.keep.new.self.book c.args.event c.in_ok-keep.ensures.ok c.journal.ensures.sound) c.self.invariant
    c.in-Booked.from c.in-Booked.id c.in-Booked.outcome (omega arith) (λ same. c.if-from-who.true (same ∙ is_who))
    (fits_within b c.args.self.now c.args.event e c.self.view_is c.in-Booked.is c.requires)

pub invariant_of-self-in-Forwarded-1 : goal.invariant_of-self-in-Forwarded-1
invariant_of-self-in-Forwarded-1 c =
    let b = c.self.inside.ledger.book in
    let i = c.in-Forwarded in
    let t = c.self.inside.tally in
    let e = Forwarded i.from i.id i.cents i.deadline in
    let long : length t.live ≡ 256 = omega arith in
    let wide : length t.waiting ≡ 256 = omega arith in
    after_keeping b c.keep.new.self.book c.args.event e c.arrive.new.self c.in_ok-keep.ensures.ok i.is
    (one_came b.settings b.who b.events t c.arrive.new.self (sound_before b c.keep.new.self.book c.args.event c.in_ok-keep.ensures.ok c.journal.ensures.sound) c.self.invariant
    i.from i.id i.cents i.deadline long wide (fits_within b c.args.self.now c.args.event e c.self.view_is i.is c.requires)
    c.arrive.ensures.live c.arrive.ensures.waiting c.arrive.ensures.openings)

pub invariant_of-self-then-from-who : goal.invariant_of-self-then-from-who
invariant_of-self-then-from-who c =
    let b = c.self.inside.ledger.book in
    let i = c.in-Booked in
    let t = c.self.inside.tally in
    let e = Booked i.from i.id i.outcome in
    let wide : length t.waiting ≡ 256 = omega arith in
    let is_who : b.who ≡ c.who.result = sym (c.who.ensures ∙ ap (λ (b : LedgerBook). b.who) c.in_ok-keep.ensures.ok) in
    after_keeping b c.keep.new.self.book c.args.event e c.settle.new.self c.in_ok-keep.ensures.ok i.is
    (one_booked b.settings b.who b.events t c.settle.new.self (sound_before b c.keep.new.self.book c.args.event c.in_ok-keep.ensures.ok c.journal.ensures.sound) c.self.invariant
    i.from i.id i.outcome wide (λ same. c.if-from-who.true (same ∙ is_who)) (fits_within b c.args.self.now c.args.event e c.self.view_is i.is c.requires)
    c.settle.ensures.live c.settle.ensures.waiting c.settle.ensures.openings)

pub invariant_of-self-else-from-who : goal.invariant_of-self-else-from-who
invariant_of-self-else-from-who c =
    let b = c.self.inside.ledger.book in
    let i = c.in-Booked in
    let is_who : i.from ≡ b.who = c.if-from-who.false ∙ c.who.ensures ∙ ap (λ (b : LedgerBook). b.who) c.in_ok-keep.ensures.ok in
    after_keeping b c.keep.new.self.book c.args.event (Booked b.who i.id i.outcome) c.self.inside.tally c.in_ok-keep.ensures.ok (i.is ∙ ap (λ (f : ℕ). Booked f i.id i.outcome) is_who)
    (own_booked b.who b.events i.id i.outcome c.self.inside.tally c.self.invariant)

pub invariant_of-self-in-Opened-1 : goal.invariant_of-self-in-Opened-1
invariant_of-self-in-Opened-1 c =
    let b = c.self.inside.ledger.book in
    after_keeping b c.keep.new.self.book c.args.event Opened c.begin.new.self c.in_ok-keep.ensures.ok c.in-Opened.is
    (begun b.settings b.who b.events c.self.inside.tally c.begin.new.self (sound_before b c.keep.new.self.book c.args.event c.in_ok-keep.ensures.ok c.journal.ensures.sound) c.self.invariant
    c.begin.ensures.live c.begin.ensures.waiting c.begin.ensures.openings)

pub invariant_of-self-in-Funded : goal.invariant_of-self-in-Funded
invariant_of-self-in-Funded c =
    let b = c.self.inside.ledger.book in
    let quiet : IsQuiet c.args.event = search rules in
    after_keeping b c.keep.new.self.book c.args.event c.args.event c.self.inside.tally c.in_ok-keep.ensures.ok refl (quiet_one b.who b.events c.args.event c.self.inside.tally quiet c.self.invariant)

pub invariant_of-self-in-Funded-2 : goal.invariant_of-self-in-Funded-2
invariant_of-self-in-Funded-2 c =
    let b = c.self.inside.ledger.book in
    let quiet : IsQuiet c.args.event = search rules in
    after_keeping b c.keep.new.self.book c.args.event c.args.event c.self.inside.tally c.in_ok-keep.ensures.ok refl (quiet_one b.who b.events c.args.event c.self.inside.tally quiet c.self.invariant)

pub invariant_of-self-in-Funded-3 : goal.invariant_of-self-in-Funded-3
invariant_of-self-in-Funded-3 c =
    let b = c.self.inside.ledger.book in
    let quiet : IsQuiet c.args.event = search rules in
    after_keeping b c.keep.new.self.book c.args.event c.args.event c.self.inside.tally c.in_ok-keep.ensures.ok refl (quiet_one b.who b.events c.args.event c.self.inside.tally quiet c.self.invariant)

pub invariant_of-self-in-Funded-4 : goal.invariant_of-self-in-Funded-4
invariant_of-self-in-Funded-4 c =
    let b = c.self.inside.ledger.book in
    let quiet : IsQuiet c.args.event = search rules in
    after_keeping b c.keep.new.self.book c.args.event c.args.event c.self.inside.tally c.in_ok-keep.ensures.ok refl (quiet_one b.who b.events c.args.event c.self.inside.tally quiet c.self.invariant)

pub arrive-requires-clause-waiting : goal.arrive-requires-clause-waiting
arrive-requires-clause-waiting c = grind (arith, common_steps)
