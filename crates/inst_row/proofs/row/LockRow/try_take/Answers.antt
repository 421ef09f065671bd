use Rattle.std.proofs.Common.{rules, arith, ◌≡◌, ◌<◌, Some, Contains, refl, sym, ap, subst, IfSome}
use Rattle.inst_row.specs.View.{front}
use Rattle.inst_row.specs.Row.{row_id, key_of}
use Rattle.inst_row.specs.Seated.{IsFoundBehind, HasTaken, view_of}
use Rattle.inst_row.proofs.Locks.{takes_rule, refront}
use Rattle.inst_row.proofs.row.LockRow.try_take.Goals as goal

pub compare_exchange-requires : goal.compare_exchange-requires
compare_exchange-requires g c =
    let part : 0 < (view_of c.loop.seat).parts = subst (λ n. 0 < n) (ap (λ me. me.0.parts) (sym c.loop.invariant.1)) c.requires.free.part in
    (search rules, search rules, takes_rule g.L.Lawful.law g.L.Lawful.history _ _ _ c.args.lock (omega arith) _ c.requires.word _ part)

pub exchange-requires : goal.exchange-requires
exchange-requires g c = let t = c.compare_exchange.ensures.2.0 c.if-compare_exchange-eq0.true c.args.lock refl in
    (search rules, (Some t.0, refront _ _ _ _ t.4))

pub returns-then-compare_exchange-eq0-clause-found : goal.returns-then-compare_exchange-eq0-clause-found
returns-then-compare_exchange-eq0-clause-found g c =
    let t = c.compare_exchange.ensures.2.0 c.if-compare_exchange-eq0.true c.args.lock refl in
    let found : c.exchange.result ≡ Some t.0 = search rules in
    let seen_still = ap (λ me. me.0.fronts) (sym c.loop.invariant.1) in
    subst (λ o. IfSome o (λ value. IsFoundBehind g.L.Lawful.law g.L.Lawful.history (key_of c.args.self.now) c.args.lock value c.args.seat.now)) (sym found) record {
      lawful = search rules;
      goes_on = λ h seen. t.2 (front c.args.lock h) (subst (λ fronts. Contains fronts (front c.args.lock h)) seen_still seen) refl;
    }

pub returns-then-compare_exchange-eq0-clause-taken : goal.returns-then-compare_exchange-eq0-clause-taken
returns-then-compare_exchange-eq0-clause-taken g c =
    let t = c.compare_exchange.ensures.2.0 c.if-compare_exchange-eq0.true c.args.lock refl in
    let found : c.exchange.result ≡ Some t.0 = search rules in
    subst (λ o. IfSome o (λ value. HasTaken (row_id c.args.self.now) (key_of c.args.self.now) c.args.lock (g.L.Lawful.history value) c.args.seat.now record { seat = c.exchange.new.seat })) (sym found) record {
      on = search rules;
      has = search rules;
      sees = search rules;
    }

pub returns-then-compare_exchange-eq0-clause-on : goal.returns-then-compare_exchange-eq0-clause-on
returns-then-compare_exchange-eq0-clause-on g c =
    let t = c.compare_exchange.ensures.2.0 c.if-compare_exchange-eq0.true c.args.lock refl in search rules

pub returns-then-compare_exchange-eq0-clause-none : goal.returns-then-compare_exchange-eq0-clause-none
returns-then-compare_exchange-eq0-clause-none g c =
    let t = c.compare_exchange.ensures.2.0 c.if-compare_exchange-eq0.true c.args.lock refl in search rules
