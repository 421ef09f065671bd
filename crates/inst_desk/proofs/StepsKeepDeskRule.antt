-- Each step keeps the rule of a desk.
use Rattle.std.proofs.Common.{◌≡◌, ℕ, ◌<◌, List, [], ◌∷◌, ◌++◌, set, sym, refl, ap, ◌∙◌, arith}
use Rattle.std.specs.Prelude.{sum_by}
use Rattle.std.proofs.lemmas.List.Sums.{sum_by-cons, sum_by-append}
use mathlib.Core.Option.{some}
use lib.ListN.{get_elem?}
use Rattle.crossbeam_queue.specs.Fifo.{Pushes, Pops, Forks, Merges, Learns}
use Rattle.inst_desk.specs.declared.account.Account.{Account}
use Rattle.inst_desk.specs.declared.job.Job.{Job}
use Rattle.inst_desk.specs.Account.{all_of, MayLie, LiesFirst}
use Rattle.inst_desk.specs.inner.Account.{with_put, with_taken, one_part, less_one_part, together, no_account}
use Rattle.inst_desk.specs.Rule.{IsTallied}
use Rattle.atomic_table.proofs.Lists.{set_else}
use Rattle.inst_desk.proofs.ListsOfAccounts.{sum_set, sum_snoc, weigh_set, weigh_snoc, each_set, each_snoc, nothing_done}

abbrev Idle : Account → Type 0
Idle v = v.parts ≡ 0 → (v.put ≡ []) × (v.taken ≡ [])

pub may_lie : (port : ℕ) (v : Account) → Learns IsTallied port v (MayLie v)
may_lie port v jobs views r at =
    let rest : List Account = set views port no_account in
    let idle : (i : ℕ) (u : Account) → get_elem? rest i ≡ some u → Idle u = each_set views port no_account Idle (λ z. (refl, refl)) (λ i u e. r.idle i u e) in
    record {
      others = record { parts = 0; put = all_of (λ u. u.put) rest; taken = all_of (λ u. u.taken) rest };
      alone = λ all.
          let s = sum_set (λ u. u.parts) views port v no_account at in let d = r.dealt in
          let none : sum_by (λ (u : Account). u.parts) rest ≡ 0 = omega arith in
          (nothing_done (λ u. u.put) rest none (λ i u e z. (idle i u e z).0), nothing_done (λ u. u.taken) rest none (λ i u e z. (idle i u e z).1));
      even = λ weight.
          let p = weigh_set weight (λ u. u.put) views port v no_account at in
          let t = weigh_set weight (λ u. u.taken) views port v no_account at in
          let e = r.even weight in
          let a = sum_by-append weight v.put (all_of (λ u. u.put) rest) in
          let b = sum_by-append weight (v.taken ++ all_of (λ u. u.taken) rest) jobs in
          let d = sum_by-append weight v.taken (all_of (λ u. u.taken) rest) in
          let f = sum_by-append weight (all_of (λ u. u.taken) views) jobs in omega arith;
    }

pub puts : (n port : ℕ) (v : Account) (job : Job) → 0 < v.parts → Pushes IsTallied n port v job (λ w. w ≡ with_put v job)
puts n port v job part jobs views room r at =
    let w : Account = with_put v job in (
      w,
      record {
        dealt = (let s = sum_set (λ u. u.parts) views port v w at in let d = r.dealt in omega arith);
        idle = each_set views port w Idle (λ z. absurd (omega arith)) (λ i u e. r.idle i u e);
        even = λ weight.
            let p = weigh_set weight (λ u. u.put) views port v w at in
            let t = weigh_set weight (λ u. u.taken) views port v w at in
            let e = r.even weight in
            let a = sum_by-append weight v.put (job ∷ []) in
            let b = sum_by-append weight (all_of (λ u. u.taken) (set views port w)) (jobs ++ job ∷ []) in
            let d = sum_by-append weight jobs (job ∷ []) in
            let f = sum_by-append weight (all_of (λ u. u.taken) views) jobs in omega arith;
      },
      refl,
    )

pub takes : (port : ℕ) (v : Account) → 0 < v.parts → Pops IsTallied port v (λ job w. (w ≡ with_taken v job) × LiesFirst v job)
takes port v part job jobs views r at =
    let w : Account = with_taken v job in (
      w,
      record {
        dealt = (let s = sum_set (λ u. u.parts) views port v w at in let d = r.dealt in omega arith);
        idle = each_set views port w Idle (λ z. absurd (omega arith)) (λ i u e. r.idle i u e);
        even = λ weight.
            let p = weigh_set weight (λ u. u.put) views port v w at in
            let t = weigh_set weight (λ u. u.taken) views port v w at in
            let e = r.even weight in
            let a = sum_by-append weight v.taken (job ∷ []) in
            let b = sum_by-append weight (all_of (λ u. u.taken) (set views port w)) jobs in
            let d = sum_by-cons weight job jobs in let g = sum_by-cons weight job [] in
            let f = sum_by-append weight (all_of (λ u. u.taken) views) (job ∷ jobs) in omega arith;
      },
      (refl, (jobs, may_lie port v (job ∷ jobs) views r at)),
    )

pub deals : (port : ℕ) (v : Account) → 1 < v.parts → Forks IsTallied port v (less_one_part v) (one_part v)
deals port v parts jobs views r at =
    let l : Account = less_one_part v in let new : Account = one_part v in let vs : List Account = set views port l in
    record {
      dealt = (let s = sum_set (λ u. u.parts) views port v l at in let t = sum_snoc (λ u. u.parts) vs new in let d = r.dealt in omega arith);
      idle = each_snoc vs new Idle (λ z. (refl, refl)) (each_set views port l Idle (λ z. absurd (omega arith)) (λ i u e. r.idle i u e));
      even = λ weight.
          let p = weigh_set weight (λ u. u.put) views port v l at in
          let t = weigh_set weight (λ u. u.taken) views port v l at in
          let p' = weigh_snoc weight (λ u. u.put) vs new in
          let t' = weigh_snoc weight (λ u. u.taken) vs new in
          let e = r.even weight in
          let b = sum_by-append weight (all_of (λ u. u.taken) (vs ++ new ∷ [])) jobs in
          let f = sum_by-append weight (all_of (λ u. u.taken) views) jobs in omega arith;
    }

pub gathers : (port : ℕ) (v : Account) (other : ℕ) (u : Account) → Merges IsTallied port v other u (together v u) no_account
gathers port v other u jobs views r at ne at' =
    let both : Account = together v u in let vs : List Account = set views port both in
    let old : (i : ℕ) (w : Account) → get_elem? views i ≡ some w → Idle w = λ i w e. r.idle i w e in
    let theirs : Idle u = λ z. old other u (sym (set_else views port other both ne) ∙ at') z in
    record {
      dealt = (let s = sum_set (λ w. w.parts) views port v both at in let t = sum_set (λ w. w.parts) vs other u no_account at' in let d = r.dealt in omega arith);
      idle = each_set vs other no_account Idle (λ z. (refl, refl))
          (each_set views port both Idle
          (λ z. (let a = old port v at (omega arith) in let b = theirs (omega arith) in (ap (λ (l : List Job). l ++ u.put) a.0 ∙ b.0, ap (λ (l : List Job). l ++ u.taken) a.1 ∙ b.1)))
          old);
      even = λ weight.
          let p = weigh_set weight (λ w. w.put) views port v both at in
          let t = weigh_set weight (λ w. w.taken) views port v both at in
          let p' = weigh_set weight (λ w. w.put) vs other u no_account at' in
          let t' = weigh_set weight (λ w. w.taken) vs other u no_account at' in
          let e = r.even weight in
          let a = sum_by-append weight v.put u.put in
          let d = sum_by-append weight v.taken u.taken in
          let b = sum_by-append weight (all_of (λ w. w.taken) (set vs other no_account)) jobs in
          let f = sum_by-append weight (all_of (λ w. w.taken) views) jobs in omega arith;
    }
