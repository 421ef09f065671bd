-- What a hand with all parts knows of the jobs that lie on its desk.
use Rattle.std.proofs.Common.{◌≡◌, ℕ, ◌+◌, ◌<◌, ◌≤◌, List, [], ◌∷◌, ◌++◌, length, sym, refl, ap, ◌∙◌, arith}
use Rattle.std.specs.Prelude.{sum_by}
use Rattle.std.proofs.lemmas.List.{append-nil, length-append}
use Rattle.std.proofs.lemmas.List.Sums.{sum_by-cons, sum_by-append}
use Rattle.crossbeam_queue.specs.Fifo.{Held}
use Rattle.inst_desk.specs.declared.account.Account.{Account}
use Rattle.inst_desk.specs.declared.job.Job.{Job}
use Rattle.inst_desk.specs.Account.{EachAsOften, account, MayLie, LiesFirst}

weigh_one : (jobs : List Job) → sum_by (λ j. 1) jobs ≡ length jobs
weigh_one [] = refl
weigh_one (j ∷ js) = let a = sum_by-cons (λ (x : Job). 1) j js in let r = weigh_one js in omega arith

pub only_hand : (v : Account) (jobs : List Job) → v.parts ≡ 16 → MayLie v jobs → EachAsOften v.put (v.taken ++ jobs)
only_hand v jobs all m weight =
    let none = m.alone all in
    let p : sum_by weight m.others.put ≡ 0 = ap (sum_by weight) none.0 in
    let t : sum_by weight m.others.taken ≡ 0 = ap (sum_by weight) none.1 in
    let e = m.even weight in
    let a = sum_by-append weight v.put m.others.put in
    let b = sum_by-append weight (v.taken ++ m.others.taken) jobs in
    let d = sum_by-append weight v.taken m.others.taken in
    let f = sum_by-append weight v.taken jobs in omega arith

pub lengths : (v : Account) (jobs : List Job) → v.parts ≡ 16 → MayLie v jobs → length v.put ≡ length v.taken + length jobs
lengths v jobs all m =
    let e = only_hand v jobs all m (λ j. 1) in
    let a = weigh_one v.put in let b = weigh_one v.taken in let d = weigh_one jobs in
    let f = sum_by-append (λ (j : Job). 1) v.taken jobs in omega arith

pub some_part : (v : Account) (put taken : List Job) → v ≡ account 16 put taken → 0 < v.parts
some_part v put taken e = let p : v.parts ≡ 16 = ap (λ (u : Account). u.parts) e in omega arith

pub begun : (v w : Account) (left : List Job) → w ≡ v → v.parts ≡ 16 → left ≡ [] → w ≡ account 16 v.put (v.taken ++ left)
begun v w left same all none =
    same ∙ (ap (λ n. account n v.put v.taken) all ∙ ap (λ (l : List Job). account 16 v.put l) (sym (append-nil v.taken) ∙ ap (λ (l : List Job). v.taken ++ l) (sym none)))

-- there is room for a job that is taken
pub has_room : (v : Account) (put taken left : List Job) (job : Job) (room : ℕ) → v ≡ account 16 put (taken ++ left) → LiesFirst v job → length put ≤ length taken + room → length left < room
has_room v put taken left job room is lies short =
    let all : v.parts ≡ 16 = ap (λ (u : Account). u.parts) is in
    let l = lengths v (job ∷ lies.0) all lies.1 in
    let p : length v.put ≡ length put = ap (λ (u : Account). length u.put) is in
    let t : length v.taken ≡ length (taken ++ left) = ap (λ (u : Account). length u.taken) is in
    let a = length-append taken left in omega arith

-- what was put is at most what was taken and what may still lie there
pub short : (v : Account) (n room : ℕ) (held : Held n (MayLie v)) → v.parts ≡ 16 → n ≤ room → length v.put ≤ length v.taken + room
short v n room held all most = let l = lengths v held.0 all held.2 in let e = held.1 in omega arith
