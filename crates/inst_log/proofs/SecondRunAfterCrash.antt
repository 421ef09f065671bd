-- What a crash left covers what was told, and the second run goes on from there.
use Rattle.std.proofs.Common.{◌≡◌, ℕ, List, [], ◌++◌, Some, length, drop, refl, sym, ◌∙◌, ap, append_assoc}
use Rattle.std.proofs.lemmas.List.{drop_at}
use Rattle.inst_log.specs.Layout.{recovered_lines}
use Rattle.inst_log.specs.Opening.{lines_after_settings}
use Rattle.inst_log.specs.Serving.{Replies, TellsKept, Tells, unsent_replies, Owing}
use Rattle.inst_log.specs.Restart.{SaysOnce, Begins}

-- what is owed of replies that begin so, behind what was told of them
owes : (f : Replies) (here more : List (List ℕ)) (told rest : List ℕ) → Begins f → f here ≡ told ++ rest → f (here ++ more) ≡ told ++ unsent_replies f here (length told) more
owes f here more told rest begins front =
    let (z, goes) = begins here more in
    let all : f (here ++ more) ≡ told ++ (rest ++ z) = goes ∙ ap (λ (l : List ℕ). l ++ z) front ∙ append_assoc told rest z in
    all ∙ ap (λ (l : List ℕ). told ++ l) (sym (ap (drop (length told)) all ∙ drop_at told (rest ++ z) (length told) refl))

pub says_once : (says again : Replies → Type 0) (first read more : List (List ℕ)) (may_leave : List ℕ → Type 0) (before told now : List ℕ) (settings c : List ℕ) (lines : List (List ℕ))
    → ((f : Replies) → says f → again f) → ((f : Replies) → says f → Begins f) → before ≡ []
    → TellsKept (lines_after_settings settings) may_leave (Owing says first 0) first read (Some before) (Some told) → may_leave c → lines ≡ lines_after_settings settings c ++ more
    → Tells (Owing again (lines_after_settings settings c) (length told)) more (Some told) (Some now) → SaysOnce says first read more now lines
says_once says again first read more may_leave before told now settings c lines same begins none t may stands w =
    let k = t.kept c may in
    let here = lines_after_settings settings c in
    let whole : told ≡ t.told = t.handed ∙ ap (λ (l : List ℕ). l ++ t.told) none in
    record {
      n = k.n;
      few = k.few;
      stands = stands ∙ ap (λ (ls : List (List ℕ)). ls ++ more) k.lines;
      replied = λ f said.
          let (rest, covers) = k.covers (unsent_replies f first 0) (f, said, refl) in
          let front : f here ≡ told ++ rest = ap f k.lines ∙ covers ∙ ap (λ (l : List ℕ). l ++ rest) (sym whole) in
          let owing = w.whole (unsent_replies f here (length told)) (f, same f said, refl) in
          w.handed ∙ ap (λ (l : List ℕ). told ++ l) (sym owing) ∙ sym (owes f here more told rest (begins f said) front) ∙ ap f (sym stands);
    }

-- what stands behind the settings, once the second run has opened the log
pub stands_behind : (settings file now : List ℕ) (more : List (List ℕ)) → recovered_lines now ≡ (recovered_lines settings ++ lines_after_settings settings file) ++ more → lines_after_settings settings now ≡ lines_after_settings settings file ++ more
stands_behind settings file now more is =
    let lines = recovered_lines settings in
    ap (drop (length lines)) (is ∙ append_assoc lines (lines_after_settings settings file) more) ∙ drop_at lines (lines_after_settings settings file ++ more) (length lines) refl
